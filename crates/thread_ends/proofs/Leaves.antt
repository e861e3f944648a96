-- What a leave comes to, by who calls and by how many run.
use Rattle.std.proofs.Common.{◌≡◌, ◌∙◌, ℕ, ◌==◌, Bool, false, Some, None, if◌then◌else◌, ap}
use Rattle.std.specs.Option.{option_map_or}
use Rattle.pid_types.specs.declared.plain.Row.{Row}
use Rattle.pid_types.specs.declared.plain.Thread.{Thread as ThreadRow}
use Rattle.pid_types.specs.declared.reply.Reply.TheVariants.{Done}
use Rattle.pid_types.specs.declared.reply.Refusal.TheVariants.{NoCaller}
use Rattle.pid_types.specs.State.{State}
use Rattle.pid_types.specs.Exit.{ends}
use Rattle.pid_types.specs.Leave.{leave, without_caller, without_first, without_thread}
use Rattle.pid_types.specs.Outcome.{changed, for_found, refused}
use Rattle.pid_types.specs.Threads.{caller_of, running, thread_at}

module _ (state : State) (n status : ℕ) where
  -- nobody calls
  pub leave-nobody : caller_of state n ≡ None → leave state n status ≡ refused state NoCaller
  unfolding leave
  leave-nobody none = ap (λ o. for_found state o NoCaller (λ caller. if running state caller == 1 then ends state status caller else changed (without_caller state n caller) Done)) none

  module _ (caller : Row) (found : caller_of state n ≡ Some caller) (beside : (running state caller == 1) ≡ false) where
    goes_on : leave state n status ≡ changed (without_caller state n caller) Done
    unfolding leave
    goes_on =
        ap (λ o. for_found state o NoCaller (λ caller. if running state caller == 1 then ends state status caller else changed (without_caller state n caller) Done)) found
        ∙ ap (λ (b : Bool). if b then ends state status caller else changed (without_caller state n caller) Done) beside

    -- a thread beside the first one calls
    pub leave-other : (t : ThreadRow) → thread_at state n ≡ Some t → leave state n status ≡ changed (without_thread state n) Done
    leave-other t at = goes_on ∙ ap (λ o. changed (option_map_or (λ t. without_thread state n) o (without_first state caller)) Done) at

    -- the first one calls
    pub leave-first : thread_at state n ≡ None → leave state n status ≡ changed (without_first state caller) Done
    leave-first none = goes_on ∙ ap (λ o. changed (option_map_or (λ t. without_thread state n) o (without_first state caller)) Done) none
