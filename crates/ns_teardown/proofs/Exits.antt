-- What an exit comes to in the model.
use Rattle.std.proofs.Common.{◌≡◌, ◌≢◌, ℕ, ◌==◌, Bool, true, false, Option, Some, None, if◌then◌else◌, refl, sym, ap, ◌∙◌}
use Rattle.std.specs.Option.{option_eq}
use Rattle.std.proofs.lemmas.Bool.{eqb-true}
use Rattle.pid_types.specs.declared.plain.Row.{Row}
use Rattle.pid_types.specs.declared.reply.Reply.TheVariants.{Done}
use Rattle.pid_types.specs.declared.reply.Refusal.TheVariants.{NoCaller, RootInit}
use Rattle.pid_types.specs.State.{State}
use Rattle.pid_types.specs.Names.{root_number}
use Rattle.pid_types.specs.Threads.{caller_of, running}
use Rattle.pid_types.specs.Outcome.{Outcome, refused, changed, for_found, refuse_if}
use Rattle.pid_types.specs.Exit.{ends, is_init, handed_over, fall, exit}
use Rattle.pid_types.specs.Leave.{leave, without_caller}
use Rattle.pid_types.specs.Step.{step}
use Rattle.pid_types.specs.declared.call.Call.TheVariants.{Exit}
use Rattle.pid_numbers.specs.Numbering.{id_at, number_of}
use Rattle.task_tree.specs.declared.Task.{Task}
use Rattle.task_tree.specs.Tree.{task_at}
use Rattle.task_table.specs.Store.{Store}
use Rattle.task_table.specs.View.{name_at, row_of, state_of}
use Rattle.task_table.specs.Lawful.{IsLawful}
use Rattle.task_table.specs.Whole.{HasParents}
use Rattle.thread_view.specs.Calling.{HasProcesses, IsWholeWithThreads}
use Rattle.thread_view.specs.Full.{full_state}
use Rattle.thread_view.proofs.StaysWhole.{stays-whole}
use Rattle.task_table.proofs.Keys.{number-is_key}
use Rattle.task_table.proofs.LookUps.{named, root-number}

-- where the number is 1, and where it is not
pub is-one : (o : Option ℕ) → option_eq ◌==◌ o (Some 1) ≡ true → o ≡ Some 1
is-one None e = absurd (cc)
is-one (Some n) e = ap Some (eqb-true n 1 e)

pub is-not-one : (o : Option ℕ) → option_eq ◌==◌ o (Some 1) ≡ false → o ≢ Some 1
is-not-one o e same = absurd (let z : true ≡ false = sym (ap (λ x. option_eq ◌==◌ x (Some 1)) same) ∙ e in cc)

module _ (s : Store) (l : IsLawful s) (k : ℕ) (t : Task) (at : task_at s.tree k ≡ Some t) where
  -- whether it is number 1 of the root namespace
  pub first-in-root : option_eq ◌==◌ (number_of s.numbering k 0) (Some 1) ≡ (root_number (name_at s.numbering k) == 1)
  first-in-root = let u = named s l k t at in ap (λ o. option_eq ◌==◌ o (Some 1)) (root-number s l k u.0 u.1)

  -- whether it is the init of its own namespace
  pub first-in-own : (space : ℕ) → id_at s.numbering space ≡ Some (name_at s.numbering k).space → is_init (state_of s) (row_of s k t) ≡ option_eq ◌==◌ (number_of s.numbering k space) (Some 1)
  first-in-own space id = let u = named s l k t at in ap (λ o. option_eq ◌==◌ o (Some 1)) (number-is_key s.numbering l.numbering space (name_at s.numbering k).space k u.0 id u.1)

module _ (state : State) (n : ℕ) (status : ℕ) (row : Row) (found : caller_of state n ≡ Some row) where
  abbrev falls_or_ends : Row → Outcome
  falls_or_ends r = if is_init state r then changed (fall state r status) Done else changed (handed_over state r status) Done

  asked : (b : Bool) → (root_number row.name == 1) ≡ b → exit state n status ≡ refuse_if state b RootInit (falls_or_ends row)
  unfolding exit
  asked b top =
      ap (λ o. for_found state o NoCaller (λ r. refuse_if state (root_number r.name == 1) RootInit (falls_or_ends r))) found ∙ ap (λ b. refuse_if state b RootInit (falls_or_ends row)) top

  pub exit-refused : (root_number row.name == 1) ≡ true → exit state n status ≡ refused state RootInit
  exit-refused top = asked true top

  pub exit-falls : (root_number row.name == 1) ≡ false → is_init state row ≡ true → exit state n status ≡ changed (fall state row status) Done
  exit-falls top init = asked false top ∙ ap (λ b. if b then changed (fall state row status) Done else changed (handed_over state row status) Done) init

  pub exit-ends : (root_number row.name == 1) ≡ false → is_init state row ≡ false → exit state n status ≡ changed (handed_over state row status) Done
  exit-ends top init = asked false top ∙ ap (λ b. if b then changed (fall state row status) Done else changed (handed_over state row status) Done) init

  -- either way the reply is one
  pub exit-done : (root_number row.name == 1) ≡ false → Done ≡ (exit state n status).reply
  exit-done top = go (is_init state row) refl
    where
      go : (b : Bool) → is_init state row ≡ b → Done ≡ (exit state n status).reply
      go true init = sym (ap (λ (o : Outcome). o.reply) (exit-falls top init))
      go false init = sym (ap (λ (o : Outcome). o.reply) (exit-ends top init))

-- what an exit comes to is whole
pub whole-after : (s s' : Store) (n status : ℕ) → IsWholeWithThreads s → full_state s' ≡ (exit (full_state s) n status).state → HasParents s' → HasProcesses s' → IsWholeWithThreads s'
unfolding step
whole-after s s' n status = stays-whole s s' (Exit n status) refl

-- the leave of the last thread that runs is an exit
pub leave-last : (state : State) (n status : ℕ) (row : Row) → caller_of state n ≡ Some row → (running state row == 1) ≡ true → leave state n status ≡ exit state n status
unfolding leave exit
leave-last state n status row found last =
    ap (λ o. for_found state o NoCaller (λ caller. if running state caller == 1 then ends state status caller else changed (without_caller state n caller) Done)) found
    ∙ ap (λ (b : Bool). if b then ends state status row else changed (without_caller state n row) Done) last
    ∙ sym (ap (λ o. for_found state o NoCaller (ends state status)) found)
