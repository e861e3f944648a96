-- What setsid(2) comes to in the model.
use Rattle.std.proofs.Common.{◌≡◌, ◌≢◌, ℕ, Some, ap, ◌∙◌}
use Rattle.pid_types.specs.declared.reply.Reply.TheVariants.{Number}
use Rattle.pid_types.specs.declared.reply.Refusal.TheVariants.{NoCaller, IsLeader}
use Rattle.pid_types.specs.Names.{live_row, number_or_zero, with_row}
use Rattle.pid_types.specs.Outcome.{Outcome, changed, refused, for_found, refuse_if}
use Rattle.pid_types.specs.Groups.{has_members, set_sid, start_session}
use Rattle.task_tree.specs.declared.Task.{Task}
use Rattle.task_tree.specs.Tree.{task_at}
use Rattle.groups_sessions.specs.Membership.{group_of, HasMembers}
use Rattle.task_table.specs.Store.{Store}
use Rattle.task_table.specs.View.{name_at, row_of, state_of}
use Rattle.task_table.specs.Lawful.{IsLawful}
use Rattle.set_calls.proofs.Members.{some-members, no-members}

module _ (s : Store) (l : IsLawful s) (k : ℕ) (t : Task) (at : task_at s.tree k ≡ Some t) (n : ℕ) (live : live_row (state_of s).rows n ≡ Some (row_of s k t)) where
  -- what becomes of the caller's row
  led : Outcome
  led = changed (with_row (state_of s) (name_at s.numbering k) start_session) (Number (number_or_zero (state_of s).spaces (name_at s.numbering k) (name_at s.numbering k).space))

  found : set_sid (state_of s) n ≡ refuse_if (state_of s) (has_members (state_of s) (name_at s.numbering k)) IsLeader led
  unfolding set_sid led
  found =
      ap (λ o. for_found (state_of s) o NoCaller (λ caller. refuse_if (state_of s) (has_members (state_of s) caller.name) IsLeader
      (changed (with_row (state_of s) caller.name start_session) (Number (number_or_zero (state_of s).spaces caller.name caller.name.space))))) live

  -- somebody is in the group
  pub refuses : HasMembers s.members k → set_sid (state_of s) n ≡ refused (state_of s) IsLeader
  refuses some = found ∙ ap (λ b. refuse_if (state_of s) b IsLeader led) (some-members s l k t at some)

  -- nobody is
  pub leads : ((j : ℕ) → group_of s.members j ≢ Some k)
      → set_sid (state_of s) n ≡ changed (with_row (state_of s) (name_at s.numbering k) start_session) (Number (number_or_zero (state_of s).spaces (name_at s.numbering k) (name_at s.numbering k).space))
  unfolding led
  leads none = found ∙ ap (λ b. refuse_if (state_of s) b IsLeader led) (no-members s l k t at none)
