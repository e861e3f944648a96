-- The names in use in the state with threads are those of a store's identifiers, and what is swept of it is the store's.
use Rattle.std.proofs.Common.{◌≡◌, inl, inr, ℕ, Bool, true, false, not, ◌++◌, map, Some, refl, sym, ap, subst, ◌∙◌}
use Rattle.pid_types.proofs.General.{held}
use Rattle.pid_types.specs.declared.plain.Name.{Name}
use Rattle.pid_types.specs.declared.plain.Thread.{Thread as ThreadRow}
use Rattle.pid_types.specs.Membership.{IsIn}
use Rattle.pid_types.specs.State.{State}
use Rattle.pid_types.specs.Names.{in_use, names_in_use}
use Rattle.pid_types.specs.Outcome.{sweep}
use Rattle.model_laws.proofs.Lists.{IsIn-append_right}
use Rattle.model_laws.proofs.Names.{in_use_cases, thread_in_use}
use Rattle.pid_numbers.specs.Numbering.{Numbering, Identifier, identifier_at, is_thread, is_used}
use Rattle.process_threads.specs.Threads.{thread_with}
use Rattle.task_table.specs.Store.{Store, IsLess, IsThreaded}
use Rattle.task_table.specs.View.{name_at, spaces_of, state_of}
use Rattle.task_table.specs.Lawful.{HasLaws, IsLawful}
use Rattle.task_table.proofs.InUse.{AreNamed, used-from, used-name}
use Rattle.task_table.proofs.Changed.{swept-spaces}
use Rattle.thread_view.specs.Full.{full_state}
use Rattle.thread_view.proofs.Threads.{thread-named, in-threads, threads-in}

module _ (s : Store) (l : IsLawful s) (w : IsThreaded s.numbering s.threads) where
  name_from : (a : Name) → IsIn a (in_use (full_state s)) → (i : ℕ) × (v : Identifier) × (identifier_at s.numbering i ≡ Some v) × (a ≡ name_at s.numbering i)
  name_from a i = elim (in_use_cases (full_state s) a i) [
    | inl used ↦ used-from s l a used
    | inr t ↦
        let f = in-threads s l w t.0 t.1 in
        let u = thread-named s l w f.0 f.1 f.2 in
        (f.0, u.0, u.1, t.2 ∙ ap (λ (x : ThreadRow). x.name) f.3)
  ]

  name_to : (i : ℕ) (v : Identifier) → identifier_at s.numbering i ≡ Some v → IsIn (name_at s.numbering i) (in_use (full_state s))
  name_to i v e = go (is_used v) refl
    where
      go : (b : Bool) → is_used v ≡ b → IsIn (name_at s.numbering i) (in_use (full_state s))
      go true is = IsIn-append_right (name_at s.numbering i) (map (λ (t : ThreadRow). t.name) (full_state s).threads) (names_in_use (state_of s).rows) (used-name s l i v e is)
      go false is =
          let t = held (thread_with s.threads i) (sym (w.held i) ∙ ap is_thread e ∙ ap not is) in
          thread_in_use (full_state s) _ (threads-in s l w i t.0 t.1)

  -- a state with the store's processes and threads has the names of its identifiers
  pub named-full : (state : State) → state.rows ≡ (state_of s).rows → state.threads ≡ (full_state s).threads → AreNamed s state
  named-full state rows threads =
      let are : in_use state ≡ in_use (full_state s) = (λ i. map (λ (t : ThreadRow). t.name) (threads i) ++ names_in_use (rows i)) in record {
        from = λ a i. name_from a (subst (IsIn a) are i);
        to = λ i v e. subst (IsIn (name_at s.numbering i)) (sym are) (name_to i v e);
      }

-- a state with a store's processes, threads and marks, whose namespaces are those before some went, is swept to the store's state
pub swept-full : (m : Numbering) → HasLaws m → (s' : Store) → IsLawful s' → IsThreaded s'.numbering s'.threads → IsLess m s'.numbering → (state : State)
    → state.rows ≡ (state_of s').rows → state.threads ≡ (full_state s').threads → state.left ≡ (full_state s').left → state.spaces ≡ spaces_of m
    → state.controls ≡ s'.charges.controls → state.pid_max ≡ s'.numbering.pid_max → sweep state ≡ full_state s'
swept-full m h s' l' w' less state rows threads left spaces controls bound =
    swept-spaces m h s' l' less state (named-full s' l' w' state rows threads) spaces
    ∙ (λ i. record { rows = rows i; threads = threads i; left = left i; spaces = spaces_of s'.numbering; controls = controls i; pid_max = bound i })
