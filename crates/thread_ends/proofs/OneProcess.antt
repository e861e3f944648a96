-- The threads of one process that end one after the other.
use Rattle.std.proofs.Common.{◌≡◌, ◌≢◌, ◌⊎◌, inl, inr, ℕ, ◌<◌, ◌-◌, ◌==◌, Option, Some, None, is_some, if◌then◌else◌, refl, sym, ap, ◌∙◌, arith, option_map}
use Rattle.std.specs.Prelude.{slice_set}
use Rattle.std.specs.Option.{option_map_or}
use Rattle.std.proofs.lemmas.Bool.{cases_eq, eq-eqb, ne_eqb}
use Rattle.std.proofs.lemmas.List.{get_or-set_same, get_or-set_other}
use Rattle.process_threads.specs.declared.Thread.{Thread}
use Rattle.process_threads.specs.Threads.{ThreadsByKey, thread_with, thread_process}
use Rattle.task_table.specs.Store.{IsThread, all_threads, one_if}
use Rattle.task_table.proofs.Changes.{count-set, in_range}
use Rattle.thread_ends.specs.Ending.{unless_ends}

-- each thread is as it was, or it was one of the process and is gone
abbrev pub HaveEnded : ℕ → ThreadsByKey → ThreadsByKey → Type 0
HaveEnded process old new =
    (k : ℕ) → (thread_with new k ≡ thread_with old k) ⊎ ((thread_with new k ≡ None) × (thread_process old k ≡ Some process))

module _ (process : ℕ) (old mid new : ThreadsByKey) (ended : HaveEnded process old mid) (key : ℕ) (t : Thread) (there : IsThread mid key t) (own : t.process ≡ process)
    (set : new ≡ record mid { threads = slice_set mid.threads key None }) where
  -- one more is gone
  pub one-more : HaveEnded process old new
  one-more k = elim (cases_eq k key) [
    | inl same ↦ inr (ap (thread_with new) same ∙ gone, ap (thread_process old) same ∙ was (ended key))
    | inr differs ↦ other (kept_one differs) (ended k)
  ]
    where
      gone : thread_with new key ≡ None
      gone = ap (λ x. thread_with x key) set ∙ get_or-set_same mid.threads key None None (in_range mid.threads key (ap is_some there))

      was : (thread_with mid key ≡ thread_with old key) ⊎ ((thread_with mid key ≡ None) × (thread_process old key ≡ Some process)) → thread_process old key ≡ Some process
      was (inl same) = ap (option_map (λ (t : Thread). t.process)) (sym same ∙ there) ∙ ap Some own
      was (inr (none, is)) = is

      kept_one : k ≢ key → thread_with new k ≡ thread_with mid k
      kept_one differs = ap (λ x. thread_with x k) set ∙ get_or-set_other mid.threads key k None None differs

      other : thread_with new k ≡ thread_with mid k → (thread_with mid k ≡ thread_with old k) ⊎ ((thread_with mid k ≡ None) × (thread_process old k ≡ Some process))
          → (thread_with new k ≡ thread_with old k) ⊎ ((thread_with new k ≡ None) × (thread_process old k ≡ Some process))
      other same (inl e) = inl (same ∙ e)
      other same (inr (none, is)) = inr (same ∙ none, is)

  -- so there are less
  pub one-less : all_threads new < all_threads mid
  one-less =
      let counted = count-set (λ (o : Option Thread). is_some o) mid.threads key None None (in_range mid.threads key (ap is_some there)) in
      let one = ap (λ (o : Option Thread). one_if (is_some o)) there in
      let same = ap all_threads set in
      omega (arith, counted, one, same)

-- when none is left, the threads are those of other processes
pub all-ended : (process : ℕ) (old new : ThreadsByKey) → HaveEnded process old new → ((k : ℕ) → thread_process new k ≢ Some process)
    → (k : ℕ) → thread_with new k ≡ unless_ends (λ p. p == process) (thread_with old k)
all-ended process old new ended none k = go (thread_with old k) refl (ended k)
  where
    go : (o : Option Thread) → thread_with old k ≡ o → (thread_with new k ≡ thread_with old k) ⊎ ((thread_with new k ≡ None) × (thread_process old k ≡ Some process))
        → thread_with new k ≡ unless_ends (λ p. p == process) (thread_with old k)
    go None e (inl same) = same ∙ e ∙ sym (ap (unless_ends (λ p. p == process)) e)
    go None e (inr (gone, own)) = gone ∙ sym (ap (unless_ends (λ p. p == process)) e)
    go (Some t) e (inr (gone, own)) =
        let is : Some t.process ≡ Some process = sym (ap (option_map (λ (t : Thread). t.process)) e) ∙ own in
        gone ∙ sym (ap (unless_ends (λ p. p == process)) e ∙ ap (λ b. if b then None else Some t) (eq-eqb t.process process (ap (λ o. option_map_or (λ n. n) o process) is)))
    go (Some t) e (inl same) = elim (cases_eq t.process process) [
      | inl own ↦ absurd (none k (ap (option_map (λ (t : Thread). t.process)) (same ∙ e) ∙ ap Some own))
      | inr differs ↦ same ∙ e ∙ sym (ap (unless_ends (λ p. p == process)) e ∙ ap (λ b. if b then None else Some t) (ne_eqb t.process process differs))
    ]
