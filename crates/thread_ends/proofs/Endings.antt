-- Processes that end one after the other. What is said of a process counts where it has a thread or a mark: then it lives.
use Rattle.std.proofs.Common.{◌≡◌, ◌≢◌, inl, inr, ℕ, ◌==◌, ◌&&◌, ◌||◌, Bool, true, false, not, Option, Some, None, if◌then◌else◌, refl, sym, ap, ◌∙◌}
use Rattle.std.specs.Prelude.{slice_index_or}
use Rattle.std.specs.Option.{option_map_or}
use Rattle.std.proofs.lemmas.Bool.{cases_eq, eq-eqb, ne_eqb}
use Rattle.process_threads.specs.declared.Thread.{Thread}
use Rattle.process_threads.specs.Threads.{ThreadsByKey, thread_with, left_at}
use Rattle.task_tree.specs.Tree.{task_at, has_live}
use Rattle.task_table.specs.Store.{Store, IsStore, HasNoThreads}
use Rattle.thread_view.specs.Calling.{HasProcesses}
use Rattle.thread_ends.specs.Ending.{EndsProcesses, Unmarks, unless_ends}

-- where no process ends all is as it was
pub ends-none : (threads : ThreadsByKey) (ends : ℕ → Bool) → ((p : ℕ) → ends p ≡ false) → EndsProcesses ends threads threads
ends-none threads ends none = record {
  threads = λ k. go (thread_with threads k);
  left = λ p. sym (ap (λ b. left_at threads p && not b) (none p) ∙ and_true (left_at threads p));
}
  where
    and_true : (b : Bool) → (b && true) ≡ b
    and_true true = refl
    and_true false = refl

    go : (o : Option Thread) → o ≡ unless_ends ends o
    go None = refl
    go (Some t) = sym (ap (λ b. if b then None else Some t) (none t.process))

-- where there is no thread, none is left
pub ends-alone : (old new : ThreadsByKey) (ends : ℕ → Bool) → EndsProcesses ends old new → HasNoThreads old → HasNoThreads new
ends-alone old new ends e alone = record {
  none = λ k. e.threads k ∙ ap (unless_ends ends) (alone.none k);
  stays = λ p. e.left p ∙ ap (λ b. b && not (ends p)) (alone.stays p);
}

-- one process's mark goes, and then its threads
pub ends-one : (old mid new : ThreadsByKey) (key : ℕ) → Unmarks key old mid → ((k : ℕ) → thread_with new k ≡ unless_ends (λ p. p == key) (thread_with mid k))
    → new.left ≡ mid.left → EndsProcesses (λ p. p == key) old new
ends-one old mid new key u threads left = record {
  threads = λ k. threads k ∙ ap (λ ts. unless_ends (λ p. p == key) (slice_index_or ts k None)) u.threads;
  left = λ p. ap (λ ms. slice_index_or ms p false) left ∙ u.left p;
}

module _ (s : Store) (agree : IsStore s) (owners : HasProcesses s) where
  -- what ends is told by any test that says the same of live processes
  pub ends-same : (new : ThreadsByKey) (ends ends' : ℕ → Bool) → ((p : ℕ) → has_live (task_at s.tree p) ≡ true → ends' p ≡ ends p)
      → EndsProcesses ends s.threads new → EndsProcesses ends' s.threads new
  ends-same new ends ends' same e = record {
    threads = λ k. e.threads k ∙ go k (thread_with s.threads k) refl;
    left = λ p. e.left p ∙ mark p (left_at s.threads p) refl;
  }
    where
      go : (k : ℕ) (o : Option Thread) → thread_with s.threads k ≡ o → unless_ends ends (thread_with s.threads k) ≡ unless_ends ends' (thread_with s.threads k)
      go k None at = ap (unless_ends ends) at ∙ sym (ap (unless_ends ends') at)
      go k (Some t) at = ap (unless_ends ends) at ∙ ap (λ b. if b then None else Some t) (sym (same t.process (owners k t at))) ∙ sym (ap (unless_ends ends') at)

      mark : (p : ℕ) (b : Bool) → left_at s.threads p ≡ b → (left_at s.threads p && not (ends p)) ≡ (left_at s.threads p && not (ends' p))
      mark p false at = ap (λ b. b && not (ends p)) at ∙ sym (ap (λ b. b && not (ends' p)) at)
      mark p true at = ap (λ b. left_at s.threads p && not b) (sym (same p (agree.marks p at)))

  -- some end, and then others
  pub ends-both : (mid new : ThreadsByKey) (first second both : ℕ → Bool) → ((p : ℕ) → has_live (task_at s.tree p) ≡ true → both p ≡ (first p || second p))
      → EndsProcesses first s.threads mid → EndsProcesses second mid new → EndsProcesses both s.threads new
  ends-both mid new first second both all e f = ends-same new (λ p. first p || second p) both all (record {
    threads = λ k. f.threads k ∙ ap (unless_ends second) (e.threads k) ∙ go (thread_with s.threads k);
    left = λ p. f.left p ∙ ap (λ b. b && not (second p)) (e.left p) ∙ mark (left_at s.threads p) (first p) (second p);
  })
    where
      one : (a b : Bool) (t : Thread) → b ≡ second t.process → unless_ends second (if a then None else Some t) ≡ (if a || b then None else Some t)
      one true b t is = refl
      one false b t is = ap (λ b. if b then None else Some t) (sym is)

      go : (o : Option Thread) → unless_ends second (unless_ends first o) ≡ unless_ends (λ p. first p || second p) o
      go None = refl
      go (Some t) = one (first t.process) (second t.process) t refl

      mark : (a b c : Bool) → ((a && not b) && not c) ≡ (a && not (b || c))
      mark false b c = refl
      mark true true c = refl
      mark true false c = refl

-- where one process ends or goes on alone, and no other task changes, the processes of the threads that are left live as before
pub owners-left : (s s' : Store) (key : ℕ) → HasProcesses s → EndsProcesses (λ p. p == key) s.threads s'.threads
    → ((k : ℕ) → k ≢ key → task_at s'.tree k ≡ task_at s.tree k) → HasProcesses s'
owners-left s s' key owners e others k v is = go (thread_with s.threads k) refl
  where
    go : (o : Option Thread) → thread_with s.threads k ≡ o → has_live (task_at s'.tree v.process) ≡ true
    go None was = absurd (let z : None ≡ Some v = sym (e.threads k ∙ ap (unless_ends (λ p. p == key)) was) ∙ is in cc)
    go (Some x) was = elim (cases_eq x.process key) [
      | inl same ↦
          absurd (let z : None ≡ Some v = sym (e.threads k ∙ ap (unless_ends (λ p. p == key)) was ∙ ap (λ b. if b then None else Some x) (eq-eqb x.process key same)) ∙ is in cc)
      | inr differs ↦
          let one : Some x ≡ Some v = sym (e.threads k ∙ ap (unless_ends (λ p. p == key)) was ∙ ap (λ b. if b then None else Some x) (ne_eqb x.process key differs)) ∙ is in
          let process : x.process ≡ v.process = ap (λ o. option_map_or (λ y. y.process) o x.process) one in
          ap (λ p. has_live (task_at s'.tree p)) (sym process) ∙ ap has_live (others x.process differs) ∙ owners k x was
    ]
