-- Tasks, parents and ranks agree after each change: at one key, or in room.
use Rattle.std.proofs.Common.{◌≡◌, ◌≢◌, ◌⊎◌, inl, inr, ℕ, ◌<◌, ◌≤◌, Bool, true, false, List, length, Option, Some, None, IsSome, option_map, if◌then◌else◌, slice_index_or, refl, sym, ap, subst, ◌∙◌, arith}
use Rattle.std.specs.Option.{option_map_or}
use Rattle.std.specs.Prelude.{not}
use Rattle.std.proofs.lemmas.List.{get_or_past}
use Rattle.std.proofs.lemmas.Bool.{cases_eq}
use Rattle.member_lists.specs.Owners.{owner_of}
use Rattle.member_queues.specs.Ranks.{ranked}
use Rattle.task_tree.specs.declared.Task.{Task}
use Rattle.task_tree.specs.Tree.{IsTaskTree, lives, is_zombie, waits_for}
use Rattle.task_tree.specs.Waiting.{IsWaiting}

-- the parent of a rank
abbrev pub of_parent : ℕ × ℕ → ℕ
of_parent m = m.0

waits_zombie : (o : Option Task) (p q : Option ℕ) → p ≡ waits_for o q → (n : ℕ) → p ≡ Some n → q ≡ Some n
waits_zombie o p q same n is = go (is_zombie o) (sym is ∙ same)
  where
    go : (b : Bool) → Some n ≡ (if b then q else None) → q ≡ Some n
    go true e = sym e
    go false e = absurd (cc)

-- who waits for a parent is its child, and is in range
pub IsTree-waiting : (tasks : List (Option Task)) (parents : List (Option ℕ)) (ended : List (Option (ℕ × ℕ))) → IsTaskTree tasks parents ended → IsWaiting parents ended
IsTree-waiting tasks parents ended t = record {
  child = λ k p r e. waits_zombie (slice_index_or tasks k None) (option_map of_parent (ranked ended k)) (owner_of parents k) (t.waiting k) p (ap (option_map of_parent) e);
  apart = t.apart;
  rooms = λ k p e. let h = (t.known k p e).0 in let l = t.heaps in omega (arith, h, l);
}

module _ (tasks : List (Option Task)) (parents : List (Option ℕ)) (ended : List (Option (ℕ × ℕ))) (t : IsTaskTree tasks parents ended)
    (tasks' : List (Option Task)) (parents' : List (Option ℕ)) (ended' : List (Option (ℕ × ℕ))) where
  -- more room changes nothing
  pub IsTree-roomier : length tasks ≤ length tasks' → length tasks' ≤ length parents' → length tasks' ≤ length ended' → length tasks' ≤ 1073741824
      → ((k : ℕ) → slice_index_or tasks' k None ≡ slice_index_or tasks k None) → ((k : ℕ) → owner_of parents' k ≡ owner_of parents k)
      → ((k : ℕ) → ranked ended' k ≡ ranked ended k) → IsTaskTree tasks' parents' ended'
  IsTree-roomier more links heaps few same_tasks same_parents same_ranks = record {
    links = links;
    heaps = heaps;
    few = few;
    known = λ k p e. let h = t.known k p (sym (same_parents k) ∙ e) in let a = h.0 in let b = h.1 in (omega (arith, a, more), omega (arith, b, more));
    absent = λ k e. same_parents k ∙ t.absent k (sym (same_tasks k) ∙ e);
    waiting = λ k. ap (option_map of_parent) (same_ranks k) ∙ t.waiting k ∙ sym (ap (λ o. waits_for o (owner_of parents' k)) (same_tasks k) ∙ ap (waits_for (slice_index_or tasks k None)) (same_parents k));
    apart = λ j k p r a b. t.apart j k p r (sym (same_ranks j) ∙ a) (sym (same_ranks k) ∙ b);
  }

  -- one key has another task, another parent and another rank
  pub IsTree-changed : (key : ℕ) → length tasks' ≡ length tasks → length parents' ≡ length parents → length ended' ≡ length ended
      → ((k : ℕ) → k ≢ key → slice_index_or tasks' k None ≡ slice_index_or tasks k None) → ((k : ℕ) → k ≢ key → owner_of parents' k ≡ owner_of parents k)
      → ((k : ℕ) → k ≢ key → ranked ended' k ≡ ranked ended k)
      → ((p : ℕ) → owner_of parents' key ≡ Some p → owner_of parents key ≡ Some p)
      → (slice_index_or tasks' key None ≡ None → owner_of parents' key ≡ None)
      → option_map of_parent (ranked ended' key) ≡ waits_for (slice_index_or tasks' key None) (owner_of parents' key)
      → ((k p r : ℕ) → ranked ended' key ≡ Some (p, r) → k ≢ key → ranked ended k ≢ Some (p, r))
      → IsTaskTree tasks' parents' ended'
  IsTree-changed key keys links heaps other_tasks other_parents other_ranks known absent waiting apart = record {
    links = let l = t.links in omega (arith, keys, links, l);
    heaps = let l = t.heaps in omega (arith, keys, heaps, l);
    few = let l = t.few in omega (arith, keys, l);
    known = λ k p e. let h = t.known k p (before k p e (cases_eq k key)) in let a = h.0 in let b = h.1 in (omega (arith, a, keys), omega (arith, b, keys));
    absent = λ k e. gone k e (cases_eq k key);
    waiting = λ k. waits k (cases_eq k key);
    apart = λ j k p r a b. one j k p r a b (cases_eq j key) (cases_eq k key);
  }
    where
      before : (k p : ℕ) → owner_of parents' k ≡ Some p → (k ≡ key) ⊎ (k ≢ key) → owner_of parents k ≡ Some p
      before k p e (inl same) = ap (owner_of parents) same ∙ known p (sym (ap (owner_of parents') same) ∙ e)
      before k p e (inr differs) = sym (other_parents k differs) ∙ e

      gone : (k : ℕ) → slice_index_or tasks' k None ≡ None → (k ≡ key) ⊎ (k ≢ key) → owner_of parents' k ≡ None
      gone k e (inl same) = ap (owner_of parents') same ∙ absent (sym (ap (λ j. slice_index_or tasks' j None) same) ∙ e)
      gone k e (inr differs) = other_parents k differs ∙ t.absent k (sym (other_tasks k differs) ∙ e)

      waits : (k : ℕ) → (k ≡ key) ⊎ (k ≢ key) → option_map of_parent (ranked ended' k) ≡ waits_for (slice_index_or tasks' k None) (owner_of parents' k)
      waits k (inl same) = subst (λ (j : ℕ). option_map of_parent (ranked ended' j) ≡ waits_for (slice_index_or tasks' j None) (owner_of parents' j)) (sym same) waiting
      waits k (inr differs) =
          ap (option_map of_parent) (other_ranks k differs) ∙ t.waiting k
          ∙ sym (ap (λ o. waits_for o (owner_of parents' k)) (other_tasks k differs) ∙ ap (waits_for (slice_index_or tasks k None)) (other_parents k differs))

      one : (j k p r : ℕ) → ranked ended' j ≡ Some (p, r) → ranked ended' k ≡ Some (p, r) → (j ≡ key) ⊎ (j ≢ key) → (k ≡ key) ⊎ (k ≢ key) → j ≡ k
      one j k p r a b (inl jkey) (inl kkey) = jkey ∙ sym kkey
      one j k p r a b (inl jkey) (inr differs) = absurd (apart k p r (sym (ap (ranked ended') jkey) ∙ a) differs (sym (other_ranks k differs) ∙ b))
      one j k p r a b (inr differs) (inl kkey) = absurd (apart j p r (sym (ap (ranked ended') kkey) ∙ b) differs (sym (other_ranks j differs) ∙ a))
      one j k p r a b (inr dj) (inr dk) = t.apart j k p r (sym (other_ranks j dj) ∙ a) (sym (other_ranks k dk) ∙ b)

pub task_in_range : (tasks : List (Option Task)) (k : ℕ) (task : Task) → slice_index_or tasks k None ≡ Some task → k < length tasks
task_in_range tasks k task e = grind (arith, e, get_or_past tasks k None)

-- a task that ended waits for its parent
pub waits-ended : (key rank : ℕ) (task : Task) (parents : List (Option ℕ)) (ended : List (Option (ℕ × ℕ))) (tasks : List (Option Task))
    → slice_index_or tasks key None ≡ Some task → lives task ≡ false → ranked ended key ≡ option_map {U = ℕ × ℕ} (λ p. (p, rank)) (owner_of parents key)
    → option_map of_parent (ranked ended key) ≡ waits_for (slice_index_or tasks key None) (owner_of parents key)
waits-ended key rank task parents ended tasks here ended_now is =
    ap (option_map of_parent) is ∙ plain (owner_of parents key)
    ∙ sym (ap (λ o. waits_for o (owner_of parents key)) here ∙ ap (λ b. if not b then owner_of parents key else None) ended_now)
  where
    plain : (o : Option ℕ) → option_map of_parent (option_map {U = ℕ × ℕ} (λ p. (p, rank)) o) ≡ o
    plain None = refl
    plain (Some p) = refl

-- its rank is no other's
pub apart-ended : (key rank : ℕ) (parents : List (Option ℕ)) (before after : List (Option (ℕ × ℕ)))
    → ranked after key ≡ option_map {U = ℕ × ℕ} (λ p. (p, rank)) (owner_of parents key)
    → ((k p : ℕ) → owner_of parents key ≡ Some p → ranked before k ≢ Some (p, rank))
    → (k p r : ℕ) → ranked after key ≡ Some (p, r) → k ≢ key → ranked before k ≢ Some (p, r)
apart-ended key rank parents before after is apart k p r e differs same = go (owner_of parents key) refl (sym is ∙ e)
  where
    go : (o : Option ℕ) → owner_of parents key ≡ o → option_map {U = ℕ × ℕ} (λ q. (q, rank)) o ≡ Some (p, r) → ⊥
    go None none z = absurd (cc)
    go (Some q) some z =
        let h = ap (λ o. option_map_or (λ (m : ℕ × ℕ). m) o (0, 0)) z in
        apart k q some (same ∙ sym z)

pub some_in_range : (tasks : List (Option Task)) (k : ℕ) → IsSome (slice_index_or tasks k None) → k < length tasks
some_in_range tasks k some = go (slice_index_or tasks k None) refl some
  where
    go : (o : Option Task) → slice_index_or tasks k None ≡ o → IsSome o → k < length tasks
    go None e some = absurd (cc)
    go (Some task) e some = task_in_range tasks k task e
