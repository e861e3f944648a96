-- Threads by key agree with their places and their count after each change.
use Rattle.std.proofs.Common.{◌≡◌, ◌≢◌, ◌⊎◌, inl, inr, ℕ, ◌+◌, ◌-◌, ◌<◌, ◌≤◌, Bool, false, List, ◌++◌, length, set, replicate, Option, Some, None, IsSome, sym, ap, ◌∙◌, arith}
use Rattle.std.proofs.lemmas.Bool.{cases_eq}
use Rattle.std.proofs.lemmas.List.{length-append, length-replicate, length-set, get_or-set_same, get_or-set_other}
use Rattle.member_lists.specs.Owners.{owner_of}
use Rattle.member_lists.proofs.Rooms.{get_or-append-replicate}
use Rattle.process_threads.specs.declared.Place.{Place}
use Rattle.process_threads.specs.Places.{AreThreads}
use Rattle.process_threads.proofs.Counted.{counted-more, counted-less, counted-grown}
use Rattle.process_threads.proofs.Told.{owner_in_range}

module _ (processes : List (Option ℕ)) (places : List Place) (left : List Bool) (count : ℕ) (t : AreThreads processes places left count) where
  pub AreThreads-entered : (key p : ℕ) (place : Place) → key < length processes → p < length processes → owner_of processes key ≡ None
      → AreThreads (set processes key (Some p)) (set places key place) left (count + 1)
  AreThreads-entered key p place low room none = record {
    rooms = length-set places key place ∙ t.rooms ∙ sym (length-set processes key (Some p));
    left_rooms = t.left_rooms ∙ sym (length-set processes key (Some p));
    few = let l = length-set processes key (Some p) in let f = t.few in omega (arith, l, f);
    known = λ k q mine. let l = length-set processes key (Some p) in let h = known k q mine (cases_eq k key) in omega (arith, l, h);
    counted = let c = counted-more processes key p low none in let n = t.counted in omega (arith, c, n);
  }
    where
      known : (k q : ℕ) → owner_of (set processes key (Some p)) k ≡ Some q → (k ≡ key) ⊎ (k ≢ key) → q < length processes
      known k q mine (inl same) =
          let here = get_or-set_same processes key (Some p) None low in
          let is : Some p ≡ Some q = sym here ∙ sym (ap (owner_of (set processes key (Some p))) same) ∙ mine in
          let pq : p ≡ q = cc in
          omega (arith, pq, room)
      known k q mine (inr differs) = t.known k q (sym (get_or-set_other processes key k (Some p) None differs) ∙ mine)

  pub AreThreads-gone : (key : ℕ) → IsSome (owner_of processes key) → AreThreads (set processes key None) places left (count - 1)
  AreThreads-gone key some = record {
    rooms = t.rooms ∙ sym (length-set processes key None);
    left_rooms = t.left_rooms ∙ sym (length-set processes key None);
    few = let l = length-set processes key None in let f = t.few in omega (arith, l, f);
    known = λ k q mine. let l = length-set processes key None in let h = known k q mine (cases_eq k key) in omega (arith, l, h);
    counted = let c = counted-less processes key (owner_in_range processes key some) some in let n = t.counted in omega (arith, c, n);
  }
    where
      known : (k q : ℕ) → owner_of (set processes key None) k ≡ Some q → (k ≡ key) ⊎ (k ≢ key) → q < length processes
      known k q mine (inl same) =
          let here = get_or-set_same processes key None None (owner_in_range processes key some) in
          absurd (let is : None ≡ Some q = sym here ∙ sym (ap (owner_of (set processes key None)) same) ∙ mine in cc)
      known k q mine (inr differs) = t.known k q (sym (get_or-set_other processes key k None None differs) ∙ mine)

  pub AreThreads-grown : (n : ℕ) (place : Place) → length processes + n ≤ 1073741824
      → AreThreads (processes ++ replicate n None) (places ++ replicate n place) (left ++ replicate n false) count
  AreThreads-grown n place few = record {
    rooms = let r = t.rooms in grind (arith, length-append, length-replicate, r);
    left_rooms = let r = t.left_rooms in grind (arith, length-append, length-replicate, r);
    few = grind (arith, length-append, length-replicate, few);
    known = λ k p mine. let h = t.known k p (sym (get_or-append-replicate processes n None k) ∙ mine) in grind (arith, length-append, length-replicate, h);
    counted = t.counted ∙ sym (counted-grown processes n);
  }
