-- Threads by key, as their processes and places tell them.
use Rattle.std.proofs.Common.{◌≡◌, ◌≢◌, ℕ, zero, suc, ◌<◌, Bool, true, false, List, [], ◌∷◌, ◌++◌, length, map, get_or, set, replicate, Option, Some, None, IsSome, is_some, option_map, MatchOption, refl, sym, ap, subst, ◌∙◌, arith}
use Rattle.std.proofs.lemmas.List.{get_or_past, set-get_or}
use Rattle.std.proofs.Math.ListN.{get_or-map}
use Rattle.member_lists.specs.Owners.{owner_of}
use Rattle.process_threads.specs.declared.Thread.{Thread}
use Rattle.process_threads.specs.declared.Place.{Place}
use Rattle.process_threads.specs.Threads.{ThreadsByKey, thread_with, thread_process, processes_of}
use Rattle.process_threads.specs.Places.{thread_in, threads_in}

process_in : (place : Place) (o : Option ℕ) → option_map (λ (t : Thread). t.process) (option_map (thread_in place) o) ≡ o
process_in place None = refl
process_in place (Some p) = refl

length-threads_in : (processes : List (Option ℕ)) (places : List Place) → length places ≡ length processes → length (threads_in processes places) ≡ length processes
length-threads_in [] places same = refl
length-threads_in (o ∷ os) [] same = absurd (omega (arith, same))
length-threads_in (o ∷ os) (x ∷ xs) same = ap suc (length-threads_in os xs (omega (arith, same)))

processes_in : (processes : List (Option ℕ)) (places : List Place) → length places ≡ length processes → map (option_map (λ (t : Thread). t.process)) (threads_in processes places) ≡ processes
processes_in [] places same = refl
processes_in (o ∷ os) [] same = absurd (omega (arith, same))
processes_in (o ∷ os) (x ∷ xs) same =
    ap (λ (h : Option ℕ). h ∷ map (option_map (λ (t : Thread). t.process)) (threads_in os xs)) (process_in x o)
    ∙ ap (λ (l : List (Option ℕ)). o ∷ l) (processes_in os xs (omega (arith, same)))

thread_in-at : (processes : List (Option ℕ)) (places : List Place) → length places ≡ length processes → (k : ℕ) (d : Place)
    → get_or (threads_in processes places) k None ≡ option_map (thread_in (get_or places k d)) (get_or processes k None)
thread_in-at [] places same k d = get_or_past [] k None (omega arith) ∙ sym (ap (option_map (thread_in (get_or places k d))) (get_or_past [] k None (omega arith)))
thread_in-at (o ∷ os) [] same k d = absurd (omega (arith, same))
thread_in-at (o ∷ os) (x ∷ xs) same zero d = refl
thread_in-at (o ∷ os) (x ∷ xs) same (suc k) d = thread_in-at os xs (omega (arith, same)) k d

-- a key has another process and another place
pub threads_in-set : (processes : List (Option ℕ)) (places : List Place) → length places ≡ length processes → (k : ℕ) (o : Option ℕ) (place : Place)
    → threads_in (set processes k o) (set places k place) ≡ set (threads_in processes places) k (option_map (thread_in place) o)
threads_in-set [] places same k o place = refl
threads_in-set (p ∷ os) [] same k o place = absurd (omega (arith, same))
threads_in-set (p ∷ os) (x ∷ xs) same zero o place = refl
threads_in-set (p ∷ os) (x ∷ xs) same (suc k) o place = ap (λ (l : List (Option Thread)). option_map (thread_in x) p ∷ l) (threads_in-set os xs (omega (arith, same)) k o place)

-- a thread has another place
pub threads_in-place : (processes : List (Option ℕ)) (places : List Place) → length places ≡ length processes → (k p : ℕ) (place : Place) → owner_of processes k ≡ Some p
    → threads_in processes (set places k place) ≡ set (threads_in processes places) k (Some (thread_in place p))
threads_in-place processes places same k p place is =
    ap (λ (l : List (Option ℕ)). threads_in l (set places k place)) (sym (set-get_or processes k None))
    ∙ threads_in-set processes places same k (owner_of processes k) place
    ∙ ap (λ (o : Option ℕ). set (threads_in processes places) k (option_map (thread_in place) o)) is

-- a thread goes, and its place stays
pub threads_in-gone : (processes : List (Option ℕ)) (places : List Place) → length places ≡ length processes → (k : ℕ) (d : Place)
    → threads_in (set processes k None) places ≡ set (threads_in processes places) k None
threads_in-gone processes places same k d =
    ap (threads_in (set processes k None)) (sym (set-get_or places k d))
    ∙ threads_in-set processes places same k None (get_or places k d)

none_in : (n : ℕ) (place : Place) → threads_in (replicate n None) (replicate n place) ≡ replicate n None
none_in zero place = refl
none_in (suc n) place = ap (λ (l : List (Option Thread)). None ∷ l) (none_in n place)

-- there is room for more
pub threads_in-grown : (processes : List (Option ℕ)) (places : List Place) → length places ≡ length processes → (n : ℕ) (place : Place)
    → threads_in (processes ++ replicate n None) (places ++ replicate n place) ≡ threads_in processes places ++ replicate n None
threads_in-grown [] [] same n place = none_in n place
threads_in-grown [] (x ∷ xs) same n place = absurd (omega (arith, same))
threads_in-grown (o ∷ os) [] same n place = absurd (omega (arith, same))
threads_in-grown (o ∷ os) (x ∷ xs) same n place = ap (λ (l : List (Option Thread)). option_map (thread_in x) o ∷ l) (threads_in-grown os xs (omega (arith, same)) n place)

module _ (processes : List (Option ℕ)) (places : List Place) (left : List Bool) (t : ThreadsByKey) (is : record { threads = threads_in processes places; left = left } ≡ t)
    (same : length places ≡ length processes) where
  pub rooms : length t.threads ≡ length processes
  rooms = ap (λ (v : ThreadsByKey). length v.threads) (sym is) ∙ length-threads_in processes places same

  pub thread_is : (k : ℕ) (d : Place) → thread_with t k ≡ option_map (thread_in (get_or places k d)) (owner_of processes k)
  thread_is k d = ap (λ (v : ThreadsByKey). thread_with v k) (sym is) ∙ thread_in-at processes places same k d

  pub processes_are : processes_of t ≡ processes
  processes_are = ap processes_of (sym is) ∙ processes_in processes places same

  pub process_is : (k : ℕ) → thread_process t k ≡ owner_of processes k
  process_is k = sym (get_or-map (option_map (λ (thread : Thread). thread.process)) t.threads k None) ∙ ap (λ (l : List (Option ℕ)). owner_of l k) processes_are

  -- who is no thread has no process
  pub vacant : (k : ℕ) → thread_with t k ≡ None → owner_of processes k ≡ None
  vacant k none = sym (process_is k) ∙ ap (option_map (λ (thread : Thread). thread.process)) none

  -- a thread has one
  pub owned : (k : ℕ) → IsSome (thread_with t k) → IsSome (owner_of processes k)
  owned k some = subst (λ (o : Option ℕ). IsSome o) (process_is k) (go (thread_with t k) some)
    where
      go : (o : Option Thread) → IsSome o → IsSome (option_map (λ (thread : Thread). thread.process) o)
      go None some = absurd (cc)
      go (Some thread) some = refl

  -- where it has one there is a thread
  pub there : (k : ℕ) → IsSome (owner_of processes k) → IsSome (thread_with t k)
  there k some = go (thread_with t k) (subst (λ (o : Option ℕ). IsSome o) (sym (process_is k)) some)
    where
      go : (o : Option Thread) → IsSome (option_map (λ (thread : Thread). thread.process) o) → IsSome o
      go None some = absurd (cc)
      go (Some thread) some = refl

  module _ (p : ℕ) where
    -- some thread of a process, if it has any
    pub first_told : (o : Option ℕ) → MatchOption o ((k : ℕ) → owner_of processes k ≢ Some p) (λ k. owner_of processes k ≡ Some p)
        → MatchOption o ((k : ℕ) → thread_process t k ≢ Some p) (λ k. thread_process t k ≡ Some p)
    first_told None nobody = λ k mine. nobody k (sym (process_is k) ∙ mine)
    first_told (Some k) mine = process_is k ∙ mine

    pub nobody : (o : Option ℕ) → MatchOption o ((k : ℕ) → owner_of processes k ≢ Some p) (λ k. owner_of processes k ≡ Some p)
        → is_some o ≡ false → (k : ℕ) → thread_process t k ≢ Some p
    nobody None none off = first_told None none
    nobody (Some k) mine off = absurd (cc)

    pub somebody : (o : Option ℕ) → MatchOption o ((k : ℕ) → owner_of processes k ≢ Some p) (λ k. owner_of processes k ≡ Some p)
        → is_some o ≡ true → (k : ℕ) × (thread_process t k ≡ Some p)
    somebody None none on = absurd (cc)
    somebody (Some k) mine on = (k, first_told (Some k) mine)

pub owner_in_range : (processes : List (Option ℕ)) (k : ℕ) → IsSome (owner_of processes k) → k < length processes
owner_in_range processes k some = grind (arith, some, get_or_past processes k None)
