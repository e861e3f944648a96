-- Threads keep their identifiers, and no other identifier becomes a thread's: a use comes to an identifier that has one, and an
-- identifier goes with its last one.
use Rattle.std.proofs.Common.{◌≡◌, ◌≢◌, ◌⊎◌, inl, inr, ℕ, ◌+◌, ◌<◌, ◌==◌, ◌&&◌, not, Bool, true, false, [], Option, Some, None, is_some, count_by, if◌then◌else◌, refl, sym, ap, ◌∙◌, arith}
use Rattle.std.specs.Option.{option_map_or}
use Rattle.std.specs.Prelude.{slice_index_or}
use Rattle.std.proofs.lemmas.Bool.{cases_eq}
use Rattle.pid_types.specs.declared.call.Kind.{Kind}
use Rattle.pid_types.specs.declared.call.Kind.TheVariants.{Task as AsTask, Group, Session}
use Rattle.pid_numbers.specs.Numbering.{Numbering, Identifier, identifier_at, is_used, is_thread, uses, more, less, left_of}
use Rattle.process_threads.specs.Threads.{ThreadsByKey}
use Rattle.process_threads.specs.declared.Thread.{Thread}
use Rattle.task_table.proofs.Rest.{count-pointwise}
use Rattle.task_table.specs.Store.{IsThreaded, HasNoThreads, AreUsed, KeepsThreads, is_used_at, uses_at}

-- the threads are as they were
pub still : (b c : Numbering) (threads : ThreadsByKey) → IsThreaded b threads → KeepsThreads b c → IsThreaded c threads
still b c threads w keeps = record { held = λ i. keeps i ∙ w.held i }

-- the same identifiers are the same threads'
pub same : (b c : Numbering) → c.names ≡ b.names → KeepsThreads b c
same b c names i = ap (λ l. is_thread (slice_index_or l i None)) names

-- where there is no thread something uses each identifier
pub used : (b : Numbering) (threads : ThreadsByKey) → IsThreaded b threads → HasNoThreads threads → AreUsed b
used b threads w less i u at = go (is_used u) refl
  where
    go : (t : Bool) → is_used u ≡ t → is_used u ≡ true
    go true on = on
    go false off = absurd (let z : true ≡ false = sym (ap is_thread at ∙ ap not off) ∙ w.held i ∙ ap is_some (less.none i) in cc)

-- and no thread counts
pub nobody : (threads : ThreadsByKey) → HasNoThreads threads → (p : Option Thread → Bool) → p None ≡ false → count_by p threads.threads ≡ 0
nobody threads alone p none = count-pointwise p none threads.threads [] alone.none

-- what two steps keep
pub both : (a b c : Numbering) → KeepsThreads a b → KeepsThreads b c → KeepsThreads a c
both a b c first second i = second i ∙ first i

-- none before the first one
pub none : (threads : ThreadsByKey) → threads.threads ≡ [] → threads.left ≡ [] → HasNoThreads threads
none threads some left = record { none = λ k. ap (λ l. slice_index_or l k None) some; stays = λ p. ap (λ l. slice_index_or l p false) left }

-- no thread where there is no identifier
pub begun : (b : Numbering) (threads : ThreadsByKey) → ((i : ℕ) → identifier_at b i ≡ None) → threads.threads ≡ [] → IsThreaded b threads
begun b threads names none = record { held = λ i. ap is_thread (names i) ∙ sym (ap (λ l. is_some (slice_index_or l i None)) none) }

and_false : (b : Bool) → (b && false) ≡ false
and_false true = refl
and_false false = refl

positive : (n : ℕ) → (n + 1 == 0) ≡ false
positive n = grind arith

above : (n : ℕ) → 0 < n → (n == 0) ≡ false
above n some = grind (arith, some)

-- who is used once more is used
more-used : (kind : Kind) (u : Identifier) → is_used (more kind u) ≡ true
more-used AsTask u = ap (λ b. not (b && ((u.groups == 0) && (u.sessions == 0)))) (positive u.tasks)
more-used Group u = ap (λ b. not ((u.tasks == 0) && (b && (u.sessions == 0)))) (positive u.groups) ∙ ap not (and_false (u.tasks == 0))
more-used Session u =
    ap (λ b. not ((u.tasks == 0) && ((u.groups == 0) && b))) (positive u.sessions) ∙ ap (λ b. not ((u.tasks == 0) && b)) (and_false (u.groups == 0)) ∙ ap not (and_false (u.tasks == 0))

-- and so is who has a use
has-used : (kind : Kind) (u : Identifier) → 0 < uses kind u → is_used u ≡ true
has-used AsTask u some = ap (λ b. not (b && ((u.groups == 0) && (u.sessions == 0)))) (above u.tasks some)
has-used Group u some = ap (λ b. not ((u.tasks == 0) && (b && (u.sessions == 0)))) (above u.groups some) ∙ ap not (and_false (u.tasks == 0))
has-used Session u some =
    ap (λ b. not ((u.tasks == 0) && ((u.groups == 0) && b))) (above u.sessions some) ∙ ap (λ b. not ((u.tasks == 0) && b)) (and_false (u.groups == 0)) ∙ ap not (and_false (u.tasks == 0))

-- an identifier that is used as some kind is used
pub used-as : (b : Numbering) (kind : Kind) (i : ℕ) → 0 < uses_at b kind i → is_used_at b i ≡ true
used-as b kind i some = go (identifier_at b i) some
  where
    go : (o : Option Identifier) → 0 < option_map_or (uses kind) o 0 → option_map_or is_used o false ≡ true
    go None some = absurd (omega (arith, some))
    go (Some u) some = has-used kind u some

-- what is left of an identifier is used
left-used : (u : Identifier) → is_thread (left_of u) ≡ false
left-used u = go (is_used u) refl
  where
    go : (b : Bool) → is_used u ≡ b → is_thread (if b then Some u else None) ≡ false
    go true used = ap not used
    go false used = refl

-- a change of one identifier to one that is as much a thread's
pub changed : (b c : Numbering) (key : ℕ) → ((j : ℕ) → j ≢ key → identifier_at c j ≡ identifier_at b j) → is_thread (identifier_at c key) ≡ is_thread (identifier_at b key) → KeepsThreads b c
changed b c key others here i = go (cases_eq i key)
  where
    go : (i ≡ key) ⊎ (i ≢ key) → is_thread (identifier_at c i) ≡ is_thread (identifier_at b i)
    go (inl at) = ap (λ j. is_thread (identifier_at c j)) at ∙ here ∙ sym (ap (λ j. is_thread (identifier_at b j)) at)
    go (inr differs) = ap is_thread (others i differs)

-- an identifier that is drawn for a task
pub drawn : (b c : Numbering) (key : ℕ) (u : Identifier) → identifier_at b key ≡ None → identifier_at c key ≡ Some u → is_used u ≡ true → ((j : ℕ) → j ≢ key → identifier_at c j ≡ identifier_at b j) → KeepsThreads b c
drawn b c key u fresh named used others = changed b c key others (ap is_thread named ∙ ap not used ∙ sym (ap is_thread fresh))

-- one use more
pub added : (b c : Numbering) (key : ℕ) (kind : Kind) → ((j : ℕ) → j ≢ key → identifier_at c j ≡ identifier_at b j) → is_used_at b key ≡ true
    → ((u : Identifier) → identifier_at b key ≡ Some u → identifier_at c key ≡ Some (more kind u)) → KeepsThreads b c
added b c key kind others there here = go (identifier_at b key) refl there
  where
    go : (o : Option Identifier) → identifier_at b key ≡ o → option_map_or is_used o false ≡ true → KeepsThreads b c
    go None e some = absurd (cc)
    go (Some u) e some = changed b c key others (ap is_thread (here u e) ∙ ap not (more-used kind u) ∙ sym (ap is_thread e ∙ ap not some))

-- one use less
pub taken : (b c : Numbering) (key : ℕ) (kind : Kind) → ((j : ℕ) → j ≢ key → identifier_at c j ≡ identifier_at b j) → 0 < uses_at b kind key
    → ((u : Identifier) → identifier_at b key ≡ Some u → identifier_at c key ≡ left_of (less kind u)) → KeepsThreads b c
taken b c key kind others some here = go (identifier_at b key) refl
  where
    go : (o : Option Identifier) → identifier_at b key ≡ o → KeepsThreads b c
    go None e = absurd (let z : uses_at b kind key ≡ 0 = ap (λ o. option_map_or (uses kind) o 0) e in omega (arith, z, some))
    go (Some u) e =
        let has : 0 < uses kind u = (let z : uses_at b kind key ≡ uses kind u = ap (λ o. option_map_or (uses kind) o 0) e in omega (arith, z, some)) in
        changed b c key others (ap is_thread (here u e) ∙ left-used (less kind u) ∙ sym (ap is_thread e ∙ ap not (has-used kind u has)))

-- who was used and is there is used where threads keep their identifiers
pub used-kept : (b c : Numbering) → KeepsThreads b c → (i : ℕ) → is_used_at b i ≡ true → is_some (identifier_at c i) ≡ true → is_used_at c i ≡ true
used-kept b c keeps i used there = go (identifier_at c i) (keeps i ∙ none (identifier_at b i) used) there
  where
    none : (o : Option Identifier) → option_map_or is_used o false ≡ true → is_thread o ≡ false
    none None e = refl
    none (Some u) e = ap not e

    go : (o : Option Identifier) → is_thread o ≡ false → is_some o ≡ true → option_map_or is_used o false ≡ true
    go None e some = absurd (cc)
    go (Some u) e some = back (is_used u) e
      where
        back : (b : Bool) → not b ≡ false → b ≡ true
        back true e = refl
        back false e = absurd (cc)

-- who is used is there
pub used-there : (b : Numbering) (i : ℕ) → is_used_at b i ≡ true → is_some (identifier_at b i) ≡ true
used-there b i used = go (identifier_at b i) used
  where
    go : (o : Option Identifier) → option_map_or is_used o false ≡ true → is_some o ≡ true
    go None e = absurd (cc)
    go (Some u) e = refl

-- who is used is still used beside a new identifier
pub used-beside : (b c : Numbering) (key : ℕ) → identifier_at b key ≡ None → ((j : ℕ) → j ≢ key → identifier_at c j ≡ identifier_at b j) → (i : ℕ) → is_used_at b i ≡ true → is_used_at c i ≡ true
used-beside b c key fresh others i used = go (cases_eq i key)
  where
    go : (i ≡ key) ⊎ (i ≢ key) → is_used_at c i ≡ true
    go (inl same) = absurd (let z : false ≡ true = sym (ap (λ o. option_map_or is_used o false) (ap (identifier_at b) same ∙ fresh)) ∙ used in cc)
    go (inr differs) = ap (λ o. option_map_or is_used o false) (others i differs) ∙ used
