-- The walk of the fall, one member after the other.
use Rattle.std.proofs.Common.{◌≡◌, ◌≢◌, ◌⊎◌, inl, inr, ℕ, ◌+◌, ◌<◌, ◌≤◌, ◌==◌, ◌||◌, Bool, true, false, not, nat_lt, Option, Some, None, is_some, is_none, IsSome, if◌then◌else◌, refl, sym, ap, ◌∙◌, arith}
use Rattle.std.specs.Option.{option_map_or}
use Rattle.std.proofs.lemmas.Bool.{cases_eq, eq-eqb, ne_eqb}
use Rattle.pid_types.specs.declared.call.Kind.TheVariants.{Task as AsTask}
use Rattle.pid_numbers.specs.Numbering.{Identifier, identifier_at, number_of, uses, is_used_as, IsNumberUsedAs}
use Rattle.task_tree.specs.declared.Task.{Task}
use Rattle.task_tree.specs.Tree.{task_at, parent_of, has_live, lives}
use Rattle.groups_sessions.specs.Membership.{Membership, membership_at}
use Rattle.task_table.specs.Store.{Store, IsStore, IsLess, one_if}
use Rattle.task_table.proofs.Less as less
use Rattle.task_table.specs.Lawful.{IsLawful}
use Rattle.task_table.specs.Whole.{HasParents}
use Rattle.task_table.proofs.LookUps.{live-there}
use Rattle.thread_view.specs.Calling.{HasProcesses}
use Rattle.thread_ends.specs.Ending.{EndsProcesses}
use Rattle.thread_ends.proofs.Endings.{ends-both, ends-none, ends-same}
use Rattle.ns_teardown.specs.Fall.{Slot, slot_at, vacant, is_visible_in, has_parent_inside, member_after_fall, slot_after_fall, parent_falls_at, is_passed, slot_midway}
use Rattle.ns_teardown.proofs.Visible as visible

below_or : (n m : ℕ) → (n < m) ⊎ (m ≤ n)
below_or n m = grind arith

lt_yes : (n m : ℕ) → n < m → nat_lt n m ≡ true
lt_yes n m h = grind (arith, h)

lt_no : (n m : ℕ) → m ≤ n → nat_lt n m ≡ false
lt_no n m h = grind (arith, h)

-- a task's identifier is used as a task
pub task-used : (s : Store) → IsStore s → (k : ℕ) → IsSome (task_at s.tree k) → is_used_as AsTask (identifier_at s.numbering k) ≡ true
task-used s w k some =
    let u = visible.named s w k some in
    let one : uses AsTask u.0 ≡ 1 = sym (ap (λ o. option_map_or (uses AsTask) o 0) u.1) ∙ w.tasks k ∙ ap one_if some in
    ap (is_used_as AsTask) u.1 ∙ ap (λ n. not (n == 0)) one

-- and what is used so is a task
pub used-task : (s : Store) → IsStore s → (k : ℕ) → is_used_as AsTask (identifier_at s.numbering k) ≡ true → IsSome (task_at s.tree k)
used-task s w k used = go (identifier_at s.numbering k) refl used (is_some (task_at s.tree k)) refl
  where
    go : (o : Option Identifier) → identifier_at s.numbering k ≡ o → is_used_as AsTask o ≡ true → (b : Bool) → is_some (task_at s.tree k) ≡ b → b ≡ true
    go None at e b is = absurd (cc)
    go (Some u) at e true is = refl
    go (Some u) at e false is =
        let zero : uses AsTask u ≡ 0 = sym (ap (λ o. option_map_or (uses AsTask) o 0) at) ∙ w.tasks k ∙ ap one_if is in
        absurd (let z = sym e ∙ ap (λ n. not (n == 0)) zero in cc)

-- the number leads to a task
pub task-found : (s : Store) → IsStore s → ((i j n m : ℕ) → number_of s.numbering i n ≡ Some m → number_of s.numbering j n ≡ Some m → i ≡ j) → (space n key : ℕ)
    → IsNumberUsedAs s.numbering AsTask space n → number_of s.numbering key space ≡ Some n → IsSome (task_at s.tree key)
task-found s w distinct space n key used has = used-task s w key (ap (λ k. is_used_as AsTask (identifier_at s.numbering k)) (distinct key used.key space n has used.has) ∙ used.used)

module _ (s : Store) (law : IsLawful s) (parents : HasParents s) (space init status : ℕ) where
  -- a key without a task is as the fall leaves it
  after-none : (k : ℕ) → task_at s.tree k ≡ None → slot_at s k ≡ slot_after_fall s space init status k
  after-none k none = is ∙ sym (ap (λ x. if is_visible_in s.numbering space k then member_after_fall (has_parent_inside s space k) (k == init) status x else x) is ∙ go (is_visible_in s.numbering space k) (has_parent_inside s space k))
    where
      no_member : (o : Option Membership) → is_some o ≡ false → o ≡ None
      no_member None e = refl
      no_member (Some m) e = absurd (cc)

      is : slot_at s k ≡ vacant
      is = rw (none, law.absent k none, no_member (membership_at s.members k) (law.agree.members k ∙ ap is_some none)) refl

      go : (m goes : Bool) → (if m then member_after_fall goes (k == init) status vacant else vacant) ≡ vacant
      go false goes = refl
      go true true = refl
      go true false = refl

  passed : (cursor k n : ℕ) → number_of s.numbering k space ≡ Some n → (b : Bool) → nat_lt n cursor ≡ b → is_passed s.numbering space cursor k ≡ b
  passed cursor k n has b lt = ap (λ o. option_map_or (λ n. nat_lt n cursor) o false) has ∙ lt

  unseen : (cursor k : ℕ) → number_of s.numbering k space ≡ None → is_passed s.numbering space cursor k ≡ false
  unseen cursor k none = ap (λ o. option_map_or (λ n. nat_lt n cursor) o false) none

  midway : (cursor k : ℕ) (b : Bool) → is_passed s.numbering space cursor k ≡ b → slot_midway s space init status cursor k ≡ (if b then slot_after_fall s space init status k else slot_at s k)
  midway cursor k b e = ap (λ b. if b then slot_after_fall s space init status k else slot_at s k) e

  -- at first all is as it was
  pub midway-first : (k : ℕ) → slot_at s k ≡ slot_midway s space init status 0 k
  midway-first k = go (number_of s.numbering k space) refl
    where
      go : (o : Option ℕ) → number_of s.numbering k space ≡ o → slot_at s k ≡ slot_midway s space init status 0 k
      go None e = sym (midway 0 k false (unseen 0 k e))
      go (Some n) e = sym (midway 0 k false (passed 0 k n e false (lt_no n 0 (omega arith))))

  -- and no thread is gone
  pub threads-first : EndsProcesses (is_passed s.numbering space 0) s.threads s.threads
  threads-first = ends-none s.threads (is_passed s.numbering space 0) (λ p. go p (number_of s.numbering p space) refl)
    where
      go : (p : ℕ) (o : Option ℕ) → number_of s.numbering p space ≡ o → is_passed s.numbering space 0 p ≡ false
      go p None e = unseen 0 p e
      go p (Some n) e = passed 0 p n e false (lt_no n 0 (omega arith))

  module _ (t : Store) (v : IsStore t) (l : IsLess s.numbering t.numbering) (cursor : ℕ) (slots : (k : ℕ) → slot_at t k ≡ slot_midway s space init status cursor k) where
    -- who is left has the numbers that it had
    pub number-same : (k n : ℕ) → IsSome (task_at t.tree k) → number_of t.numbering k n ≡ number_of s.numbering k n
    number-same k n some = let u = visible.named t v k some in less.number-less s.numbering law.numbering.full law.numbering.own t.numbering l k u.0 u.1 n

    as-was : (k : ℕ) → is_passed s.numbering space cursor k ≡ false → slot_at t k ≡ slot_at s k
    as-was k off = slots k ∙ midway cursor k false off

    task-same : (k : ℕ) → slot_at t k ≡ slot_at s k → task_at t.tree k ≡ task_at s.tree k
    task-same k e = ap (λ (x : Slot). x.task) e

    pub parent-same : (k : ℕ) → slot_at t k ≡ slot_at s k → parent_of t.tree k ≡ parent_of s.tree k
    parent-same k e = ap (λ (x : Slot). x.parent) e

    no_number : (o : Option ℕ) → is_some o ≡ false → o ≡ None
    no_number None e = refl
    no_number (Some n) e = absurd (cc)

    -- whether the parent falls is known from what is left of it
    same_fall : (k : ℕ) → slot_at t k ≡ slot_at s k → parent_falls_at t space k ≡ has_parent_inside s space k
    same_fall k e = ap (λ o. option_map_or (λ p. is_none (task_at t.tree p) || is_visible_in t.numbering space p) o false) (parent-same k e) ∙ go (parent_of s.tree k) refl
      where
        at : (p : ℕ) → IsSome (task_at s.tree p) → (o : Option Task) → task_at t.tree p ≡ o → (b : Bool) → is_visible_in s.numbering space p ≡ b → (is_none o || is_visible_in t.numbering space p) ≡ is_visible_in s.numbering space p
        at p some (Some x) is b m = ap is_some (number-same p space (ap is_some is))
        at p some None is true m = sym m
        at p some None is false m =
            let kept : task_at t.tree p ≡ task_at s.tree p = task-same p (as-was p (unseen cursor p (no_number (number_of s.numbering p space) m))) in
            absurd (let z = sym some ∙ ap is_some (sym kept ∙ is) in cc)

        go : (o : Option ℕ) → parent_of s.tree k ≡ o → option_map_or (λ p. is_none (task_at t.tree p) || is_visible_in t.numbering space p) o false ≡ option_map_or (is_visible_in s.numbering space) o false
        go None is = refl
        go (Some p) is = at p (parents k p is) (task_at t.tree p) refl (is_visible_in s.numbering space p) refl

    -- a task at a number that is not passed is in use there
    still-used : (k n : ℕ) → number_of s.numbering k space ≡ Some n → cursor ≤ n → IsSome (task_at s.tree k) → IsNumberUsedAs t.numbering AsTask space n
    still-used k n has from some =
        let kept : task_at t.tree k ≡ task_at s.tree k = task-same k (as-was k (passed cursor k n has false (lt_no n cursor from))) in
        let there : IsSome (task_at t.tree k) = ap is_some kept ∙ some in
        record { key = k; has = number-same k space there ∙ has; used = task-used t v k there }

    -- when no number is left, all is as the fall leaves it
    pub all-passed : ((m : ℕ) → cursor ≤ m → IsNumberUsedAs t.numbering AsTask space m → ⊥) → (k : ℕ) → slot_at t k ≡ slot_after_fall s space init status k
    all-passed none k = go (number_of s.numbering k space) refl (task_at s.tree k) refl
      where
        go : (o : Option ℕ) → number_of s.numbering k space ≡ o → (x : Option Task) → task_at s.tree k ≡ x → slot_at t k ≡ slot_after_fall s space init status k
        go None e x is = as-was k (unseen cursor k e) ∙ sym (ap (λ o. if is_some o then member_after_fall (has_parent_inside s space k) (k == init) status (slot_at s k) else slot_at s k) e)
        go (Some n) e x is = elim (below_or n cursor) [
          | inl below ↦ slots k ∙ midway cursor k true (passed cursor k n e true (lt_yes n cursor below))
          | inr from ↦ last x is from
        ]
          where
            last : (x : Option Task) → task_at s.tree k ≡ x → cursor ≤ n → slot_at t k ≡ slot_after_fall s space init status k
            last None is from = as-was k (passed cursor k n e false (lt_no n cursor from)) ∙ after-none k is
            last (Some x) is from = absurd (none n from (still-used k n e from (ap is_some is)))

    -- and so the threads of all members are gone
    pub threads-passed : ((m : ℕ) → cursor ≤ m → IsNumberUsedAs t.numbering AsTask space m → ⊥) → HasProcesses s → EndsProcesses (is_passed s.numbering space cursor) s.threads t.threads
        → EndsProcesses (is_visible_in s.numbering space) s.threads t.threads
    threads-passed none owners e = ends-same s law.agree owners t.threads (is_passed s.numbering space cursor) (is_visible_in s.numbering space) (λ p live. at p live (number_of s.numbering p space) refl) e
      where
        at : (p : ℕ) → has_live (task_at s.tree p) ≡ true → (o : Option ℕ) → number_of s.numbering p space ≡ o → is_visible_in s.numbering space p ≡ is_passed s.numbering space cursor p
        at p live None is = ap is_some is ∙ sym (unseen cursor p is)
        at p live (Some n) is = elim (below_or n cursor) [
          | inl below ↦ ap is_some is ∙ sym (passed cursor p n is true (lt_yes n cursor below))
          | inr from ↦ absurd (let v = live-there (task_at s.tree p) live in none n from (still-used p n is from (ap is_some v.1)))
        ]

    module _ (key number : ℕ) (from : cursor ≤ number) (here : number_of t.numbering key space ≡ Some number) (there : IsSome (task_at t.tree key)) where
      was-here : number_of s.numbering key space ≡ Some number
      was-here = sym (number-same key space there) ∙ here

      -- the member at the next number is as it was
      pub next-same : slot_at t key ≡ slot_at s key
      next-same = as-was key (passed cursor key number was-here false (lt_no number cursor from))

      -- one more member has ended
      pub step : ((m : ℕ) → cursor ≤ m → IsNumberUsedAs t.numbering AsTask space m → number ≤ m) → (t' : Store)
          → slot_at t' key ≡ member_after_fall (parent_falls_at t space key) (key == init) status (slot_at t key) → ((k : ℕ) → k ≢ key → slot_at t' k ≡ slot_at t k)
          → (k : ℕ) → slot_at t' k ≡ slot_midway s space init status (number + 1) k
      step least t' ended others k = elim (cases_eq k key) [
        | inl same ↦ ap (slot_at t') same ∙ mine ∙ sym (ap (slot_midway s space init status (number + 1)) same)
        | inr differs ↦ others k differs ∙ slots k ∙ other differs (number_of s.numbering k space) refl
      ]
        where
          mine : slot_at t' key ≡ slot_midway s space init status (number + 1) key
          mine =
              ended ∙ ap (λ g. member_after_fall g (key == init) status (slot_at t key)) (same_fall key next-same)
              ∙ ap (member_after_fall (has_parent_inside s space key) (key == init) status) next-same
              ∙ sym (ap (λ o. if is_some o then member_after_fall (has_parent_inside s space key) (key == init) status (slot_at s key) else slot_at s key) was-here)
              ∙ sym (midway (number + 1) key true (passed (number + 1) key number was-here true (lt_yes number (number + 1) (omega arith))))

          other : k ≢ key → (o : Option ℕ) → number_of s.numbering k space ≡ o → slot_midway s space init status cursor k ≡ slot_midway s space init status (number + 1) k
          other differs None e = midway cursor k false (unseen cursor k e) ∙ sym (midway (number + 1) k false (unseen (number + 1) k e))
          other differs (Some m) e = elim (below_or m cursor) [
            | inl below ↦ midway cursor k true (passed cursor k m e true (lt_yes m cursor below)) ∙ sym (midway (number + 1) k true (passed (number + 1) k m e true (lt_yes m (number + 1) (omega (arith, below, from)))))
            | inr above ↦ elim (below_or m (number + 1)) [
              | inr after ↦ midway cursor k false (passed cursor k m e false (lt_no m cursor above)) ∙ sym (midway (number + 1) k false (passed (number + 1) k m e false (lt_no m (number + 1) after)))
              | inl upto ↦ between above upto (task_at s.tree k) refl
            ]
          ]
            where
              between : cursor ≤ m → m < number + 1 → (x : Option Task) → task_at s.tree k ≡ x → slot_midway s space init status cursor k ≡ slot_midway s space init status (number + 1) k
              between above upto None is =
                  midway cursor k false (passed cursor k m e false (lt_no m cursor above)) ∙ after-none k is
                  ∙ sym (midway (number + 1) k true (passed (number + 1) k m e true (lt_yes m (number + 1) upto)))
              between above upto (Some x) is =
                  let le : number ≤ m = least m above (still-used k m e above (ap is_some is)) in
                  let same : m ≡ number = omega (arith, le, upto) in
                  absurd (differs (law.numbering.distinct k key space number (e ∙ ap Some same) was-here))

      -- it is visible to its parent, if that is left
      pub seen : ((k p : ℕ) (u : Identifier) → parent_of s.tree k ≡ Some p → identifier_at s.numbering p ≡ Some u → IsSome (number_of s.numbering k u.space))
          → (p : ℕ) → parent_of t.tree key ≡ Some p → IsSome (task_at t.tree p) → (u : Identifier) × (identifier_at t.numbering p ≡ Some u) × IsSome (number_of t.numbering key u.space)
      seen all p child some =
          let u = visible.named t v p some in
          let was = less.was s.numbering law.numbering.full law.numbering.own t.numbering l p u.0 u.1 in
          let at = all key p was.0 (sym (parent-same key next-same) ∙ child) was.1 in
          (u.0, u.1, ap is_some (number-same key u.0.space there) ∙ ap (λ n. is_some (number_of s.numbering key n)) (sym was.2) ∙ at)

      -- and lives, if it is a live init
      pub still-live : option_map_or lives (task_at s.tree init) false ≡ true → key ≡ init → option_map_or lives (task_at t.tree key) false ≡ true
      still-live live same = ap (λ o. option_map_or lives o false) (task-same key next-same ∙ ap (task_at s.tree) same) ∙ live

      -- and so have the threads of one process more
      pub threads-step : ((m : ℕ) → cursor ≤ m → IsNumberUsedAs t.numbering AsTask space m → number ≤ m) → (owners : HasProcesses s) → (t' : Store)
          → EndsProcesses (is_passed s.numbering space cursor) s.threads t.threads → EndsProcesses (λ p. p == key) t.threads t'.threads
          → EndsProcesses (is_passed s.numbering space (number + 1)) s.threads t'.threads
      threads-step least owners t' before now = ends-both s law.agree owners t.threads t'.threads (is_passed s.numbering space cursor) (λ p. p == key) (is_passed s.numbering space (number + 1)) both before now
        where
          both : (p : ℕ) → has_live (task_at s.tree p) ≡ true → is_passed s.numbering space (number + 1) p ≡ (is_passed s.numbering space cursor p || (p == key))
          both p live = elim (cases_eq p key) [
            | inl same ↦
                ap (is_passed s.numbering space (number + 1)) same ∙ passed (number + 1) key number was-here true (lt_yes number (number + 1) (omega arith))
                ∙ sym (ap (λ b. is_passed s.numbering space cursor p || b) (eq-eqb p key same) ∙ or_true (is_passed s.numbering space cursor p))
            | inr differs ↦ other differs (number_of s.numbering p space) refl ∙ sym (ap (λ b. is_passed s.numbering space cursor p || b) (ne_eqb p key differs) ∙ or_false (is_passed s.numbering space cursor p))
          ]
            where
              or_true : (b : Bool) → (b || true) ≡ true
              or_true true = refl
              or_true false = refl

              or_false : (b : Bool) → (b || false) ≡ b
              or_false true = refl
              or_false false = refl

              other : p ≢ key → (o : Option ℕ) → number_of s.numbering p space ≡ o → is_passed s.numbering space (number + 1) p ≡ is_passed s.numbering space cursor p
              other differs None e = unseen (number + 1) p e ∙ sym (unseen cursor p e)
              other differs (Some m) e = elim (below_or m cursor) [
                | inl below ↦ passed (number + 1) p m e true (lt_yes m (number + 1) (omega (arith, below, from))) ∙ sym (passed cursor p m e true (lt_yes m cursor below))
                | inr above ↦ elim (below_or m (number + 1)) [
                  | inr after ↦ passed (number + 1) p m e false (lt_no m (number + 1) after) ∙ sym (passed cursor p m e false (lt_no m cursor above))
                  | inl upto ↦
                      let v = live-there (task_at s.tree p) live in
                      let le : number ≤ m = least m above (still-used p m e above (ap is_some v.1)) in
                      let same : m ≡ number = omega (arith, le, upto) in
                      absurd (differs (law.numbering.distinct p key space number (e ∙ ap Some same) was-here))
                ]
              ]
