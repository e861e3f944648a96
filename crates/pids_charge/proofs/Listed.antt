-- Tasks that a table lists, each with the key of its home, add up to the counts.
use Rattle.std.proofs.Common.{◌≡◌, ℕ, zero, suc, ◌+◌, ◌<◌, ◌≤◌, ◌==◌, Bool, true, false, ◌&&◌, not, cond, if◌then◌else◌, None, Option, Some, List, [], ◌∷◌, length, refl, sym, ap, ◌∙◌, arith}
use Rattle.pids_charge.proofs.Words.{eq-eqb, get_or_past, length-filter, sum_by-cons, AllByRecursion, count_by, filter, option_map_or, is_below, Control}
use Rattle.pids_charge.proofs.Words.{Charges, Home, charged_count, home_at, home_id, live_at, tasks_below, tasks_of, zombies_at, sum_below}
use Rattle.std.proofs.Math.Bool.{and-false, and-true}
use Rattle.pids_charge.proofs.Climbs.{eqb-apart}
use Rattle.pids_charge.proofs.Sums.{sum-ext, sum-at, sum-zero, sum_by-places}

sum-plus : (n : ℕ) (f g : ℕ → ℕ) → sum_below n (λ k. f k + g k) ≡ sum_below n f + sum_below n g
sum-plus zero f g = refl
sum-plus (suc n) f g = omega (arith, sum-plus n (λ k. f (suc k)) (λ k. g (suc k)))

module _ {X : Type 0} (home : X → ℕ) where
  -- where no task has its home from a bound on, each home is below it
  homes_below : (n : ℕ) (xs : List X) → ((k : ℕ) → n ≤ k → count_by (λ x. home x == k) xs ≡ 0) → AllByRecursion (λ x. home x < n) xs
  homes_below n [] none = tt
  homes_below n (x ∷ xs) none =
      let at_own = none (home x) in
      let here = sum_by-cons (λ y. cond (home y == home x) 1 0) x xs in (
        grind (arith, eq-eqb),
        homes_below n xs (λ k from. omega (arith, none k from, sum_by-cons (λ y. cond (home y == k) 1 0) x xs)),
      )

  -- one task counts at the key of its home alone
  at_home : (n a : ℕ) (p : ℕ → Bool) → a < n → sum_below n (λ k. cond (p k && (a == k)) 1 0) ≡ cond (p a) 1 0
  at_home n a p lt =
      let one = sum-at n a (λ k. cond (p k && (a == k)) 1 0) (λ k. 0) lt (λ k d. ap {B = ℕ} (λ b. cond (p k && b) 1 0) (eqb-apart a k (λ e. d (sym e))) ∙ ap {B = ℕ} (λ b. cond b 1 0) (and-false (p k))) in
      let none = sum-zero n (λ k. 0) (λ k. refl) in
      omega (arith, one, none, ap {B = ℕ} (λ b. cond (p a && b) 1 0) (eq-eqb a a refl), ap {B = ℕ} (λ b. cond b 1 0) (and-true (p a)))

  -- what is counted by the keys of the homes is counted by the tasks
  by_homes : (n : ℕ) (p : ℕ → Bool) (xs : List X) → AllByRecursion (λ x. home x < n) xs
      → sum_below n (λ k. count_by (λ x. p k && (home x == k)) xs) ≡ count_by (λ x. p (home x)) xs
  by_homes n p [] all = sum-zero n (λ k. 0) (λ k. refl)
  by_homes n p (x ∷ xs) all =
      sum-ext n (λ k. count_by (λ y. p k && (home y == k)) (x ∷ xs)) (λ k. cond (p k && (home x == k)) 1 0 + count_by (λ y. p k && (home y == k)) xs) (λ k. sum_by-cons (λ y. cond (p k && (home y == k)) 1 0) x xs)
      ∙ sum-plus n (λ k. cond (p k && (home x == k)) 1 0) (λ k. count_by (λ y. p k && (home y == k)) xs)
      ∙ omega (arith, at_home n (home x) p all.0, by_homes n p xs all.1, sum_by-cons (λ y. cond (p (home y)) 1 0) x xs)

  count_none : (xs : List X) → count_by (λ x. false) xs ≡ 0
  count_none [] = refl
  count_none (x ∷ xs) = omega (arith, sum_by-cons (λ (y : X). 0) x xs, count_none xs)

  -- the tasks of a key are below a control group where its home is
  at_key : (controls : List Control) (id k : ℕ) (o : Option Home) (xs : List X) → count_by (λ x. home x == k) xs ≡ tasks_of o
      → tasks_below controls id o ≡ count_by (λ x. is_below controls (option_map_or (λ h. h.id) o 0) id && (home x == k)) xs
  at_key controls id k None xs listed =
      elim (is_below controls 0 id) as (λ (b : Bool). 0 ≡ count_by (λ x. b && (home x == k)) xs) [ true ↦ sym listed | false ↦ sym (count_none xs) ]
  at_key controls id k (Some h) xs listed =
      elim (is_below controls h.id id) as (λ (b : Bool). (if b then h.live + h.zombies else 0) ≡ count_by (λ x. b && (home x == k)) xs) [ true ↦ sym listed | false ↦ sym (count_none xs) ]

  -- where the tasks listed for each key are as many as it has, a count is that of the tasks whose home is the control group or below it
  pub count-listed : (v : Charges) (xs : List X) → ((k : ℕ) → count_by (λ x. home x == k) xs ≡ tasks_of (home_at v k))
      → (id : ℕ) → charged_count v id ≡ length (filter (λ x. is_below v.controls (home_id v (home x)) id) xs)
  count-listed v xs listed id =
      sum_by-places (tasks_below v.controls id) None v.homes
      ∙ sum-ext (length v.homes) (λ k. tasks_below v.controls id (home_at v k)) (λ k. count_by (λ x. is_below v.controls (home_id v k) id && (home x == k)) xs)
      (λ k. at_key v.controls id k (home_at v k) xs (listed k))
      ∙ by_homes (length v.homes) (λ k. is_below v.controls (home_id v k) id) xs
      (homes_below (length v.homes) xs (λ k past. listed k ∙ ap tasks_of (get_or_past v.homes k None past)))
      ∙ sym (length-filter (λ x. is_below v.controls (home_id v (home x)) id) xs)

-- the same by live tasks and zombies
pub tasks_of-both : {X : Type 0} (home : X → ℕ) (is_ended : X → Bool) (v : Charges) (k : ℕ) (xs : List X)
    → count_by (λ x. not (is_ended x) && (home x == k)) xs ≡ live_at v k → count_by (λ x. is_ended x && (home x == k)) xs ≡ zombies_at v k
    → count_by (λ x. home x == k) xs ≡ tasks_of (home_at v k)
tasks_of-both {X = X} home is_ended v k xs live zombies = omega (arith, both xs, live, zombies, here (home_at v k))
  where
    both : (ys : List X) → count_by (λ x. home x == k) ys ≡ count_by (λ x. not (is_ended x) && (home x == k)) ys + count_by (λ x. is_ended x && (home x == k)) ys
    both [] = refl
    both (x ∷ ys) =
        omega (arith, both ys, sum_by-cons (λ y. cond (home y == k) 1 0) x ys, sum_by-cons (λ y. cond (not (is_ended y) && (home y == k)) 1 0) x ys, sum_by-cons (λ y. cond (is_ended y && (home y == k)) 1 0) x ys, one (is_ended x) (home x == k))
      where
        one : (b c : Bool) → cond c 1 0 ≡ cond (not b && c) 1 0 + cond (b && c) 1 0
        one b c = grind arith

    here : (o : Option Home) → tasks_of o ≡ option_map_or (λ h. h.live) o 0 + option_map_or (λ h. h.zombies) o 0
    here o = grind arith
