-- Places of which some are vacant: what is seen of them, and of one that is written.
use Rattle.std.proofs.Common.{inl, inr, false, zero, suc, ◌≡◌, ◌≢◌, ℕ, ◌<◌, ◌≤◌, ◌==◌, List, [], ◌∷◌, length, map, get_or, set, Option, Some, None, if◌then◌else◌, sym, ap, ◌∙◌, arith}
use Rattle.std.proofs.lemmas.List.{get_or_past, get_or-set_same, get_or-set_other, length-map, map-set}
use Rattle.std.proofs.lemmas.Bool.{cases_lt}
use Rattle.std.proofs.lemmas.Bool.Decides.{nat_tests}

module _ {X Y : Type 0} (size : X → ℕ) (of : X → Y) where
  -- what is seen of a place, none where it is empty
  abbrev pub show : X → Option Y
  show x = if size x == 0 then None else Some (of x)

  -- one with something in it is seen
  pub show-some : (y : X) → 0 < size y → show y ≡ Some (of y)
  show-some y some = go (size y) some
    where
      go : (n : ℕ) → 0 < n → (if n == 0 then None else Some (of y)) ≡ Some (of y)
      go n up = grind (arith, nat_tests, up)

  -- and one without is not
  pub show-none : (y : X) → size y ≡ 0 → show y ≡ None
  show-none y none = ap (λ n. if n == 0 then None else Some (of y)) none

  -- what is seen is the place
  pub seen : (y : X) (z : Y) → show y ≡ Some z → (of y ≡ z) × (0 < size y)
  seen y z e = go (size y) e
    where
      go : (n : ℕ) → (if n == 0 then None else Some (of y)) ≡ Some z → (of y ≡ z) × (0 < n)
      go zero e = absurd (cc)
      go (suc n) e = let off : (suc n == 0) ≡ false = grind (arith, nat_tests) in let is : Some (of y) ≡ Some z = rw off at e in (cc, omega arith)

  -- a place in range
  pub slot-in : (places : List X) (s : ℕ) (y : X) → s < length places → y ≡ get_or places s y → get_or (map show places) s None ≡ show y
  slot-in (z ∷ zs) zero y lt e = ap show (sym e)
  slot-in (z ∷ zs) (suc s) y lt e = slot-in zs s y (omega (arith, lt)) e
  slot-in [] s y lt e = absurd (omega (arith, lt))

  pub slot-past : (places : List X) (s : ℕ) → length places ≤ s → get_or (map show places) s None ≡ None
  slot-past places s past = let l = length-map places show in get_or_past (map show places) s None (omega (arith, l, past))

  -- what is seen at a key is what is there
  pub there : (places : List X) (s : ℕ) (x : Y) (y : X) → get_or (map show places) s None ≡ Some x → y ≡ get_or places s y → (s < length places) × ((0 < size y) × (get_or (map show places) s None ≡ Some (of y)))
  there places s x y at is = elim (cases_lt s (length places)) [
    | inl lt ↦
        let shows = slot-in places s y lt is in
        let r = seen y x (sym shows ∙ at) in
        (lt, (r.1, shows ∙ show-some y r.1))
    | inr past ↦ absurd (let e : None ≡ Some x = sym (slot-past places s past) ∙ at in cc)
  ]

  -- a place that is written, among all of them, and alone
  pub slots-set : (places : List X) (k : ℕ) (y : X) (o : Option Y) → show y ≡ o → map show (set places k y) ≡ set (map show places) k o
  slots-set places k y o is = map-set show places k y ∙ ap (set (map show places) k) is

  pub slot-set_same : (places : List X) (k : ℕ) (y : X) → k < length places → get_or (map show (set places k y)) k None ≡ show y
  slot-set_same places k y lt = let l = length-map places show in ap (λ l. get_or l k None) (map-set show places k y) ∙ get_or-set_same (map show places) k (show y) None (omega (arith, lt, l))

  pub slot-set_other : (places : List X) (k s : ℕ) (y : X) → s ≢ k → get_or (map show (set places k y)) s None ≡ get_or (map show places) s None
  slot-set_other places k s y differs = ap (λ l. get_or l s None) (map-set show places k y) ∙ get_or-set_other (map show places) k s (show y) None differs
