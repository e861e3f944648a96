-- Lists told by look-ups: what is found in them, and what a change of the look-up makes of them.
use Rattle.std.proofs.Common.{◌≡◌, ◌≢◌, inl, inr, ℕ, zero, suc, ◌+◌, ◌<◌, ◌≤◌, Bool, true, false, nat_lt, List, ◌∷◌, map, filter, Option, Some, None, refl, sym, ap, ◌∙◌, arith, option_map}
use Rattle.std.specs.Option.{option_map_or}
use Rattle.std.proofs.lemmas.Bool.{cases_eq}
use Rattle.std.proofs.lemmas.Map.Entries.{option_filter}
use Rattle.pid_types.specs.Fork.{insert_by}
use Rattle.pid_types.specs.Membership.{IsIn}
use Rattle.task_table.specs.Collect.{collect}

module _ {X Y : Type 0} where
  -- each element changed: the list is mapped
  pub collect-map : (f : ℕ → Option X) (g : ℕ → Option Y) (h : X → Y) (n len : ℕ) → ((i : ℕ) → g i ≡ option_map h (f i)) → collect g n len ≡ map h (collect f n len)
  collect-map f g h n zero each = refl
  collect-map f g h n (suc len) each = go (f n) (g n) (each n) (collect f (n + 1) len) (collect g (n + 1) len) (collect-map f g h (n + 1) len each)
    where
      go : (o : Option X) (p : Option Y) → p ≡ option_map h o → (xs : List X) (ys : List Y) → ys ≡ map h xs → option_map_or (λ y. y ∷ ys) p ys ≡ map h (option_map_or (λ x. x ∷ xs) o xs)
      go None p e xs ys same = rw e same
      go (Some x) p e xs ys same = rw e (ap (λ zs. h x ∷ zs) same)

module _ {X : Type 0} where
  pub collect-same : (f g : ℕ → Option X) (n len : ℕ) → ((i : ℕ) → n ≤ i → g i ≡ f i) → collect g n len ≡ collect f n len
  collect-same f g n zero same = refl
  collect-same f g n (suc len) same =
      let rest = collect-same f g (n + 1) len (λ i above. same i (omega (arith, above))) in
      let here = same n (omega arith) in
      rw (here, rest) refl

  -- each element is tested: the list is filtered
  pub collect-filter : (f g : ℕ → Option X) (p : X → Bool) (n len : ℕ) → ((i : ℕ) → g i ≡ option_filter p (f i)) → collect g n len ≡ filter p (collect f n len)
  collect-filter f g p n zero each = refl
  collect-filter f g p n (suc len) each = go (f n) (g n) (each n) (collect f (n + 1) len) (collect g (n + 1) len) (collect-filter f g p (n + 1) len each)
    where
      go : (o q : Option X) → q ≡ option_filter p o → (xs ys : List X) → ys ≡ filter p xs → option_map_or (λ y. y ∷ ys) q ys ≡ filter p (option_map_or (λ x. x ∷ xs) o xs)
      go None q e xs ys same = rw e same
      go (Some x) q e xs ys same = split (p x) refl
        where
          split : (b : Bool) → p x ≡ b → option_map_or (λ y. y ∷ ys) q ys ≡ filter p (x ∷ xs)
          split true is = rw (e, is) (ap (λ zs. x ∷ zs) same)
          split false is = rw (e, is) same

  -- what is in the list, a look-up finds
  pub collect-from : (f : ℕ → Option X) (n len : ℕ) (x : X) → IsIn x (collect f n len) → (i : ℕ) × (f i ≡ Some x)
  collect-from f n zero x i = absurd i
  collect-from f n (suc len) x i = go (λ h. collect-from f (n + 1) len x h) (f n) refl i
    where
      go : (IsIn x (collect f (n + 1) len) → (i : ℕ) × (f i ≡ Some x)) → (o : Option X) → f n ≡ o
          → IsIn x (option_map_or (λ y. y ∷ collect f (n + 1) len) o (collect f (n + 1) len)) → (i : ℕ) × (f i ≡ Some x)
      go again None e i = again i
      go again (Some y) e (inl same) = (n, e ∙ ap Some (sym same))
      go again (Some y) e (inr i) = again i

  -- and what a look-up in range finds is in the list
  pub collect-in : (f : ℕ → Option X) (n len i : ℕ) (x : X) → n ≤ i → i < n + len → f i ≡ Some x → IsIn x (collect f n len)
  collect-in f n zero i x from below e = absurd (omega (arith, from, below))
  collect-in f n (suc len) i x from below e = elim (cases_eq n i) [
    | inl same ↦ rw (ap f same ∙ e) (inl refl)
    | inr differs ↦ later (f n) (collect-in f (n + 1) len i x (omega (arith, from, differs)) (omega (arith, below)) e)
  ]
    where
      later : (o : Option X) → IsIn x (collect f (n + 1) len) → IsIn x (option_map_or (λ y. y ∷ collect f (n + 1) len) o (collect f (n + 1) len))
      later None h = h
      later (Some y) h = inr h

module _ {X : Type 0} (numbered : X → ℕ) (f : ℕ → Option X) (keyed : (i : ℕ) (r : X) → f i ≡ Some r → numbered r ≡ i) (new : X) where
  -- the new element stands before those with greater numbers
  insert_first : (n len : ℕ) → numbered new < n → insert_by numbered new (collect f n len) ≡ new ∷ collect f n len
  insert_first n zero below = refl
  insert_first n (suc len) below = go (f n) refl (collect f (n + 1) len) (insert_first (n + 1) len (omega (arith, below)))
    where
      go : (o : Option X) → f n ≡ o → (xs : List X) → insert_by numbered new xs ≡ new ∷ xs → insert_by numbered new (option_map_or (λ x. x ∷ xs) o xs) ≡ new ∷ option_map_or (λ x. x ∷ xs) o xs
      go None e xs rest = rest
      go (Some r) e xs rest =
          let k = keyed n r e in
          let less : nat_lt (numbered new) (numbered r) ≡ true = grind (arith, k, below) in
          rw less refl

  -- one more element is inserted
  pub collect-insert : (g : ℕ → Option X) (n i len : ℕ) → numbered new ≡ n → f n ≡ None → g n ≡ Some new → ((j : ℕ) → j ≢ n → g j ≡ f j)
      → i ≤ n → n < i + len → collect g i len ≡ insert_by numbered new (collect f i len)
  collect-insert g n i zero named free here others from below = absurd (omega (arith, from, below))
  collect-insert g n i (suc len) named free here others from below = elim (cases_eq i n) [
    | inl same ↦
        let rest = collect-same f g (i + 1) len (λ j above. others j (λ z. omega (arith, z, above, same))) in
        let g_i : g i ≡ Some new = ap g same ∙ here in
        let f_i : f i ≡ None = ap f same ∙ free in
        rw (g_i, f_i, rest) (sym (insert_first (i + 1) len (omega (arith, named, same))))
    | inr differs ↦
        let rest = collect-insert g n (i + 1) len named free here others (omega (arith, differs, from)) (omega (arith, below)) in
        rw (others i differs, rest) (go (f i) refl (collect f (i + 1) len) (omega (arith, differs, from)))
  ]
    where
      go : (o : Option X) → f i ≡ o → (xs : List X) → i < n → option_map_or (λ x. x ∷ insert_by numbered new xs) o (insert_by numbered new xs) ≡ insert_by numbered new (option_map_or (λ x. x ∷ xs) o xs)
      go None e xs less = refl
      go (Some r) e xs less =
          let k = keyed i r e in
          let not : nat_lt (numbered new) (numbered r) ≡ false = grind (arith, k, less, named) in
          rw not refl
