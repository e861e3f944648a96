-- Chains of parents among the rows.
use Rattle.model_laws.proofs.Words.{◌≡◌, ℕ, zero, suc, ◌+◌, ◌<◌, ◌≤◌, Bool, true, false, not, ◌==◌, List, [], ◌∷◌, ◌++◌, map, reverse, length, Option, Some, None, refl, sym, ap, ◌∙◌, subst, inl, inr, arith, filter, option_map, option_and_then, slice_index, eq-eqb, ne_eqb, not_from_false, not_from_true, length-map, reverse-append, length-reverse, Name, Row, Space, climb, State, parent_space, path_up, beside, number, root_number, is_live, row_at, parent_number, IsIn, IsRising, IsWellNumbered, IsTreeOfSpaces, IsCoherent}
use Rattle.model_laws.proofs.Ground.{IsIn-map, IsIn-filter, length-IsIn, Stops-at_root, climb-None, climb_suffix, Climbs, in_climb, climb_in, own_in_use, unique_key, IsOnTree, IsOnTree-name, root_space_parent, space_at-Some, row_at-listed, row_at-Some}
use Rattle.model_laws.specs.StepLaws.{IsRootInit}

-- ---- how far number 1 is

-- number 1 is so many parents above
abbrev pub Far : (ℕ → Option ℕ) → ℕ → ℕ → Type 0
Far f k n = Climbs f k n 1

-- one step from a number leads to one number
pub one_step : (f : ℕ → Option ℕ) (n p q : ℕ) → f n ≡ Some p → f n ≡ Some q → p ≡ q
one_step f n p q a b = cc

-- what is so many parents above is so much nearer to number 1
pub nearer : (f : ℕ → Option ℕ) → f 1 ≡ None → (i k n m : ℕ) → Climbs f i n m → Far f k n → (j : ℕ) × Far f j m × (j + i ≡ k)
nearer f top zero k n m c far = (k, subst (Far f k) c far, omega arith)
nearer f top (suc i) zero n m c far = absurd (let none : f n ≡ None = subst (λ x. f x ≡ None) (sym far) top in let some : f n ≡ Some c.0 = c.1 in cc)
nearer f top (suc i) (suc k) n m c far =
    let r = nearer f top i k c.0 m c.2 (subst (Far f k) (one_step f n far.0 c.0 far.1 c.1) far.2) in (r.0, r.1, omega (arith, r.2))

-- number 1, which has no parent, is as far as it is
pub Far-unique : (f : ℕ → Option ℕ) → f 1 ≡ None → (j k n : ℕ) → Far f j n → Far f k n → j ≡ k
Far-unique f top j k n a b = omega (arith, (nearer f top j k n 1 a b).2, (nearer f top k j n 1 b a).2)

-- a filter that leaves an element out is shorter
length-filter_less : {X : Type 0} (p : X → Bool) (xs : List X) → length (filter p xs) ≤ length xs
length-filter_less p [] = omega arith
length-filter_less p (x ∷ xs) = grind (arith, length-filter_less p xs)

-- and by one element less at least, where one does not pass
length-filter_out : {X : Type 0} (p : X → Bool) (xs : List X) (x : X) → IsIn x xs → p x ≡ false → length (filter p xs) < length xs
length-filter_out p [] x i e = elim i [ ]
length-filter_out p (y ∷ xs) x i e = grind (arith, length-filter_less p xs, length-filter_out p xs x)

-- the numbers from which number 1 is reached are at least as many as the steps
steps_below_length : (f : ℕ → Option ℕ) → f 1 ≡ None → (k n : ℕ) (ns : List ℕ) → Far f k n → ((j x : ℕ) → j ≤ k → Far f j x → IsIn x ns)
    → k < length ns
steps_below_length f top zero n ns far all = length-IsIn 1 ns (all 0 1 (omega arith) refl)
steps_below_length f top (suc k) n ns far all =
    let out : length (filter (λ m. not (m == n)) ns) < length ns = length-filter_out (λ m. not (m == n)) ns n (all (suc k) n (omega arith) far) (not_from_true (n == n) (eq-eqb n n refl)) in
    let rest : k < length (filter (λ m. not (m == n)) ns) = steps_below_length f top k far.0 (filter (λ m. not (m == n)) ns) far.2 (λ j x l g.
    IsIn-filter (λ m. not (m == n)) x ns (all j x (omega arith) g) (not_from_false (x == n) (ne_eqb x n (λ same.
    let e : j ≡ suc k = Far-unique f top j (suc k) x g (subst (Far f (suc k)) (sym same) far) in omega arith)))) in
    omega arith

-- ---- among the rows

-- the row at a number, and its parent
parent_number-row : (rows : List Row) (n p : ℕ) → parent_number rows n ≡ Some p
    → (r : Row) × (a : Name) × (row_at rows n ≡ Some r) × (r.parent ≡ Some a) × (root_number a ≡ p)
parent_number-row rows n p h = grind arith

-- the number of the parent of the row that stands there
pub parent_number-at : (rows : List Row) (n : ℕ) (r : Row) → row_at rows n ≡ Some r → parent_number rows n ≡ option_map root_number r.parent
parent_number-at rows n r e = ap (option_and_then (λ (x : Row). option_map root_number x.parent)) e

-- the rows' root numbers
abbrev pub roots : List Row → List ℕ
roots rows = map (λ r. root_number r.name) rows

-- a number at which a row stands is among them
pub IsIn-roots : (rows : List Row) (n : ℕ) (r : Row) → row_at rows n ≡ Some r → IsIn n (roots rows)
IsIn-roots rows n r e = let q = row_at-Some rows n r e in subst (λ x. IsIn x (roots rows)) q.1 (IsIn-map (λ (x : Row). root_number x.name) r rows q.0)

-- a number from which number 1 is reached has a chain that is long enough
pub chain-in_rows : (rows : List Row) → parent_number rows 1 ≡ None → IsIn 1 (roots rows) → (k n : ℕ) → Far (parent_number rows) k n
    → IsIn 1 (climb (parent_number rows) (length rows) n)
chain-in_rows rows top one k n far =
    let l : k < length (roots rows) = steps_below_length (parent_number rows) top k n (roots rows) far (λ j x h g. there j x g) in
    let m : length (roots rows) ≡ length rows = length-map rows (λ (r : Row). root_number r.name) in
    climb_in (parent_number rows) (length rows) k n 1 far (omega arith)
  where
    there : (j x : ℕ) → Far (parent_number rows) j x → IsIn x (roots rows)
    there zero x e = subst (λ y. IsIn y (roots rows)) (sym e) one
    there (suc j) x r = let q = parent_number-row rows x r.0 r.1 in IsIn-roots rows x q.0 q.2

-- number 1 stays as far where the parents stay
pub Far-same : (f g : ℕ → Option ℕ) (G : ℕ → Type 0) → ((n : ℕ) → G n → g n ≡ f n) → ((n p : ℕ) → G n → f n ≡ Some p → G p) → (k n : ℕ)
    → Far f k n → G n → Far g k n × G 1
Far-same f g G same up zero n far good = (far, subst G far good)
Far-same f g G same up (suc k) n far good =
    let r = Far-same f g G same up k far.0 far.2 (up n far.0 good far.1) in
    ((far.0, same n good ∙ far.1, r.0), r.1)

-- ---- in a coherent state

-- the number of a name in the root namespace is its root number
pub number-root : (spaces : List Space) (pid_max : ℕ) (a : Name) → IsTreeOfSpaces spaces → IsWellNumbered spaces pid_max a
    → number spaces a 0 ≡ Some (root_number a)
unfolding number path_up
number-root spaces pid_max a tree well =
    let f : ℕ → Option ℕ = parent_space spaces in
    let on : IsIn 0 (climb f 33 a.space) = IsOnTree-name spaces pid_max tree a well in
    let t = climb_suffix f 33 a.space 0 (Stops-at_root f 33 a.space (root_space_parent spaces tree) on) on in
    let path : climb f 33 a.space ≡ t.0 ++ 0 ∷ [] = t.1 ∙ ap (λ xs. t.0 ++ xs) (climb-None f 32 0 (root_space_parent spaces tree)) in
    let back : reverse (climb f 33 a.space) ≡ 0 ∷ reverse t.0 = ap reverse path ∙ reverse-append t.0 (0 ∷ []) in
    ap (λ xs. beside 0 xs a.numbers.items) back ∙ first a.numbers.items (reverse t.0) (λ e. let n : length a.numbers.items ≡ 0 = ap length e in
    let m : length (climb f 33 a.space) ≡ suc (length (reverse t.0)) = sym (length-reverse (climb f 33 a.space)) ∙ ap length back in
    let o : length a.numbers.items ≡ length (climb f 33 a.space) = well.one_each in omega arith)
  where
    first : (ns ts : List ℕ) → (ns ≡ [] → ⊥) → beside 0 (0 ∷ ts) ns ≡ Some (slice_index ns 0)
    first [] ts h = absurd (h refl)
    first (n ∷ ns) ts h = refl

module _ (state : State) (sound : IsCoherent state) where
  -- the same of a row
  pub number-root_of_row : (r : Row) → IsIn r state.rows → number state.spaces r.name 0 ≡ Some (root_number r.name)
  number-root_of_row r i = number-root state.spaces state.pid_max r.name sound.spaces (sound.numbered r.name (own_in_use state r i))

  -- a row's own namespace is on the tree
  pub row_on_tree : (r : Row) → IsIn r state.rows → IsOnTree state.spaces r.name.space
  row_on_tree r i = IsOnTree-name state.spaces state.pid_max sound.spaces r.name (sound.numbered r.name (own_in_use state r i))

  -- nothing but the root is around the root
  pub root_path : (x : ℕ) → IsIn x (path_up state.spaces 0) → x ≡ 0
  unfolding path_up
  root_path x i = elim (subst (IsIn x) (climb-None (parent_space state.spaces) 32 0 (root_space_parent state.spaces sound.spaces)) i) [ inl e ↦ e | inr none ↦ elim none [ ] ]

  -- the root namespace has its init, a row of number 1
  pub root_init_row : (r : Row) × IsIn r state.rows × (is_live r ≡ true) × (r.name.space ≡ 0) × (root_number r.name ≡ 1)
  root_init_row =
      let root : Space = sound.spaces.root.0 in
      let at = space_at-Some state.spaces 0 root sound.spaces.root.1 in
      let r = sound.standing root at.0 (sound.root root at.0 at.1) in
      let here : number state.spaces r.0.name 0 ≡ Some 1 = subst (λ x. number state.spaces r.0.name x ≡ Some 1) at.1 r.4 in
      let some : number state.spaces r.0.name 0 ≡ Some (root_number r.0.name) = number-root_of_row r.0 r.1 in
      (r.0, r.1, r.2, r.3 ∙ at.1, (let one : root_number r.0.name ≡ 1 = cc in one))

  -- number 1 has no parent
  pub top_row : parent_number state.rows 1 ≡ None
  top_row = grind (arith, never)
    where
      never : (p : ℕ) → parent_number state.rows 1 ≡ Some p → ⊥
      never p e =
          let u = parent_number-row state.rows 1 p e in
          let at = row_at-Some state.rows 1 u.0 u.2 in
          let g = (sound.parents u.0 at.0).good u.1 u.3 in
          let top = root_init_row in
          let same : u.0 ≡ top.0 = unique_key (λ (x : Row). root_number x.name) state.rows sound.rows_rise u.0 top.0 at.0 top.1 (at.1 ∙ sym top.4) in
          let here : u.0.name.space ≡ 0 = ap (λ (x : Row). x.name.space) same ∙ top.3 in
          let up : u.1.space ≡ 0 = root_path u.1.space (subst (λ x. IsIn u.1.space (path_up state.spaces x)) here g.around) in
          g.outside (subst (λ x. number state.spaces u.0.name x ≡ Some 1) (sym here) (number-root_of_row u.0 at.0 ∙ ap Some at.1)) (up ∙ sym here)

  -- each row is so far from number 1
  pub row_far : (r : Row) → IsIn r state.rows → (k : ℕ) × Far (parent_number state.rows) k (root_number r.name)
  row_far r i = let w = in_climb (parent_number state.rows) (length state.rows) (root_number r.name) 1 (sound.parents r i).chain in (w.0, w.1)

  -- the parent of the row at a number is a live row
  pub parent_row : (n p : ℕ) → parent_number state.rows n ≡ Some p
      → (r : Row) × (q : Row) × IsIn r state.rows × (root_number r.name ≡ n) × IsIn q state.rows × (root_number q.name ≡ p) × (is_live q ≡ true) × (r.parent ≡ Some q.name)
  parent_row n p e =
      let u = parent_number-row state.rows n p e in
      let at = row_at-Some state.rows n u.0 u.2 in
      let g = (sound.parents u.0 at.0).good u.1 u.3 in
      (u.0, g.lives.0, at.0, at.1, g.lives.1, ap root_number g.lives.2 ∙ u.4, g.lives.3, u.3 ∙ ap Some (sym g.lives.2))

  -- the parent of a row, by its number
  pub row_parent : (x : Row) → IsIn x state.rows → (m : ℕ) → parent_number state.rows (root_number x.name) ≡ Some m
      → (q : Row) × IsIn q state.rows × (root_number q.name ≡ m) × (is_live q ≡ true) × (x.parent ≡ Some q.name)
  row_parent x i m e =
      let u = parent_row (root_number x.name) m e in
      let same : u.0 ≡ x = unique_key (λ (r : Row). root_number r.name) state.rows sound.rows_rise u.0 x u.2 i u.3 in
      (u.1, u.4, u.5, u.6, ap (λ (r : Row). r.parent) (sym same) ∙ u.7)

  -- rows whose parents are among them keep their parents, under the names that they had
  module _ (after : List Row) (rise : IsRising (roots after)) (g : Row → Row) (Stays : Row → Type 0)
      (there : (x : Row) → IsIn x state.rows → Stays x → IsIn (g x) after × ((g x).name ≡ x.name) × ((g x).parent ≡ x.parent))
      (up : (x q : Row) → IsIn x state.rows → IsIn q state.rows → Stays x → x.parent ≡ Some q.name → is_live q ≡ true → Stays q) where
    -- the number is that of such a row
    abbrev IsAt : ℕ → Type 0
    IsAt n = (x : Row) × IsIn x state.rows × (root_number x.name ≡ n) × Stays x

    -- it is found by its root number
    found : (n : ℕ) (s : IsAt n) → row_at after n ≡ Some (g s.0)
    found n s = let k = there s.0 s.1 s.3 in subst (λ m. row_at after m ≡ Some (g s.0)) (ap root_number k.1 ∙ s.2) (row_at-listed after rise (g s.0) k.0)

    -- and has the parent that it had
    same_parent : (n : ℕ) → IsAt n → parent_number after n ≡ parent_number state.rows n
    same_parent n s =
        parent_number-at after n (g s.0) (found n s) ∙ ap (option_map root_number) (there s.0 s.1 s.3).2
        ∙ sym (parent_number-at state.rows n s.0 (subst (λ m. row_at state.rows m ≡ Some s.0) s.2 (row_at-listed state.rows sound.rows_rise s.0 s.1)))

    -- which is such a row
    next : (n m : ℕ) → IsAt n → parent_number state.rows n ≡ Some m → IsAt m
    next n m s e =
        let u = row_parent s.0 s.1 m (subst (λ k. parent_number state.rows k ≡ Some m) (sym s.2) e) in
        (u.0, u.1, u.2, up s.0 u.0 s.1 u.1 s.3 u.4 u.3)

    -- so it is as far from number 1 as it was, which is there without a parent
    pub far_kept : (x : Row) → IsIn x state.rows → Stays x
        → (k : ℕ) × Far (parent_number after) k (root_number x.name) × (parent_number after 1 ≡ None) × IsIn 1 (roots after)
    far_kept x i s =
        let far = row_far x i in
        let f = Far-same (parent_number state.rows) (parent_number after) IsAt same_parent next far.0 (root_number x.name) far.1 (x, i, refl, s) in
        (far.0, f.0, same_parent 1 f.1 ∙ top_row, IsIn-roots after 1 (g f.1.0) (found 1 f.1))

    -- and its chain is long enough
    pub chain_kept : (x : Row) → IsIn x state.rows → Stays x → IsIn 1 (climb (parent_number after) (length after) (root_number x.name))
    chain_kept x i s = let f = far_kept x i s in chain-in_rows after f.2 f.3 f.0 (root_number x.name) f.1

  -- the root init lives in the root namespace, and has no parent
  pub root_init_lives : (init : Row) × IsRootInit state init
  root_init_lives =
      let r = root_init_row in
      let at : row_at state.rows 1 ≡ Some r.0 = subst (λ n. row_at state.rows n ≡ Some r.0) r.4 (row_at-listed state.rows sound.rows_rise r.0 r.1) in
      (r.0, record { first = at; lives = r.2; here = r.3; parentless = none r.0.parent (sym (parent_number-at state.rows 1 r.0 at) ∙ top_row) })
    where
      none : (o : Option Name) → option_map root_number o ≡ None → o ≡ None
      none o e = grind arith
