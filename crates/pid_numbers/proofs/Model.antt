-- The model's paths and numbers are those of the keys.
use Rattle.std.proofs.Common.{◌≡◌, ◌≢◌, ◌⊎◌, ℕ, zero, suc, ◌<◌, ◌≤◌, true, ◌==◌, List, [], ◌∷◌, ◌++◌, length, map, get_or, Option, Some, None, if◌then◌else◌, refl, sym, ap, ◌∙◌, arith, option_and_then}
use Rattle.std.specs.Cmp.{both_ways}
use Rattle.pid_numbers.proofs.Words.{reverse, option_map_or, cases_eq, eq-eqb, ne_eqb, option_and_then_some, length-reverse, reverse-append, map-append, climb}
use Rattle.pid_numbers.proofs.Words.{beside, parent_space, path_up, number, contains, in_use, taken, cyclic_draw, cursor_of, draw, cyclic_draw-same}
use Rattle.pid_numbers.proofs.Words.{Numbering, Namespace, Identifier, namespace_at, identifier_at, number_of, number_in, path_at, taken_in, draw_in, IsPath}
use Rattle.pid_numbers.proofs.Words.{distinct-path}
use Rattle.pid_types.specs.declared.plain.Space.{Space}
use Rattle.pid_types.specs.declared.plain.Name.{Name}
use Rattle.pid_types.specs.State.{State, root_name}
use Rattle.pid_numbers.proofs.Ties.{beside-none, among_from, among, listed}

abbrev first : (ℕ → ℕ) → List ℕ → Option ℕ
first id [] = None
first id (q ∷ qs) = Some (id q)

-- beside the id is what is beside the key
pub beside-ids : (id : ℕ → ℕ) (s : ℕ) (p ns : List ℕ) → ((t : ℕ) → id t ≡ id s → t ≡ s) → beside (id s) (map id p) ns ≡ beside s p ns
beside-ids id s [] ns only = refl
beside-ids id s (t ∷ ts) [] only = refl
beside-ids id s (t ∷ ts) (n ∷ ns) only = let again = beside-ids id s ts ns only in grind (arith, cases_eq, eq-eqb, ne_eqb)

abbrev either : Option ℕ → Option ℕ → Option ℕ
either None b = b
either (Some a) b = Some a

beside-snoc : (s t n : ℕ) (ts ns : List ℕ) → length ts ≡ length ns → beside s (ts ++ t ∷ []) (ns ++ n ∷ []) ≡ either (beside s ts ns) (if t == s then Some n else None)
beside-snoc s t n [] [] e = refl
beside-snoc s t n [] (m ∷ ms) e = absurd (omega (arith, e))
beside-snoc s t n (u ∷ us) [] e = absurd (omega (arith, e))
beside-snoc s t n (u ∷ us) (m ∷ ms) e = grind (arith, beside-snoc s t n us ms)

module _ (ways : ℕ → List ℕ) where
  -- the order of the levels does not matter
  pub beside-reverse : (s : ℕ) (p ns : List ℕ) → IsPath ways p → length p ≡ length ns → beside s (reverse p) (reverse ns) ≡ beside s p ns
  beside-reverse s [] [] h e = refl
  beside-reverse s [] (n ∷ ns) h e = absurd (omega (arith, e))
  beside-reverse s (t ∷ ts) [] h e = absurd (omega (arith, e))
  beside-reverse s (t ∷ ts) (n ∷ ns) h e =
      ap (λ p. beside s p (reverse (n ∷ ns))) (reverse-append (t ∷ []) ts) ∙ ap (λ q. beside s (reverse ts ++ t ∷ []) q) (reverse-append (n ∷ []) ns)
      ∙ beside-snoc s t n (reverse ts) (reverse ns) (length-reverse ts ∙ tails ∙ sym (length-reverse ns))
      ∙ ap (λ o. either o (if t == s then Some n else None)) (beside-reverse s ts ns h.1 tails)
      ∙ go (cases_eq t s)
    where
      tails : length ts ≡ length ns
      tails = omega (arith, e)

      plain : (o : Option ℕ) → either o None ≡ o
      plain o = grind arith

      go : (t ≡ s) ⊎ (t ≢ s) → either (beside s ts ns) (if t == s then Some n else None) ≡ (if t == s then Some n else beside s ts ns)
      go same = let none = beside-none s ts ns in let apart = λ (j : ℕ). distinct-path ways (t ∷ ts) h 0 (suc j) in grind (arith, eq-eqb, ne_eqb, plain)

  module _ (spaces : List Space) (id : ℕ → ℕ) (up : (s : ℕ) (rest : List ℕ) → ways s ≡ s ∷ rest → parent_space spaces (id s) ≡ first id rest) where
    climb-is : (fuel s : ℕ) (rest : List ℕ) → IsPath ways (s ∷ rest) → length (s ∷ rest) ≤ fuel → climb (parent_space spaces) fuel (id s) ≡ map id (s ∷ rest)
    unfolding climb
    climb-is zero s rest h few = absurd (omega (arith, few))
    climb-is (suc fuel) s [] h few = ap (λ o. id s ∷ option_map_or (climb (parent_space spaces) fuel) o []) (up s [] h.0)
    climb-is (suc fuel) s (q ∷ qs) h few =
        ap (λ o. id s ∷ option_map_or (climb (parent_space spaces) fuel) o []) (up s (q ∷ qs) h.0)
        ∙ ap (λ l. id s ∷ l) (climb-is fuel q qs h.1 (omega (arith, few)))

    -- the model's path is that of the keys
    pub path_up-is : (s : ℕ) (rest : List ℕ) → IsPath ways (s ∷ rest) → length (s ∷ rest) ≤ 33 → path_up spaces (id s) ≡ map id (s ∷ rest)
    unfolding path_up
    path_up-is s rest h few = climb-is 33 s rest h few

    -- the model's number is that of the keys
    pub number-is : (s t : ℕ) (rest ns : List ℕ) (name : Name) → IsPath ways (t ∷ rest) → length (t ∷ rest) ≤ 33 → length (t ∷ rest) ≡ length ns → ((k : ℕ) → id k ≡ id s → k ≡ s)
        → name.space ≡ id t → name.numbers.items ≡ reverse ns → number spaces name (id s) ≡ beside s (t ∷ rest) ns
    unfolding number
    number-is s t rest ns name h few len only space numbers =
        ap (λ q. beside (id s) (reverse (path_up spaces name.space)) q) numbers
        ∙ ap (λ q. beside (id s) (reverse (path_up spaces q)) (reverse ns)) space
        ∙ ap (λ p. beside (id s) (reverse p) (reverse ns)) (path_up-is t rest h few)
        ∙ ap (λ p. beside (id s) p (reverse ns)) (map-reverse (t ∷ rest))
        ∙ beside-ids id s (reverse (t ∷ rest)) (reverse ns) only
        ∙ beside-reverse s (t ∷ rest) ns h len
      where
        map-reverse : (p : List ℕ) → reverse (map id p) ≡ map id (reverse p)
        map-reverse [] = refl
        map-reverse (x ∷ xs) = reverse-append (id x ∷ []) (map id xs) ∙ ap (λ l. l ++ id x ∷ []) (map-reverse xs) ∙ sym (ap (map id) (reverse-append (x ∷ []) xs) ∙ map-append id (reverse xs) (x ∷ []))

-- a namespace gives the number that the model draws, where the names in use are the same
pub draw-is : (state : State) (b : Numbering) (sid s : ℕ) (t : Namespace) → namespace_at b s ≡ Some t → state.pid_max ≡ b.pid_max → cursor_of state sid ≡ t.cursor
    → ((i : ℕ) (u : Identifier) → identifier_at b i ≡ Some u → (x : ℕ) × (x < length (in_use state)) × (number state.spaces (get_or (in_use state) x root_name) sid ≡ number_of b i s))
    → ((x : ℕ) → x < length (in_use state) → (i : ℕ) × (number state.spaces (get_or (in_use state) x root_name) sid ≡ number_of b i s))
    → draw state sid ≡ draw_in b s
unfolding draw taken taken_in
draw-is state b sid s t at max cursor there back =
    cyclic_draw-same state.pid_max (cursor_of state sid) (taken state sid) (taken_in b s) same
    ∙ ap (λ m. cyclic_draw m (cursor_of state sid) (taken_in b s)) max ∙ ap (λ k. cyclic_draw b.pid_max k (taken_in b s)) cursor
    ∙ sym (ap (option_and_then (λ t. cyclic_draw b.pid_max t.cursor (taken_in b s))) at)
  where
    of_key : (i n : ℕ) → number_of b i s ≡ Some n → contains (taken state sid) n ≡ true
    of_key i n e = option_and_then_some (λ u. beside s (path_at b u.space) u.numbers) (identifier_at b i) n e (λ u is h.
        let r = there i u is in
        among (λ name. number state.spaces name sid) root_name (in_use state) r.0 n r.1 (r.2 ∙ e))

    same : (n : ℕ) → contains (taken state sid) n ≡ contains (taken_in b s) n
    same n = both_ways (contains (taken state sid) n) (contains (taken_in b s) n)
        (λ e.
        let r = among_from (λ name. number state.spaces name sid) root_name (in_use state) n e in
        let k = back r.0 r.1 in
        listed (number_in (path_at b) s) refl b.names k.0 n (sym k.1 ∙ r.2))
        (λ e. let r = among_from (number_in (path_at b) s) None b.names n e in of_key r.0 n r.2)
