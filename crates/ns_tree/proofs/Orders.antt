-- The order of the namespaces, where one is added and where some go.
use Rattle.std.proofs.Common.{◌≡◌, ◌≢◌, inl, inr, ℕ, List, [], ◌∷◌, ◌++◌, cond, not, ◌==◌, Bool, true, false, Option, Some, None, is_some, option_map, refl, sym, ap, subst, ◌∙◌}
use Rattle.std.specs.List.{AllByRecursion, filter}
use Rattle.std.proofs.lemmas.Bool.{cases_eq, eq-eqb, ne_eqb, both_ways}
use Rattle.std.proofs.lemmas.Option.{none-some, same_Some}
use Rattle.id_slab.specs.Ids.{key_of, without, AreBelow}
use Rattle.id_slab.proofs.Keys.{key_of-push, key_of-new, key_of-kept}
use Rattle.ns_tree.specs.Tree.{Node, AreListed}

module _ {X : Type 0} where
  -- tests that agree on each element keep the same
  pub filter-same : (f g : X → Bool) (xs : List X) → AllByRecursion (λ x. f x ≡ g x) xs → filter f xs ≡ filter g xs
  filter-same f g [] all = refl
  filter-same f g (x ∷ xs) all = ap (λ b. cond b (x ∷ filter f xs) (filter f xs)) all.0 ∙ ap (λ rest. cond (g x) (x ∷ rest) rest) (filter-same f g xs all.1)

  pub filter-all : (f : X → Bool) (xs : List X) → AllByRecursion (λ x. f x ≡ true) xs → filter f xs ≡ xs
  filter-all f [] all = refl
  filter-all f (x ∷ xs) all = ap (λ b. cond b (x ∷ filter f xs) (filter f xs)) all.0 ∙ ap (λ rest. x ∷ rest) (filter-all f xs all.1)

  -- what is kept was kept before
  pub filter-filter : (f g : X → Bool) → ((x : X) → f x ≡ true → g x ≡ true) → (xs : List X) → filter f (filter g xs) ≡ filter f xs
  filter-filter f g more [] = refl
  filter-filter f g more (x ∷ xs) = go (g x) refl (f x) refl (filter-filter f g more xs)
    where
      go : (b : Bool) → g x ≡ b → (c : Bool) → f x ≡ c → filter f (filter g xs) ≡ filter f xs → filter f (cond b (x ∷ filter g xs) (filter g xs)) ≡ cond c (x ∷ filter f xs) (filter f xs)
      go true on c is again = ap (λ b. cond b (x ∷ filter f (filter g xs)) (filter f (filter g xs))) is ∙ ap (λ rest. cond c (x ∷ rest) rest) again
      go false off true is again = absurd (both_ways (g x) off (more x is))
      go false off false is again = again

  pub all-weaken : (P Q : X → Type 0) → ((x : X) → P x → Q x) → (xs : List X) → AllByRecursion P xs → AllByRecursion Q xs
  all-weaken P Q f [] all = tt
  all-weaken P Q f (x ∷ xs) all = (f x all.0, all-weaken P Q f xs all.1)

module _ (id id' : ℕ → Option ℕ) (order : List (ℕ × ℕ)) (l : AreListed id order) where
  -- the ids stay
  pub listed-same : ((s : ℕ) → id' s ≡ id s) → AreListed id' order
  listed-same same = subst (λ (f : ℕ → Option ℕ). AreListed f order) (λ i s. sym (same s) i) l

  -- one more, above all others
  pub listed-made : (i key : ℕ) → AreBelow order i → id key ≡ None → id' key ≡ Some i → ((s : ℕ) → s ≢ key → id' s ≡ id s) → AreListed id' (order ++ (i, key) ∷ [])
  listed-made i key below vacant here others = record {
    each = each order l.each;
    listed = λ s j e. elim (cases_eq s key) [
      | inl same ↦
          let is = same_Some i j (sym here ∙ ap id' (sym same) ∙ e) in
          ap (key_of (order ++ (i, key) ∷ [])) (sym is) ∙ key_of-new order i key below ∙ ap Some (sym same)
      | inr d ↦ key_of-push order i key j s (l.listed s j (sym (others s d) ∙ e))
    ];
  }
    where
      each : (ps : List (ℕ × ℕ)) → AllByRecursion (λ p. id p.1 ≡ Some p.0) ps → AllByRecursion (λ p. id' p.1 ≡ Some p.0) (ps ++ (i, key) ∷ [])
      each [] all = (here, tt)
      each (p ∷ ps) all = (others p.1 (λ e. none-some p.0 (sym (ap id e ∙ vacant) ∙ all.0)) ∙ all.0, each ps all.1)

  -- some go
  pub listed-kept : (keep : ℕ → Bool) → ((s : ℕ) → keep s ≡ true → id' s ≡ id s) → ((s : ℕ) → keep s ≡ false → id' s ≡ None) → AreListed id' (filter (λ p. keep p.1) order)
  listed-kept keep stay go_away = record {
    each = each order l.each;
    listed = λ s i e. listed s i (keep s) refl e;
  }
    where
      each : (ps : List (ℕ × ℕ)) → AllByRecursion (λ p. id p.1 ≡ Some p.0) ps → AllByRecursion (λ p. id' p.1 ≡ Some p.0) (filter (λ p. keep p.1) ps)
      each [] all = tt
      each (p ∷ ps) all = by (keep p.1) refl (each ps all.1)
        where
          by : (b : Bool) → keep p.1 ≡ b → AllByRecursion (λ p. id' p.1 ≡ Some p.0) (filter (λ p. keep p.1) ps) → AllByRecursion (λ p. id' p.1 ≡ Some p.0) (cond b (p ∷ filter (λ p. keep p.1) ps) (filter (λ p. keep p.1) ps))
          by true on rest = (stay p.1 on ∙ all.0, rest)
          by false off rest = rest

      listed : (s i : ℕ) (b : Bool) → keep s ≡ b → id' s ≡ Some i → key_of (filter (λ p. keep p.1) order) i ≡ Some s
      listed s i true on e = key_of-kept keep order i s on (l.listed s i (sym (stay s on) ∙ e))
      listed s i false off e = absurd (none-some i (sym (go_away s off) ∙ e))

  -- where one of the ids goes, its key goes
  pub without-key : (keep : ℕ → Bool) (i key : ℕ) → id key ≡ Some i → keep key ≡ false → ((s j : ℕ) → s ≢ key → id s ≡ Some j → keep s ≡ true) → without order i ≡ filter (λ p. keep p.1) order
  without-key keep i key is off others = filter-same (λ p. not (p.0 == i)) (λ p. keep p.1) order (all-weaken (λ p. id p.1 ≡ Some p.0) (λ p. not (p.0 == i) ≡ keep p.1) one order l.each)
    where
      one : (p : ℕ × ℕ) → id p.1 ≡ Some p.0 → not (p.0 == i) ≡ keep p.1
      one p at = elim (cases_eq p.1 key) [
        | inl same ↦ ap not (eq-eqb p.0 i (same_Some p.0 i (sym at ∙ ap id same ∙ is))) ∙ sym (ap keep same ∙ off)
        | inr d ↦ ap not (ne_eqb p.0 i (λ e. d (same_Some p.1 key (sym (l.listed p.1 i (at ∙ ap Some e)) ∙ l.listed key i is)))) ∙ sym (others p.1 p.0 d at)
      ]

  -- where none goes the order stays
  pub all-there : (keep : ℕ → Bool) → ((s i : ℕ) → id s ≡ Some i → keep s ≡ true) → filter (λ p. keep p.1) order ≡ order
  all-there keep stay = filter-all (λ p. keep p.1) order (all-weaken (λ p. id p.1 ≡ Some p.0) (λ p. keep p.1 ≡ true) (λ p at. stay p.1 p.0 at) order l.each)

-- an id is that of a namespace that is there
pub id-there : (o : Option Node) (i : ℕ) → option_map (λ t. t.id) o ≡ Some i → is_some o ≡ true
id-there None i e = absurd (cc)
id-there (Some t) i e = refl

pub id-gone : (o : Option Node) → is_some o ≡ false → option_map (λ t. t.id) o ≡ None
id-gone None e = refl
id-gone (Some t) e = absurd (cc)
