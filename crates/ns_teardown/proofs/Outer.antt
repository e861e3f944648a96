-- Above an ancestor in another namespace none is in this one.
use Rattle.std.proofs.Common.{◌≡◌, ◌≢◌, ℕ, zero, suc, ◌+◌, ◌-◌, ◌<◌, ◌==◌, ◌&&◌, Bool, true, false, cond, drop, [], length, Option, Some, None, option_map, refl, sym, ap, ◌∙◌, arith}
use Rattle.std.specs.Prelude.{slice_index_or, find}
use Rattle.std.specs.Option.{option_map_or}
use Rattle.std.proofs.lemmas.Bool.{eq-eqb}
use Rattle.std.proofs.lemmas.List.{length-drop, get_or-drop}
use Rattle.pid_types.specs.Chains.{climb, contains}
use Rattle.pid_numbers.specs.Numbering.{Numbering, Identifier, identifier_at, path_at}
use Rattle.pid_numbers.proofs.Sweeps.{contains_at, place_of}
use Rattle.task_tree.specs.Tree.{task_at, parent_of}
use Rattle.task_table.specs.Store.{Store}
use Rattle.task_table.specs.Lawful.{HasLaws, IsLawful}
use Rattle.ns_teardown.specs.GoodTasks.{HasGoodTasks}
use Rattle.ns_teardown.specs.Heirs.{is_subreaper_of}
use Rattle.pid_types.proofs.Ancestors.{found_above}
use Rattle.ns_teardown.proofs.Visible as visible

module _ (b : Numbering) (laws : HasLaws b) where
  -- what is around a namespace that is around another is around that one
  pub around-around : (s t r : ℕ) → contains (path_at b s) t ≡ true → contains (path_at b t) r ≡ true → contains (path_at b s) r ≡ true
  around-around s t r first second =
      let i = place_of (path_at b s) t first in
      let j = place_of (path_at b t) r second in
      let path : path_at b t ≡ drop i.0 (path_at b s) = ap (path_at b) (sym i.2) ∙ laws.around s i.0 i.1 in
      let len : length (path_at b t) ≡ length (path_at b s) - i.0 = ap length path ∙ length-drop i.0 (path_at b s) in
      let below : i.0 + j.0 < length (path_at b s) = omega (arith, len, j.1) in
      let at : slice_index_or (path_at b s) (i.0 + j.0) 0 ≡ r = sym (get_or-drop i.0 (path_at b s) j.0 0) ∙ ap (λ l. slice_index_or l j.0 0) (sym path) ∙ j.2 in
      sym (ap (contains (path_at b s)) at) ∙ contains_at (path_at b s) (i.0 + j.0) below

  -- two namespaces around each other are one
  pub around-same : (s t : ℕ) → contains (path_at b s) t ≡ true → contains (path_at b t) s ≡ true → t ≡ s
  around-same s t first second =
      let i = place_of (path_at b s) t first in
      let j = place_of (path_at b t) s second in
      let down : length (path_at b t) ≡ length (path_at b s) - i.0 = ap (λ n. length (path_at b n)) (sym i.2) ∙ ap length (laws.around s i.0 i.1) ∙ length-drop i.0 (path_at b s) in
      let up : length (path_at b s) ≡ length (path_at b t) - j.0 = ap (λ n. length (path_at b n)) (sym j.2) ∙ ap length (laws.around t j.0 j.1) ∙ length-drop j.0 (path_at b t) in
      let below = i.1 in
      let lt = j.1 in
      let zero : i.0 ≡ 0 = omega (arith, down, up, below, lt) in
      sym i.2 ∙ ap (λ n. slice_index_or (path_at b s) n 0) zero ∙ laws.own s (omega (arith, below))

-- a subreaper of this namespace, by its mark and its namespace
pub marked-here : (s : Store) (space k : ℕ) → option_map_or (λ t. t.subreaper) (task_at s.tree k) false ≡ true → option_map (λ (u : Identifier). u.space) (identifier_at s.numbering k) ≡ Some space → is_subreaper_of s space k ≡ true
marked-here s space k mark own = ap (λ b. b && option_map_or (λ (u : Identifier). u.space == space) (identifier_at s.numbering k) false) mark ∙ go (identifier_at s.numbering k) own
  where
    go : (o : Option Identifier) → option_map (λ (u : Identifier). u.space) o ≡ Some space → option_map_or (λ (u : Identifier). u.space == space) o false ≡ true
    go None e = absurd (cc)
    go (Some u) e = eq-eqb u.space space (ap (λ o. option_map_or (λ n. n) o u.space) e)

pub unmarked : (s : Store) (space k : ℕ) → option_map_or (λ t. t.subreaper) (task_at s.tree k) false ≡ false → is_subreaper_of s space k ≡ false
unmarked s space k mark = ap (λ b. b && option_map_or (λ (u : Identifier). u.space == space) (identifier_at s.numbering k) false) mark

-- a task whose own namespace is another one around this one
pub record IsOuter (s : Store) (space x : ℕ) : Type 0 where
  pub identifier : Identifier
  pub named : identifier_at s.numbering x ≡ Some identifier
  pub differs : identifier.space ≢ space
  pub around : contains (path_at s.numbering space) identifier.space ≡ true

module _ (s : Store) (law : IsLawful s) (good : HasGoodTasks s) (space : ℕ) where
  -- a parent is outer too
  pub outer-parent : (x p : ℕ) → IsOuter s space x → parent_of s.tree x ≡ Some p → IsOuter s space p
  outer-parent x p o child =
      let v = visible.named s law.agree p (good.parents x p child) in
      let up = good.around x p o.identifier v.0 child o.named v.1 in
      record {
        identifier = v.0;
        named = v.1;
        differs = λ same. o.differs (around-same s.numbering law.numbering space o.identifier.space o.around (sym (ap (contains (path_at s.numbering o.identifier.space)) same) ∙ up));
        around = around-around s.numbering law.numbering space o.identifier.space v.0.space o.around up;
      }

  -- and is no subreaper of this one
  pub outer-fails : (x : ℕ) → IsOuter s space x → is_subreaper_of s space x ≡ false
  outer-fails x o =
      let m = o.differs in
      let off : (o.identifier.space == space) ≡ false = grind (arith, m) in
      ap (λ u. option_map_or (λ t. t.subreaper) (task_at s.tree x) false && option_map_or (λ (u : Identifier). u.space == space) u false) o.named
      ∙ ap (λ e. option_map_or (λ t. t.subreaper) (task_at s.tree x) false && e) off ∙ never (option_map_or (λ t. t.subreaper) (task_at s.tree x) false)
    where
      never : (a : Bool) → (a && false) ≡ false
      never true = refl
      never false = refl

  pub outer-none : (most x : ℕ) → IsOuter s space x → found_above (parent_of s.tree) (is_subreaper_of s space) most x ≡ None
  unfolding climb
  outer-none zero x o = go (parent_of s.tree x)
    where
      go : (r : Option ℕ) → find (is_subreaper_of s space) (option_map_or (climb (parent_of s.tree) zero) r []) ≡ None
      go None = refl
      go (Some p) = refl
  outer-none (suc most) x o = go (λ p. outer-none most p) (parent_of s.tree x) refl
    where
      go : ((p : ℕ) → IsOuter s space p → found_above (parent_of s.tree) (is_subreaper_of s space) most p ≡ None) → (r : Option ℕ) → parent_of s.tree x ≡ r
          → find (is_subreaper_of s space) (option_map_or (climb (parent_of s.tree) (suc most)) r []) ≡ None
      go again None e = refl
      go again (Some p) e =
          let q = outer-parent x p o e in
          ap (λ t. cond t (Some p) (found_above (parent_of s.tree) (is_subreaper_of s space) most p)) (outer-fails p q) ∙ again p q

  -- the parent of a task of this namespace is of it, or outer
  pub left-space : (x p : ℕ) → option_map (λ (u : Identifier). u.space) (identifier_at s.numbering x) ≡ Some space → parent_of s.tree x ≡ Some p
      → option_map (λ (u : Identifier). u.space) (identifier_at s.numbering p) ≢ Some space → IsOuter s space p
  left-space x p own child other =
      let v = visible.named s law.agree p (good.parents x p child) in
      go (identifier_at s.numbering x) refl own v.0 v.1
    where
      go : (o : Option Identifier) → identifier_at s.numbering x ≡ o → option_map (λ (u : Identifier). u.space) o ≡ Some space → (v : Identifier) → identifier_at s.numbering p ≡ Some v → IsOuter s space p
      go None e z v at = absurd (cc)
      go (Some u) e z v at =
          let same : u.space ≡ space = ap (λ o. option_map_or (λ n. n) o u.space) z in
          record {
            identifier = v;
            named = at;
            differs = λ is. other (ap (option_map (λ (u : Identifier). u.space)) at ∙ ap Some is);
            around = sym (ap (λ n. contains (path_at s.numbering n) v.space) same) ∙ good.around x p u v child e at;
          }
