-- What is directly inside, by keys and in the model.
use Rattle.std.proofs.Common.{◌≡◌, ℕ, ◌≤◌, ◌==◌, Bool, true, nat_le, List, [], ◌∷◌, map, filter, filter_map, slice_get, Option, Some, None, IsSome, option_map, option_and_then, length, take, ◌+◌, refl, sym, ap, subst, ◌∙◌, arith}
use Rattle.std.specs.Option.{option_eq}
use Rattle.std.specs.List.{AllByRecursion}
use Rattle.std.specs.List.Sorted.{IsPermutation, IsSorted}
use Rattle.std.specs.Ordering.{nat_cmp}
use Rattle.std.proofs.lemmas.List.Sorted.{IsNonDecreasingBy-from_sort}
use Rattle.member_lists.specs.Owners.{times}
use Rattle.pid_types.proofs.General.{some_number, number_tested}
use Rattle.pid_types.specs.declared.plain.Control.{Control}
use Rattle.pid_types.specs.declared.plain.Space.{Space}
use Rattle.pid_types.specs.Controls.{control_at, parent_control}
use Rattle.pid_types.specs.Membership.{IsIn}
use Rattle.pid_types.specs.Sound.{IsRising}
use Rattle.model_laws.proofs.Lists.{IsIn-map, IsIn-from_map, IsIn-filter, IsIn-from_filter, IsIn-filter_map, IsIn-from_filter_map}
use Rattle.model_laws.proofs.Rising.{find-key, find-key_at}
use Rattle.ns_tree.specs.Tree.{AreInside, outer_of}
use Rattle.pid_numbers.specs.Numbering.{Namespace, Numbering, id_at, namespace_at, path_at}
use Rattle.pids_charge.specs.Charges.{Charges, AreControlsIn, stands, home_id}
use Rattle.task_table.specs.Lawful.{HasLaws}
use Rattle.task_table.specs.View.{parent_id, space_of, spaces_of}
use Rattle.task_table.proofs.Around.{space-from, space-in}
use Rattle.task_table.proofs.Places.{each-in}
use Rattle.translate.specs.Inside.{AreFrom}
use Rattle.translate.specs.Listed.{TellsList}
use Rattle.translate.specs.Pages.{with_front, AreListedFrom, AreLeastFrom}
use Rattle.translate.proofs.LeastFrom.{least}
use Rattle.translate.proofs.Rising.{once-each, once-found, times-filter, times-IsIn, times-permuted, IsIn-permuted, IsIn-unpermuted, rising-once}

le-from : (a b : ℕ) → nat_le a b ≡ true → a ≤ b
le-from a b e = grind (arith, e)

to-le : (a b : ℕ) → a ≤ b → nat_le a b ≡ true
to-le a b h = grind (arith, h)

-- the same numbers, from one on
from-same : (numbers ns : List ℕ) (from : ℕ) → ((m : ℕ) → times m ns ≤ 1) → ((m : ℕ) → IsIn m ns → IsIn m numbers) → ((m : ℕ) → IsIn m numbers → IsIn m ns)
    → AreFrom numbers from (filter (nat_le from) ns)
from-same numbers ns from once to back = record {
  once = λ m. (let le = times-filter (nat_le from) m ns in let one = once m in omega (arith, le, one));
  each = λ m. (
    (λ on. let f = IsIn-from_filter (nat_le from) m ns on in (le-from from m f.1, to m f.0)),
    (λ h. IsIn-filter (nat_le from) m ns (back m h.1) (to-le from m h.0)),
  );
}

-- ---- namespaces

-- a namespace with an id is there
pub space-there : (b : Numbering) (s i : ℕ) → id_at b s ≡ Some i → IsSome (namespace_at b s)
space-there b s i at = go (namespace_at b s) at
  where
    go : (o : Option Namespace) → option_map (λ t. t.id) o ≡ Some i → IsSome o
    go None e = absurd (cc)
    go (Some t) e = refl

module _ (b : Numbering) (l : HasLaws b) (key id : ℕ) (at : id_at b key ≡ Some id) (keys : List ℕ) (inner : AreInside (path_at b) key keys) where
  abbrev is_in : Space → Bool
  is_in s = option_eq ◌==◌ s.parent (Some id)

  -- whose parent has the id is directly in the namespace with the key
  outer-key : (k : ℕ) → parent_id b k ≡ Some id → outer_of (path_at b) k ≡ Some key
  outer-key k e = go (slice_get (path_at b k) 1) refl e
    where
      go : (o : Option ℕ) → slice_get (path_at b k) 1 ≡ o → option_and_then (id_at b) o ≡ Some id → slice_get (path_at b k) 1 ≡ Some key
      go None is e = absurd (cc)
      go (Some q) is e = is ∙ ap Some (l.ids q key id e at)

  space-to : (m : ℕ) → IsIn m (filter_map (id_at b) keys) → IsIn m (map (λ (s : Space). s.id) (filter is_in (spaces_of b)))
  space-to m on =
      let f = IsIn-from_filter_map (id_at b) m keys on in
      let outer = each-in (λ s. outer_of (path_at b) s ≡ Some key) keys inner.each f.0 f.1 in
      let parent : parent_id b f.0 ≡ Some id = ap (option_and_then (id_at b)) outer ∙ at in
      IsIn-map (λ (s : Space). s.id) (space_of b (m, f.0)) (filter is_in (spaces_of b))
      (IsIn-filter is_in (space_of b (m, f.0)) (spaces_of b) (space-in b l f.0 m f.2) (number_tested (parent_id b f.0) id parent))

  space-back : (m : ℕ) → IsIn m (map (λ (s : Space). s.id) (filter is_in (spaces_of b))) → IsIn m (filter_map (id_at b) keys)
  space-back m on =
      let f = IsIn-from_map (λ (s : Space). s.id) m (filter is_in (spaces_of b)) on in
      let g = IsIn-from_filter is_in f.0 (spaces_of b) f.1 in
      let k = space-from b l f.0 g.0 in
      let parent : parent_id b k.0 ≡ Some id = sym (ap (λ (s : Space). s.parent) k.2) ∙ some_number f.0.parent id g.1 in
      let once = inner.once k.0 (outer-key k.0 parent) in
      IsIn-filter_map (id_at b) k.0 m keys (times-IsIn k.0 keys (omega (arith, once))) (k.1 ∙ ap Some (sym f.2))

  pub spaces-from : (from : ℕ) → AreFrom (map (λ (s : Space). s.id) (filter is_in (spaces_of b))) from (filter (nat_le from) (filter_map (id_at b) keys))
  spaces-from from =
      from-same (map (λ (s : Space). s.id) (filter is_in (spaces_of b))) (filter_map (id_at b) keys) from
      (once-found (id_at b) l.ids keys (once-each (λ s. outer_of (path_at b) s ≡ Some key) keys inner.once inner.each)) space-to space-back

-- ---- control groups

module _ (v : Charges) (rising : IsRising (map (λ (g : Control). g.id) v.controls)) (key id : ℕ) (at : home_id v key ≡ id) (keys : List ℕ) (inner : AreControlsIn v key keys) where
  abbrev is_below : Control → Bool
  is_below g = option_eq ◌==◌ g.parent (Some id)

  abbrev IsChild : ℕ → Type 0
  IsChild n = parent_control v.controls n ≡ Some (home_id v key)

  each-child : (ks : List ℕ) → AllByRecursion (λ k. (stands v k ≡ true) × IsChild (home_id v k)) ks → AllByRecursion IsChild (map (home_id v) ks)
  each-child [] all = tt
  each-child (k ∷ ks) all = (all.0.1, each-child ks all.1)

  control-to : (m : ℕ) → IsIn m (map (home_id v) keys) → IsIn m (map (λ (g : Control). g.id) (filter is_below v.controls))
  control-to m on = go (control_at v.controls m) refl (each-in IsChild (map (home_id v) keys) (each-child keys inner.each) m on ∙ ap Some at)
    where
      go : (o : Option Control) → control_at v.controls m ≡ o → option_and_then (λ (g : Control). g.parent) o ≡ Some id → IsIn m (map (λ (g : Control). g.id) (filter is_below v.controls))
      go None is parent = absurd (cc)
      go (Some g) is parent =
          let f = find-key_at (λ (h : Control). h.id) v.controls m g is in
          subst (λ n. IsIn n (map (λ (h : Control). h.id) (filter is_below v.controls))) f.1
          (IsIn-map (λ (h : Control). h.id) g (filter is_below v.controls) (IsIn-filter is_below g v.controls f.0 (number_tested g.parent id parent)))

  control-back : (m : ℕ) → IsIn m (map (λ (g : Control). g.id) (filter is_below v.controls)) → IsIn m (map (home_id v) keys)
  control-back m on =
      let f = IsIn-from_map (λ (g : Control). g.id) m (filter is_below v.controls) on in
      let g = IsIn-from_filter is_below f.0 v.controls f.1 in
      let found : control_at v.controls m ≡ Some f.0 = ap (control_at v.controls) f.2 ∙ find-key (λ (h : Control). h.id) v.controls rising f.0 g.0 in
      let child : IsChild m = ap (option_and_then (λ (h : Control). h.parent)) found ∙ some_number f.0.parent id g.1 ∙ ap Some (sym at) in
      let once = inner.once m child in
      times-IsIn m (map (home_id v) keys) (omega (arith, once))

  pub controls-from : (from : ℕ) → AreFrom (map (λ (g : Control). g.id) (filter is_below v.controls)) from (filter (nat_le from) (map (home_id v) keys))
  controls-from from =
      from-same (map (λ (g : Control). g.id) (filter is_below v.controls)) (map (home_id v) keys) from
      (once-each IsChild (map (home_id v) keys) inner.once (each-child keys inner.each)) control-to control-back

pub all-stand : (v : Charges) (key : ℕ) (keys : List ℕ) → AllByRecursion (λ k. (stands v k ≡ true) × (parent_control v.controls (home_id v k) ≡ Some (home_id v key))) keys
    → AllByRecursion (λ k. stands v k ≡ true) keys
all-stand v key [] all = tt
all-stand v key (k ∷ keys) all = (all.0.0, all-stand v key keys all.1)

-- ---- in order

-- what was gathered, once it is sorted
in-order : (numbers : List ℕ) (from : ℕ) (xs ys : List ℕ) → AreFrom numbers from xs → IsPermutation xs ys → IsSorted nat_cmp ys → AreListedFrom numbers from ys
in-order numbers from xs ys g p sorted = record {
  rising = rising-once ys (IsNonDecreasingBy-from_sort (λ x. x) ys sorted) (λ m. let e = times-permuted m xs ys p in let one = g.once m in omega (arith, e, one));
  each = λ m. (
    (λ on. (g.each m).0 (IsIn-unpermuted m xs ys p on)),
    (λ h. IsIn-permuted m xs ys p ((g.each m).1 h)),
  );
}

pub told-some : (numbers : Option (List ℕ)) (from : ℕ) (xs ys front old new : List ℕ) (count : Option ℕ) → (all : List ℕ) × (numbers ≡ Some all) × AreFrom all from xs
    → IsPermutation xs ys → IsSorted nat_cmp ys → front ≡ take (length old + 1) ys → new ≡ with_front front old → count ≡ Some (length front) → TellsList numbers from old new count
told-some numbers from xs ys front old new count found p sorted cut put many = record {
  none = λ e. absurd (let z : None ≡ Some found.0 = sym e ∙ found.1 in cc);
  listed = λ all e. (
      let z : Some found.0 ≡ Some all = sym found.1 ∙ e in
      let same : found.0 ≡ all = cc in
      let least_ones = subst (λ ns. AreLeastFrom ns from (length old + 1) (take (length old + 1) ys)) same (least found.0 from (length old + 1) ys (in-order found.0 from xs ys found.2 p sorted)) in
      (front, subst (AreLeastFrom all from (length old + 1)) (sym cut) least_ones, many, put)
      );
}

pub told-none : (numbers : Option (List ℕ)) (from : ℕ) (old : List ℕ) → numbers ≡ None → TellsList numbers from old old None
told-none numbers from old none = record {
  none = λ e. (refl, refl);
  listed = λ all e. absurd (let z : None ≡ Some all = sym none ∙ e in cc);
}
