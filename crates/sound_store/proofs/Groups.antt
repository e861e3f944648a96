-- Control groups: what the checks ask of their ids, and the tree that they are.
use Rattle.std.proofs.Common.{◌≡◌, ◌≢◌, inl, inr, ℕ, zero, suc, ◌<◌, ◌↔◌, List, [], ◌∷◌, Option, Some, None, refl, sym, ap, subst, ◌∙◌, arith, option_and_then}
use Rattle.std.specs.Option.{option_map_or}
use Rattle.pid_types.specs.declared.plain.Control.{Control}
use Rattle.pid_types.specs.Chains.{climb}
use Rattle.pid_types.specs.Controls.{control_at, parent_control}
use Rattle.pid_types.specs.Membership.{IsIn}
use Rattle.pid_types.specs.Sound.{IsRising}
use Rattle.model_laws.proofs.Chains.{climb_cases, IsIn-climb_first, IsIn-climb_parent}
use Rattle.model_laws.proofs.Lists.{IsIn-map, IsIn-from_map}
use Rattle.model_laws.proofs.Rising.{find-key}
use Rattle.pids_charge.specs.Charges.{Charges, control_limit}
use Rattle.task_table.proofs.Results.{if_some, from_some}
use Rattle.sound_store.specs.Groups.{HasGoodControls, IsGoodControl, ids_of}

-- ---- from ids to control groups and back

module _ (v : Charges) (rising : IsRising (ids_of v)) where
  found : (g : Control) → IsIn g v.controls → control_at v.controls g.id ≡ Some g
  found g i = find-key (λ (x : Control). x.id) v.controls rising g i

  parent-of : (g : Control) → IsIn g v.controls → parent_control v.controls g.id ≡ g.parent
  parent-of g i = ap (option_and_then (λ (x : Control). x.parent)) (found g i)

  limit-of : (g : Control) → IsIn g v.controls → control_limit v g.id ≡ g.limit
  limit-of g i = ap (option_and_then (λ (x : Control). x.limit)) (found g i)

  -- good ids with a root are a tree
  pub good-from : ((g : Control) × (control_at v.controls 0 ≡ Some g) × (g.parent ≡ None)) → ((id : ℕ) → IsIn id (ids_of v) → IsGoodControl v id) → HasGoodControls v
  good-from root each = record {
    tree = record {
      rising = rising;
      older = λ g i. if_some g.parent g.id (λ p e. (good g i).younger p (parent-of g i ∙ e));
      root = root;
      chains = λ g i. (good g i).path;
    };
    limits = λ g i. record {
      root = λ e. sym (limit-of g i) ∙ (good g i).root e;
      bounded = λ limit e. (good g i).bounded limit (limit-of g i ∙ e);
    };
  }
    where
      good : (g : Control) → IsIn g v.controls → IsGoodControl v g.id
      good g i = each g.id (IsIn-map (λ (x : Control). x.id) g v.controls i)

-- a tree of control groups has good ids
pub good-each : (v : Charges) → HasGoodControls v → (id : ℕ) → IsIn id (ids_of v) → IsGoodControl v id
good-each v h id i =
    let r = IsIn-from_map (λ (x : Control). x.id) id v.controls i in
    subst (IsGoodControl v) (sym r.2) (record {
      younger = λ p e. from_some r.0.parent r.0.id (h.tree.older r.0 r.1) p (sym (parent-of v h.tree.rising r.0 r.1) ∙ e);
      path = h.tree.chains r.0 r.1;
      root = λ e. limit-of v h.tree.rising r.0 r.1 ∙ (h.limits r.0 r.1).root e;
      bounded = λ limit e. (h.limits r.0 r.1).bounded limit (sym (limit-of v h.tree.rising r.0 r.1) ∙ e);
    })

-- ---- the order of ids

-- each number of the list is above the one before it
abbrev pub IsAbove : Option ℕ → List ℕ → Type 0
IsAbove last ns = (b : ℕ) → last ≡ Some b → (m : ℕ) → IsIn m ns → b < m

-- a list rises where the rest of it does, above what was seen last
abbrev pub GoesOn : List ℕ → Option ℕ → List ℕ → Type 0
GoesOn all last rest = (IsAbove last rest × IsRising rest) ↔ IsRising all

pub goes-begin : (all : List ℕ) → GoesOn all None all
goes-begin all = ((λ h. h.1), (λ h. ((λ b e m i. absurd (let z : None ≡ Some b = e in cc)), h)))

pub goes-on : (all rest : List ℕ) (last : Option ℕ) (n : ℕ) → ((b : ℕ) → last ≡ Some b → b < n) → GoesOn all last (n ∷ rest) → GoesOn all (Some n) rest
goes-on all rest last n above h = (
  (λ g. h.0 ((λ b e m i. over b e m g.0 i), ((λ m i. g.0 n refl m i), g.1))),
  (λ r. let g = h.1 r in ((λ b e m i. (let z = ap (λ o. option_map_or (λ x. x) o b) e in let y = g.1.0 m i in omega (arith, z, y))), g.1.1)),
)
  where
    over : (b : ℕ) → last ≡ Some b → (m : ℕ) → IsAbove (Some n) rest → IsIn m (n ∷ rest) → b < m
    over b e m g (inl same) = let z = above b e in omega (arith, z, same)
    over b e m g (inr i) = let z = above b e in let y = g n refl m i in omega (arith, z, y)

pub goes-not : (all rest : List ℕ) (last : Option ℕ) (n : ℕ) → (((b : ℕ) → last ≡ Some b → b < n) → ⊥) → GoesOn all last (n ∷ rest) → IsRising all → ⊥
goes-not all rest last n never h r = never (λ b e. (h.1 r).0 b e n (inl refl))

pub goes-end : (all : List ℕ) (last : Option ℕ) → GoesOn all last [] → IsRising all
goes-end all last h = h.0 ((λ b e m i. absurd i), tt)

-- ---- the way up to the root

-- the root is on a way where it is the first or on the rest of it
pub way-here : (f : ℕ → Option ℕ) (k n : ℕ) → n ≡ 0 → IsIn 0 (climb f (suc k) n)
way-here f k n e = subst (λ m. IsIn 0 (climb f (suc k) m)) (sym e) (IsIn-climb_first f k 0)

pub way-on : (f : ℕ → Option ℕ) (k n p : ℕ) → n ≢ 0 → f n ≡ Some p → IsIn 0 (climb f (suc k) n) ↔ IsIn 0 (climb f k p)
way-on f k n p differs e = (to, λ i. IsIn-climb_parent f k n p 0 e i)
  where
    to : IsIn 0 (climb f (suc k) n) → IsIn 0 (climb f k p)
    to i = elim (climb_cases f k n 0 i) [
      | inl same ↦ absurd (differs (sym same))
      | inr r ↦ subst (λ q. IsIn 0 (climb f k q)) (let z : Some r.0 ≡ Some p = sym r.1 ∙ e in ap (λ o. option_map_or (λ x. x) o p) z) r.2
    ]

pub way-ends : (f : ℕ → Option ℕ) (k n : ℕ) → n ≢ 0 → f n ≡ None → IsIn 0 (climb f k n) → ⊥
unfolding climb
way-ends f zero n differs e i = i
way-ends f (suc k) n differs e i = elim (climb_cases f k n 0 i) [
  | inl same ↦ differs (sym same)
  | inr r ↦ (let z : None ≡ Some r.0 = sym e ∙ r.1 in let no : ⊥ = cc in no)
]
