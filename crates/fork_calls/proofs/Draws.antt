-- What namespaces give next, in the model and in a store.
use Rattle.std.proofs.Common.{◌≡◌, ◌≢◌, ◌⊎◌, inl, inr, ℕ, zero, suc, ◌<◌, ◌==◌, ◌||◌, List, [], ◌∷◌, length, map, find, get_or, Option, Some, None, is_none, if◌then◌else◌, refl, sym, ap, ◌∙◌, arith, option_map, unwrap_or}
use Rattle.std.proofs.lemmas.Bool.{cases_eq, eq-eqb}
use Rattle.pid_types.proofs.General.{apart}
use Rattle.pid_types.specs.declared.plain.Name.{Name}
use Rattle.pid_types.specs.Chains.{contains}
use Rattle.pid_types.specs.Membership.{IsIn}
use Rattle.pid_types.specs.State.{State, root_name}
use Rattle.pid_types.specs.Names.{beside, in_use, number}
use Rattle.pid_types.specs.Draw.{draw, cursor_of}
use Rattle.pid_types.specs.Fork.{drawn}
use Rattle.model_laws.proofs.Lists.{find-map, find-same}
use Rattle.pid_numbers.specs.Numbering.{Namespace, Identifier, namespace_at, id_at, identifier_at, number_of, path_at, draw_in}
use Rattle.pid_numbers.proofs.Model.{draw-is}
use Rattle.task_table.specs.Store.{Store}
use Rattle.task_table.specs.View.{name_at}
use Rattle.task_table.specs.Lawful.{IsLawful}
use Rattle.task_table.proofs.Keys.{id_for, path-there}
use Rattle.task_table.proofs.InUse.{AreNamed}

place_of : (xs : List Name) (a : Name) → IsIn a xs → (x : ℕ) × (x < length xs) × (get_or xs x root_name ≡ a)
place_of [] a i = absurd i
place_of (y ∷ ys) a (inl e) = (zero, omega arith, sym e)
place_of (y ∷ ys) a (inr i) = let r = place_of ys a i in (suc r.0, (let lt = r.1 in omega (arith, lt)), r.2)

at_place : (xs : List Name) (x : ℕ) → x < length xs → IsIn (get_or xs x root_name) xs
at_place [] x lt = absurd (omega (arith, lt))
at_place (y ∷ ys) zero lt = inl refl
at_place (y ∷ ys) (suc x) lt = inr (at_place ys x (omega (arith, lt)))

-- a state whose names in use are those of a store's identifiers, in which these have their numbers and its namespaces their cursors
pub record IsPlanned (s : Store) (planned : State) : Type 0 where
  pub named : AreNamed s planned
  pub bound : planned.pid_max ≡ s.numbering.pid_max
  pub numbers : (k sp i : ℕ) (u : Identifier) → identifier_at s.numbering k ≡ Some u → id_at s.numbering sp ≡ Some i → number planned.spaces (name_at s.numbering k) i ≡ number_of s.numbering k sp
  pub cursors : (sp i : ℕ) (t : Namespace) → namespace_at s.numbering sp ≡ Some t → id_at s.numbering sp ≡ Some i → cursor_of planned i ≡ t.cursor

module _ (s : Store) (l : IsLawful s) (planned : State) (p : IsPlanned s planned) where
  there : (sp i : ℕ) → id_at s.numbering sp ≡ Some i → (t : Namespace) × (namespace_at s.numbering sp ≡ Some t)
  there sp i e = go (namespace_at s.numbering sp) refl e
    where
      go : (o : Option Namespace) → namespace_at s.numbering sp ≡ o → option_map (λ t. t.id) o ≡ Some i → (t : Namespace) × (namespace_at s.numbering sp ≡ Some t)
      go None is e = absurd (cc)
      go (Some t) is e = (t, is)

  -- a namespace gives what the model draws
  pub draw-key : (sp i : ℕ) → id_at s.numbering sp ≡ Some i → draw planned i ≡ draw_in s.numbering sp
  draw-key sp i e =
      let t = there sp i e in
      draw-is planned s.numbering i sp t.0 t.1 p.bound (p.cursors sp i t.0 t.1 e)
      (λ k u at.
      let x = place_of (in_use planned) (name_at s.numbering k) (p.named.to k u at) in
      (x.0, x.1, ap (λ name. number planned.spaces name i) x.2 ∙ p.numbers k sp i u at e))
      (λ x lt.
      let k = p.named.from (get_or (in_use planned) x root_name) (at_place (in_use planned) x lt) in
      (k.0, ap (λ name. number planned.spaces name i) k.3 ∙ p.numbers k.0 sp i k.1 k.2 e))

  -- and along a path
  pub find-draws : (j sp : ℕ) → find (λ i. is_none (draw planned i)) (map (id_for s.numbering l.numbering j) (path_at s.numbering sp))
      ≡ option_map (id_for s.numbering l.numbering j) (find (λ q. is_none (draw_in s.numbering q)) (path_at s.numbering sp))
  find-draws j sp =
      find-map (id_for s.numbering l.numbering j) (λ i. is_none (draw planned i)) (path_at s.numbering sp)
      ∙ ap (option_map (id_for s.numbering l.numbering j)) (find-same (λ q. is_none (draw planned (id_for s.numbering l.numbering j q))) (λ q. is_none (draw_in s.numbering q)) (path_at s.numbering sp)
      (λ q i. ap is_none (draw-key q (id_for s.numbering l.numbering j q) (path-there s.numbering l.numbering sp j q i))))

  pub map-draws : (j sp : ℕ) → map (drawn planned) (map (id_for s.numbering l.numbering j) (path_at s.numbering sp)) ≡ map (λ q. unwrap_or (draw_in s.numbering q) 0) (path_at s.numbering sp)
  unfolding drawn
  map-draws j sp = from (path_at s.numbering sp) (λ q i. path-there s.numbering l.numbering sp j q i)
    where
      from : (path : List ℕ) → ((q : ℕ) → IsIn q path → id_at s.numbering q ≡ Some (id_for s.numbering l.numbering j q))
          → map (λ i. unwrap_or (draw planned i) 0) (map (id_for s.numbering l.numbering j) path) ≡ map (λ q. unwrap_or (draw_in s.numbering q) 0) path
      from [] h = refl
      from (q ∷ qs) h = (λ x. unwrap_or (draw-key q (id_for s.numbering l.numbering j q) (h q (inl refl)) x) 0 ∷ from qs (λ r i. h r (inr i)) x)

-- beside a key of a path stands what the path's keys are mapped to
pub beside-map : (f : ℕ → ℕ) (s : ℕ) (path : List ℕ) → beside s path (map f path) ≡ (if contains path s then Some (f s) else None)
beside-map f s [] = refl
beside-map f s (t ∷ ts) = go (cases_eq t s) (beside-map f s ts)
  where
    go : (t ≡ s) ⊎ (t ≢ s) → beside s ts (map f ts) ≡ (if contains ts s then Some (f s) else None)
        → (if t == s then Some (f t) else beside s ts (map f ts)) ≡ (if (t == s) || contains ts s then Some (f s) else None)
    go (inl same) again = rw (eq-eqb t s same) (ap (λ x. Some (f x)) same)
    go (inr differs) again = rw (apart t s differs) again
