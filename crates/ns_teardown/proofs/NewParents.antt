-- Each live task has an heir, who is another task in its own namespace.
use Rattle.std.proofs.Common.{◌≡◌, inl, inr, List, ◌≢◌, ℕ, ◌+◌, ◌<◌, ◌==◌, ◌||◌, Bool, true, false, [], length, Option, Some, None, option_map, is_some, IsSome, if◌then◌else◌, refl, sym, ap, subst, ◌∙◌, arith}
use Rattle.std.specs.Prelude.{slice_set, slice_index_or, drop, MatchOption}
use Rattle.std.specs.Option.{option_map_or}
use Rattle.std.proofs.lemmas.List.{get_or-set_same, get_or-set_other}
use Rattle.task_table.proofs.Changes.{in_range}
use Rattle.task_table.specs.Whole.{HasParents}
use Rattle.std.proofs.lemmas.Bool.{cases_eq, eqb-true}
use Rattle.pid_types.proofs.General.{both}
use Rattle.pid_types.specs.Chains.{climb, contains}
use Rattle.pid_numbers.specs.Numbering.{Namespace, Identifier, identifier_at, namespace_at, path_at, number_of}
use Rattle.task_tree.specs.declared.Task.{Task}
use Rattle.task_tree.specs.Tree.{task_at, parent_of, lives, handed}
use Rattle.task_table.specs.Store.{Store}
use Rattle.task_table.specs.Lawful.{IsLawful}
use Rattle.ns_teardown.specs.GoodTasks.{HasGoodTasks, HasInit}
use Rattle.ns_teardown.specs.Heirs.{IsHeir, is_subreaper_of, ancestor_keys, nearest_subreaper_key}
use Rattle.pid_types.proofs.Ancestors.{climb-step}
use Rattle.ns_teardown.proofs.Ancestors as above
use Rattle.ns_teardown.proofs.Visible as visible

-- a subreaper is a task of the namespace
subreaper : (s : Store) (space k : ℕ) → is_subreaper_of s space k ≡ true → IsSome (task_at s.tree k) × (v : Identifier) × (identifier_at s.numbering k ≡ Some v) × (v.space ≡ space)
subreaper s space k e = go (task_at s.tree k) (identifier_at s.numbering k) (both _ _ e)
  where
    go : (t : Option Task) (u : Option Identifier) → (option_map_or (λ t. t.subreaper) t false ≡ true) × (option_map_or (λ u. u.space == space) u false ≡ true) → IsSome t × (v : Identifier) × (u ≡ Some v) × (v.space ≡ space)
    go None u e = absurd (let z = e.0 in cc)
    go (Some t) None e = absurd (let z = e.1 in cc)
    go (Some t) (Some v) e = (refl, v, refl, eqb-true v.space space e.1)

-- an ancestor is not the task itself, where the climb ends
another : (f : ℕ → Option ℕ) (limit most key a heir : ℕ) → contains (climb f limit key) a ≡ true → f a ≡ None → contains (drop 1 (climb f (most + 1) key)) heir ≡ true → key ≢ heir
another f limit most key a heir ends top is same = go (f key) refl (sym (ap (λ l. contains (drop 1 l) heir) (climb-step f (most + 1) most key refl)) ∙ is)
  where
    go : (o : Option ℕ) → f key ≡ o → contains (option_map_or (climb f most) o []) heir ≡ true → ⊥
    go None e z = absurd (cc)
    go (Some up) e z = above.no_return f key limit a ends top up most e (ap (contains (climb f most up)) same ∙ z)

-- who is no child keeps the parent
pub handed-other : (key heir : ℕ) (o : Option ℕ) → o ≢ Some key → o ≡ option_map (handed key heir) o
handed-other key heir None differs = refl
handed-other key heir (Some p) differs =
    let off : (p == key) ≡ false = (let m : p ≢ key = λ e. differs (ap Some e) in grind (arith, m)) in
    sym (ap (λ b. Some (if b then heir else p)) off)

module _ (s : Store) (law : IsLawful s) (good : HasGoodTasks s) where
  -- the namespace of a live task has an init
  pub init_of : (key : ℕ) (u : Identifier) → identifier_at s.numbering key ≡ Some u → option_map_or lives (task_at s.tree key) false ≡ true → HasInit s u.space
  init_of key u is live = go (namespace_at s.numbering u.space) refl
    where
      f : (0 < length u.numbers) × (length u.numbers ≡ length (path_at s.numbering u.space))
      f = law.numbering.full key u is

      stands : (t : Namespace) → namespace_at s.numbering u.space ≡ Some t → (b : Bool) → t.fallen ≡ b → HasInit s u.space
      stands t at false fell = good.inits u.space t at fell
      stands t at true fell =
          let x = visible.live_of (task_at s.tree key) live in
          let n = visible.visible-own s.numbering law.numbering key u is in
          let none = good.emptied u.space key x.0 (ap (λ o. option_map_or (λ t. t.fallen) o false) at ∙ fell) x.1 x.2 in
          absurd (let z = sym n ∙ ap is_some none in cc)

      go : (o : Option Namespace) → namespace_at s.numbering u.space ≡ o → HasInit s u.space
      go None at = absurd (let e = ap (λ o. length (option_map_or (λ t. t.path) o [])) at in let a = f.0 in let b = f.1 in omega (arith, e, a, b))
      go (Some t) at = stands t at t.fallen refl

  -- it has an heir
  pub heir_of : (key : ℕ) → option_map_or lives (task_at s.tree key) false ≡ true → (heir : ℕ) × IsHeir s key heir
  heir_of key live =
      let x = visible.live_of (task_at s.tree key) live in
      let u = visible.named s law.agree key (ap is_some x.1) in
      let init = init_of key u.0 u.1 live in
      go u.0 u.1 init (nearest_subreaper_key s u.0.space key) refl
    where
      go : (u : Identifier) → identifier_at s.numbering key ≡ Some u → HasInit s u.space → (o : Option ℕ) → nearest_subreaper_key s u.space key ≡ o → (heir : ℕ) × IsHeir s key heir
      go u is init None e =
          (init.key, record { identifier = u; named = is; found = subst (λ o. MatchOption o (number_of s.numbering init.key u.space ≡ Some 1) (λ a. init.key ≡ a)) (sym e) init.first })
      go u is init (Some a) e =
          (a, record { identifier = u; named = is; found = subst (λ o. MatchOption o (number_of s.numbering a u.space ≡ Some 1) (λ b. a ≡ b)) (sym e) refl })

  -- and that is another task in its own namespace
  pub heir-beside : (key heir : ℕ) → option_map_or lives (task_at s.tree key) false ≡ true
      → ((u : Identifier) → identifier_at s.numbering key ≡ Some u → number_of s.numbering key u.space ≢ Some 1) → IsHeir s key heir
      → (key ≢ heir) × IsSome (task_at s.tree heir) × (u : Identifier) × (v : Identifier) × (identifier_at s.numbering key ≡ Some u) × (identifier_at s.numbering heir ≡ Some v) × (u.space ≡ v.space)
  heir-beside key heir live inner h = go (nearest_subreaper_key s h.identifier.space key) refl h.found
    where
      space : ℕ
      space = h.identifier.space

      go : (o : Option ℕ) → nearest_subreaper_key s space key ≡ o → MatchOption o (number_of s.numbering heir space ≡ Some 1) (λ a. heir ≡ a)
          → (key ≢ heir) × IsSome (task_at s.tree heir) × (u : Identifier) × (v : Identifier) × (identifier_at s.numbering key ≡ Some u) × (identifier_at s.numbering heir ≡ Some v) × (u.space ≡ v.space)
      go None e first =
          let init = init_of key h.identifier h.named live in
          let same : init.key ≡ heir = law.numbering.distinct init.key heir space 1 init.first first in (
            (λ z. inner h.identifier h.named (ap (λ k. number_of s.numbering k space) z ∙ first)),
            sym (ap (λ k. is_some (task_at s.tree k)) same) ∙ init.task,
            h.identifier,
            init.identifier,
            h.named,
            sym (ap (identifier_at s.numbering) same) ∙ init.named,
            sym init.own,
          )
      go (Some a) e is =
          let found = above.found-is (is_subreaper_of s space) (ancestor_keys s key) a e in
          let r = subreaper s space heir (ap (is_subreaper_of s space) is ∙ found.0) in
          let x = visible.live_of (task_at s.tree key) live in
          let end = good.chain key (ap is_some x.1) in (
            another (parent_of s.tree) (length s.tree.tasks) (length s.tree.tasks) key end.0 heir end.1 end.2 (ap (contains (ancestor_keys s key)) is ∙ found.1),
            r.0,
            h.identifier,
            r.1,
            h.named,
            r.2,
            sym r.3,
          )

  -- no live task is its own parent
  pub no_own_parent : (key : ℕ) → option_map_or lives (task_at s.tree key) false ≡ true → parent_of s.tree key ≢ Some key
  unfolding climb
  no_own_parent key live e =
      let x = visible.live_of (task_at s.tree key) live in
      let end = good.chain key (ap is_some x.1) in
      above.no_return (parent_of s.tree) key (length s.tree.tasks) end.0 end.1 end.2 key 1 e (itself key)
    where
      itself : (k : ℕ) → contains (climb (parent_of s.tree) 1 k) k ≡ true
      itself k = go (k == k) (let e : (k == k) ≡ true = grind arith in e)
        where
          go : (b : Bool) → b ≡ true → (b || contains (option_map_or (climb (parent_of s.tree) 0) (parent_of s.tree k) []) k) ≡ true
          go true e = refl
          go false e = absurd (cc)

  -- who is no child of its own keeps its parent, in whose namespace it is visible
  pub seen_by_parent : (key heir p : ℕ) → option_map_or lives (task_at s.tree key) false ≡ true → option_map (handed key heir) (parent_of s.tree key) ≡ Some p
      → (v : Identifier) × (identifier_at s.numbering p ≡ Some v) × IsSome (number_of s.numbering key v.space)
  seen_by_parent key heir p live e =
      let x = visible.live_of (task_at s.tree key) live in
      let u = visible.named s law.agree key (ap is_some x.1) in
      let child : parent_of s.tree key ≡ Some p = handed-other key heir (parent_of s.tree key) (no_own_parent key live) ∙ e in
      let v = visible.named s law.agree p (good.parents key p child) in
      (v.0, v.1, visible.visible s.numbering law.numbering key v.0.space u.0 u.1 (good.around key p u.0 v.0 child u.1 v.1))

-- a task that changes in its place is still one, and so is every other
pub still-tasks : (xs : List (Option Task)) (key : ℕ) (y : Task) (k : ℕ) → IsSome (slice_index_or xs k None) → IsSome (slice_index_or (slice_set xs key (Some y)) k None)
still-tasks xs key y k some = elim (cases_eq k key) [
  | inl same ↦ ap is_some (ap (λ j. slice_index_or (slice_set xs key (Some y)) j None) same ∙ get_or-set_same xs key (Some y) None (subst (λ j. j < length xs) same (in_range xs k some)))
  | inr differs ↦ ap is_some (get_or-set_other xs key k (Some y) None differs) ∙ some
]

-- the parents of handed children are tasks
pub handed-parents : (s t : Store) → HasParents s → (key heir : ℕ) → IsSome (task_at s.tree heir) → ((k : ℕ) → parent_of t.tree k ≡ option_map (handed key heir) (parent_of s.tree k))
    → ((k : ℕ) → IsSome (task_at s.tree k) → IsSome (task_at t.tree k)) → HasParents t
handed-parents s t parents key heir there handing kept k p is = kept p (go (parent_of s.tree k) refl (sym (handing k) ∙ is))
  where
    at : (q : ℕ) → IsSome (task_at s.tree q) → (b : Bool) → IsSome (task_at s.tree (if b then heir else q))
    at q some true = there
    at q some false = some

    go : (o : Option ℕ) → parent_of s.tree k ≡ o → option_map (handed key heir) o ≡ Some p → IsSome (task_at s.tree p)
    go None e z = absurd (cc)
    go (Some q) e z = subst (λ r. IsSome (task_at s.tree r)) (ap (λ o. option_map_or (λ r. r) o p) z) (at q (parents k q e) (q == key))

-- where a search found nothing
pub none_found : {A : Type 0} (B : ℕ → Type 0) (o : Option ℕ) → is_some o ≡ false → MatchOption o A B → A
none_found B None none a = a
none_found B (Some x) none b = absurd (cc)
