-- What the moves of tasks leave as it was, while all namespaces stand.
use Rattle.std.proofs.Common.{◌≡◌, ◌≢◌, inl, inr, ℕ, ◌+◌, ◌-◌, true, false, ◌==◌, ◌&&◌, List, [], ◌∷◌, length, filter, cond, Option, Some, None, IsSome, is_some, if◌then◌else◌, refl, sym, ap, ◌∙◌, option_map, option_and_then}
use Rattle.std.specs.Prelude.{slice_index_or}
use Rattle.std.specs.Option.{option_map_or}
use Rattle.std.specs.List.{AllByRecursion}
use Rattle.std.proofs.lemmas.Bool.{cases_eq}
use Rattle.pid_types.proofs.General.{held}
use Rattle.pid_types.specs.declared.plain.Row.{Row}
use Rattle.pid_types.specs.declared.plain.Ended.{Ended}
use Rattle.pid_types.specs.declared.plain.Life.TheVariants.{Zombie}
use Rattle.pid_types.specs.State.{root_name}
use Rattle.pid_numbers.specs.Numbering.{Numbering, Namespace, Identifier, namespace_at, id_at, identifier_at, has_fallen_at, taken_in, is_deserted, is_there}
use Rattle.task_tree.specs.declared.Task.{Task}
use Rattle.task_tree.specs.Tree.{task_at, parent_of}
use Rattle.groups_sessions.specs.Membership.{Membership, group_of, session_of}
use Rattle.pids_charge.specs.Charges.{Charges, Home, home_at, ChangesHome, home_id}
use Rattle.task_table.specs.Store.{Store, IsLess, bare}
use Rattle.task_table.specs.View.{name_at, row_of, row_with}
use Rattle.task_table.specs.Whole.{HasParents}
use Rattle.task_table.proofs.Rows.{row-ext}
use Rattle.task_table.proofs.Changed.{IsRetasked, task-set, row-same, others_same}
use Rattle.table_build.proofs.Steps.{task-of, same_falls}
use Rattle.task_table.specs.Lawful.{HasLaws, IsLawful}
use Rattle.task_table.proofs.LookUps.{named}
use Rattle.task_table.proofs.Sweeps.{name-less}
use Rattle.task_table.proofs.Regrouped as group
use Rattle.task_table.proofs.Regrouped.{IsRegrouped}
use Rattle.table_build.specs.Stages.{KeepsSpaces, KeepsPlaces, KeepsBearers, SetsRow, without_cursor}

-- no namespace goes where none has fallen
pub spaces-stay : (b c : Numbering) → HasLaws b → ((s : ℕ) → has_fallen_at b s ≡ false) → IsLess b c → KeepsSpaces b c
spaces-stay b c h standing less = record {
  order = less.order ∙ all b.order h.each;
  bound = less.bound;
  each = λ s. ap (option_map without_cursor) (same s);
}
  where
    left : (s : ℕ) (o : Option Namespace) → namespace_at b s ≡ o → option_and_then (λ t. if is_deserted (record b { names = c.names }) s t then None else Some t) o ≡ o
    left s None is = refl
    left s (Some t) is =
        ap (λ f. if f && (length (taken_in (record b { names = c.names }) s) == 0) then None else Some t)
        (sym (ap (λ o. option_map_or (λ (t : Namespace). t.fallen) o false) is) ∙ standing s)

    same : (s : ℕ) → namespace_at c s ≡ namespace_at b s
    same s = less.namespaces s ∙ left s (namespace_at b s) refl

    all : (ps : List (ℕ × ℕ)) → AllByRecursion (λ p. id_at b p.1 ≡ Some p.0) ps → filter (λ p. is_there c p.1) ps ≡ ps
    all [] h = refl
    all (p ∷ ps) h =
        ap (λ z. cond z (p ∷ filter (λ q. is_there c q.1) ps) (filter (λ q. is_there c q.1) ps)) (ap is_some (same p.1) ∙ there (namespace_at b p.1) h.0) ∙ ap (λ qs. p ∷ qs) (all ps h.1)
      where
        there : (o : Option Namespace) → option_map (λ (t : Namespace). t.id) o ≡ Some p.0 → is_some o ≡ true
        there None e = absurd (cc)
        there (Some t) e = refl

-- who bears a name bears it still where no task went
pub bearers-stay : (s t : Store) → IsLawful s → IsLawful t → t.tree ≡ s.tree → IsLess s.numbering t.numbering → KeepsBearers s t
bearers-stay s t l l' tree less = record {
  each = λ k some.
      let task = ap (λ x. task_at x k) tree in
      let v = held (task_at t.tree k) (ap is_some task ∙ some) in
      let u = named t l' k v.0 v.1 in
      (ap is_some task ∙ some, name-less s.numbering t.numbering l.numbering less k u.0 u.1);
}

-- a task went to another group or session
pub regrouped-row : (s t : Store) → IsLawful s → IsLawful t → HasParents s → (k : ℕ) (m : Membership) → IsRegrouped s t k m → (row : Row) → row_with s k ≡ Some row
    → SetsRow s t k (record row { group = name_at s.numbering m.group; session = name_at s.numbering m.session })
regrouped-row s t l l' kin k m r row e =
    let v = task-of s k row e in
    record {
      here = group.here s t l l' kin k v.0 v.1 m r ∙ ap (λ (x : Row). Some (record x { group = name_at s.numbering m.group; session = name_at s.numbering m.session })) v.2;
      others = λ j not. group.others s t l l' kin k v.0 v.1 m r j not;
    }

-- rows of which only parents and tasks are others
row-parts : (s t : Store) → t.numbering ≡ s.numbering → t.members ≡ s.members → t.charges ≡ s.charges → (k : ℕ) (v : Task)
    → row_of t k v ≡ record (row_of s k v) { parent = option_map (name_at s.numbering) (parent_of t.tree k) }
row-parts s t numbering members charges k v =
    row-ext (row_of t k v) (record (row_of s k v) { parent = option_map (name_at s.numbering) (parent_of t.tree k) }) (ap (λ b. name_at b k) numbering)
    (ap (λ b. option_map (name_at b) (parent_of t.tree k)) numbering)
    (ap (λ b. option_map_or (name_at b) (group_of t.members k) root_name) numbering ∙ ap (λ ms. option_map_or (name_at s.numbering) (group_of ms k) root_name) members)
    (ap (λ b. option_map_or (name_at b) (session_of t.members k) root_name) numbering ∙ ap (λ ms. option_map_or (name_at s.numbering) (session_of ms k) root_name) members)
    refl refl (ap (λ c. home_id c v.home) charges) refl refl

-- a task got a parent
pub adopted-row : (s t : Store) (key parent : ℕ) → t ≡ record s { tree = t.tree } → t.tree.tasks ≡ s.tree.tasks → parent_of t.tree key ≡ Some parent
    → ((k : ℕ) → k ≢ key → parent_of t.tree k ≡ parent_of s.tree k) → (row : Row) → row_with s key ≡ Some row → SetsRow s t key (record row { parent = Some (name_at s.numbering parent) })
adopted-row s t key parent rest tasks here others row e =
    let v = task-of s key row e in
    record {
      here = ap (option_map (row_of t key)) (task key ∙ v.1) ∙ ap Some (parts key v.0) ∙ ap (λ (o : Option ℕ). Some (record (row_of s key v.0) { parent = option_map (name_at s.numbering) o })) here
          ∙ ap (λ (x : Row). Some (record x { parent = Some (name_at s.numbering parent) })) v.2;
      others = λ k not. ap (option_map (row_of t k)) (task k) ∙ other k not (task_at s.tree k);
    }
  where
    task : (k : ℕ) → task_at t.tree k ≡ task_at s.tree k
    task k = ap (λ (ts : List (Option Task)). slice_index_or ts k None) tasks

    parts : (k : ℕ) (v : Task) → row_of t k v ≡ record (row_of s k v) { parent = option_map (name_at s.numbering) (parent_of t.tree k) }
    parts = row-parts s t (ap (λ x. x.numbering) rest) (ap (λ x. x.members) rest) (ap (λ x. x.charges) rest)

    other : (k : ℕ) → k ≢ key → (o : Option Task) → option_map (row_of t k) o ≡ option_map (row_of s k) o
    other k not None = refl
    other k not (Some v) = ap Some (parts k v ∙ ap (λ (o : Option ℕ). record (row_of s k v) { parent = option_map (name_at s.numbering) o }) (others k not))

-- a task ended
pub ended-row : (s t : Store) → IsLawful s → IsLawful t → (key : ℕ) (v : Task) (end : Ended) → task_at s.tree key ≡ Some v → IsRetasked s t key (record v { life = Zombie end })
    → (row : Row) → row_with s key ≡ Some row → SetsRow s t key (record row { life = Zombie end })
ended-row s t l l' key v end at r row e = record {
  here = ap (option_map (row_of t key)) (task-set s t l l' key v (record v { life = Zombie end }) at r) ∙ ap Some (row-same s t l l' key v (record v { life = Zombie end }) at r key (record v { life = Zombie end }))
      ∙ ap (λ (x : Row). Some (record x { life = Zombie end })) (let z : row_of s key v ≡ row = (let y = sym (ap (option_map (row_of s key)) at) ∙ e in cc) in z);
  others = λ k not. others_same s t l l' key v (record v { life = Zombie end }) at r k not;
}

-- each name is a task's still
pub borne-less : (s t : Store) → t.tree ≡ s.tree → IsLess s.numbering t.numbering → ((k : ℕ) (u : Identifier) → identifier_at s.numbering k ≡ Some u → IsSome (task_at s.tree k))
    → (k : ℕ) (u : Identifier) → identifier_at t.numbering k ≡ Some u → IsSome (task_at t.tree k)
borne-less s t tree less borne k u e =
    let old = before (identifier_at s.numbering k) (less.names k (bare u) (ap (option_map bare) e)) in
    ap (λ x. is_some (task_at x k)) tree ∙ borne k old.0 old.1
  where
    before : (o : Option Identifier) → option_map bare o ≡ Some (bare u) → (w : Identifier) × (o ≡ Some w)
    before None e = absurd (cc)
    before (Some w) e = (w, refl)

pub places-less : (s t : Store) → HasLaws s.numbering → ((p : ℕ) → has_fallen_at s.numbering p ≡ false) → IsLess s.numbering t.numbering → t.charges ≡ s.charges → KeepsPlaces s t
places-less s t h standing less charges = record { spaces = spaces-stay s.numbering t.numbering h standing less; controls = ap (λ c. c.controls) charges }

pub standing-less : (b c : Numbering) → HasLaws b → ((p : ℕ) → has_fallen_at b p ≡ false) → IsLess b c → (p : ℕ) → has_fallen_at c p ≡ false
standing-less b c h standing less p = same_falls b c (spaces-stay b c h standing less) p ∙ standing p

-- a task that ends leaves the ids of homes as they were
pub homes-ended : (v w : Charges) (home : ℕ) → ChangesHome v w home (option_map (λ (h : Home). record h { live = h.live - 1; zombies = h.zombies + 1 }) (home_at v home))
    → (c : ℕ) → home_id w c ≡ home_id v c
homes-ended v w home changes c = elim (cases_eq c home) [
  | inl same ↦ ap (home_id w) same ∙ ap (λ o. option_map_or (λ (h : Home). h.id) o 0) changes.here ∙ one (home_at v home) ∙ sym (ap (home_id v) same)
  | inr differs ↦ ap (λ o. option_map_or (λ (h : Home). h.id) o 0) (changes.others c differs)
]
  where
    one : (o : Option Home) → option_map_or (λ (h : Home). h.id) (option_map (λ (h : Home). record h { live = h.live - 1; zombies = h.zombies + 1 }) o) 0 ≡ option_map_or (λ (h : Home). h.id) o 0
    one None = refl
    one (Some h) = refl
