-- What each step of the making leaves as it was.
use Rattle.std.proofs.Common.{◌≡◌, ◌≢◌, inl, inr, ℕ, false, List, [], ◌∷◌, Option, Some, None, is_some, refl, sym, ap, ◌∙◌, option_map, unwrap_or, subst}
use Rattle.std.proofs.lemmas.Bool.{cases_eq}
use Rattle.std.specs.Prelude.{slice_index_or, position, ◌==◌, option_and_then}
use Rattle.std.specs.Option.{option_map_or, option_eq}
use Rattle.pid_types.proofs.General.{held}
use Rattle.pid_types.specs.declared.plain.Name.{Name}
use Rattle.pid_types.specs.declared.plain.Row.{Row}
use Rattle.pid_types.specs.State.{root_name}
use Rattle.pid_numbers.specs.Numbering.{Numbering, Namespace, Identifier, namespace_at, id_at, identifier_at, path_at, has_fallen_at, cursor_put, moved, number_in, new_namespace}
use Rattle.task_tree.specs.declared.Task.{Task}
use Rattle.task_tree.specs.Tree.{task_at, parent_of}
use Rattle.groups_sessions.specs.Membership.{Membership, membership_at, group_of, session_of}
use Rattle.pids_charge.specs.Charges.{home_id}
use Rattle.task_table.specs.Store.{Store, bare, HasNoThreads}
use Rattle.task_table.specs.View.{name_of, name_at, row_of, row_with, state_of}
use Rattle.task_table.specs.Collect.{collect}
use Rattle.task_table.specs.Lawful.{IsLawful}
use Rattle.task_table.proofs.LookUps.{named}
use Rattle.task_table.proofs.Rows.{row-ext}
use Rattle.task_table.proofs.Newborn.{Comes, KeepsNamespaces, born, named_in, name-kept, other_rows, home_kept, some_of}
use Rattle.table_build.specs.Kept.{KeepsUngrouped}
use Rattle.table_build.specs.Settling.{KeepsGrouping}
use Rattle.table_build.specs.Grouping.{IsGrouping}
use Rattle.table_build.specs.Stages.{without_cursor, KeepsSpaces, KeepsPlaces, KeepsBearers, MovesCursors, AddsRow, lone_row}
use Rattle.table_build.specs.declared.names.RecentName.{RecentName}
use Rattle.table_build.specs.Recent.{Bears, IsRecent}
use Rattle.table_build.specs.Ungrouped.{IsUngrouped}

pub same_ids : (b c : Numbering) → KeepsSpaces b c → (s : ℕ) → id_at c s ≡ id_at b s
same_ids b c k s = of (namespace_at c s) ∙ ap (option_map (λ (t : Namespace). t.id)) (k.each s) ∙ sym (of (namespace_at b s))
  where
    of : (o : Option Namespace) → option_map (λ (t : Namespace). t.id) o ≡ option_map (λ (t : Namespace). t.id) (option_map without_cursor o)
    of None = refl
    of (Some t) = refl

pub same_paths : (b c : Numbering) → KeepsSpaces b c → (s : ℕ) → path_at c s ≡ path_at b s
same_paths b c k s = of (namespace_at c s) ∙ ap (λ o. option_map_or (λ (t : Namespace). t.path) o []) (k.each s) ∙ sym (of (namespace_at b s))
  where
    of : (o : Option Namespace) → option_map_or (λ (t : Namespace). t.path) o [] ≡ option_map_or (λ (t : Namespace). t.path) (option_map without_cursor o) []
    of None = refl
    of (Some t) = refl

pub spaces-both : (a b c : Numbering) → KeepsSpaces a b → KeepsSpaces b c → KeepsSpaces a c
spaces-both a b c k l = record { order = l.order ∙ k.order; bound = l.bound ∙ k.bound; each = λ s. l.each s ∙ k.each s }

pub places-both : (a b c : Store) → KeepsPlaces a b → KeepsPlaces b c → KeepsPlaces a c
places-both a b c k l = record { spaces = spaces-both a.numbering b.numbering c.numbering k.spaces l.spaces; controls = l.controls ∙ k.controls }

-- names and rows are the same where the namespaces have their ids
module _ (s t : Store) (ids : (p : ℕ) → id_at t.numbering p ≡ id_at s.numbering p) (same : t.numbering.names ≡ s.numbering.names) where
  pub name-same : (k : ℕ) → name_at t.numbering k ≡ name_at s.numbering k
  name-same k =
      ap (λ (ns : List (Option Identifier)). option_map_or (name_of t.numbering) (slice_index_or ns k None) root_name) same ∙ go (identifier_at s.numbering k)
    where
      go : (o : Option Identifier) → option_map_or (name_of t.numbering) o root_name ≡ option_map_or (name_of s.numbering) o root_name
      go None = refl
      go (Some u) = ap (λ o. named_in (unwrap_or o 0) u.numbers) (ids u.space)

  pub row-same : t.tree ≡ s.tree → t.members ≡ s.members → t.charges ≡ s.charges → (k : ℕ) → row_with t k ≡ row_with s k
  row-same tree members charges k =
      ap (λ (x : Option Task). option_map (row_of t k) x) (ap (λ x. task_at x k) tree) ∙ go (task_at s.tree k)
    where
      names : (o : Option ℕ) → option_map (name_at t.numbering) o ≡ option_map (name_at s.numbering) o
      names None = refl
      names (Some i) = ap Some (name-same i)

      or_root : (o : Option ℕ) → option_map_or (name_at t.numbering) o root_name ≡ option_map_or (name_at s.numbering) o root_name
      or_root None = refl
      or_root (Some i) = name-same i

      go : (o : Option Task) → option_map (row_of t k) o ≡ option_map (row_of s k) o
      go None = refl
      go (Some v) = ap Some (row-ext (row_of t k v) (row_of s k v) (name-same k)
          (names (parent_of t.tree k) ∙ ap (λ x. option_map (name_at s.numbering) (parent_of x k)) tree)
          (or_root (group_of t.members k) ∙ ap (λ ms. option_map_or (name_at s.numbering) (group_of ms k) root_name) members)
          (or_root (session_of t.members k) ∙ ap (λ ms. option_map_or (name_at s.numbering) (session_of ms k) root_name) members)
          refl refl (ap (λ c. home_id c v.home) charges) refl refl)

-- so they are where only cursors moved
pub row-moved : (s t : Store) → MovesCursors s t → (k : ℕ) → row_with t k ≡ row_with s k
row-moved s t m k = row-same s t (same_ids s.numbering t.numbering m.spaces) m.names m.tree m.members m.charges k

-- the row of a task that comes by itself
pub lone : {s t : Store} {key : ℕ} {task : Task} {space : ℕ} {numbers : List ℕ} → Comes s t key None task space numbers → (id : ℕ) → id_at t.numbering space ≡ Some id
    → row_with t key ≡ Some (lone_row s (named_in id numbers) task)
lone {s} {t} {key} {task} {space} {numbers} c id is =
    let v = born c in
    let name : name_at t.numbering key ≡ named_in id numbers =
    ap (λ o. option_map_or (name_of t.numbering) o root_name) v.1 ∙ ap (λ q. named_in (unwrap_or (id_at t.numbering q) 0) v.0.numbers) v.2
    ∙ ap (λ o. named_in (unwrap_or o 0) v.0.numbers) is ∙ ap (named_in id) v.3 in
    ap (option_map (row_of t key)) c.begun.begun
    ∙ ap Some (row-ext (row_of t key task) (lone_row s (named_in id numbers) task) name
    (ap (option_map (name_at t.numbering)) c.begun.parent)
    (ap (λ m. option_map_or (name_at t.numbering) (option_map (λ (i : Membership). i.group) m) root_name) c.begun.member ∙ name)
    (ap (λ m. option_map_or (name_at t.numbering) (option_map (λ (i : Membership). i.session) m) root_name) c.begun.member ∙ name)
    refl refl (home_kept c task.home) refl refl)

pub added : {s t : Store} {key : ℕ} {task : Task} {space : ℕ} {numbers : List ℕ} → Comes s t key None task space numbers → (id : ℕ) → id_at t.numbering space ≡ Some id
    → AddsRow s t key (lone_row s (named_in id numbers) task)
added {s} {t} {key} c id is = record {
  fresh = ap (option_map (row_of s key)) c.begun.fresh.0;
  sets = record { here = lone c id is; others = λ k differs. other_rows c k differs };
}

-- changes of cursors, one after the other
pub moved-both : (a b c : Store) → MovesCursors a b → MovesCursors b c → MovesCursors a c
moved-both a b c m n = record {
  spaces = spaces-both a.numbering b.numbering c.numbering m.spaces n.spaces;
  names = n.names ∙ m.names;
  tree = n.tree ∙ m.tree;
  members = n.members ∙ m.members;
  charges = n.charges ∙ m.charges;
  threads = n.threads ∙ m.threads;
}

pub same_falls : (b c : Numbering) → KeepsSpaces b c → (s : ℕ) → has_fallen_at c s ≡ has_fallen_at b s
same_falls b c k s = of (namespace_at c s) ∙ ap (λ o. option_map_or (λ (t : Namespace). t.fallen) o false) (k.each s) ∙ sym (of (namespace_at b s))
  where
    of : (o : Option Namespace) → option_map_or (λ (t : Namespace). t.fallen) o false ≡ option_map_or (λ (t : Namespace). t.fallen) (option_map without_cursor o) false
    of None = refl
    of (Some t) = refl

-- a store whose cursors moved is ungrouped still
pub ungrouped-moved : (s t : Store) → MovesCursors s t → IsUngrouped s → IsUngrouped t
ungrouped-moved s t m u = record {
  orphans = λ k. ap (λ x. parent_of x k) m.tree ∙ u.orphans k;
  alone = λ k g e. u.alone k g (sym (ap (λ x. group_of x k) m.members) ∙ e);
  borne = λ k i e. ap (λ x. is_some (task_at x k)) m.tree ∙ u.borne k i (sym (ap (λ (ns : List (Option Identifier)). slice_index_or ns k None) m.names) ∙ e);
  standing = λ p. same_falls s.numbering t.numbering m.spaces p ∙ u.standing p;
  single = subst HasNoThreads (sym m.threads) u.single;
}

-- so is one into which a task came by itself
pub ungrouped-come : {s t : Store} {key : ℕ} {task : Task} {space : ℕ} {numbers : List ℕ} → Comes s t key None task space numbers → KeepsSpaces s.numbering t.numbering
    → IsUngrouped s → IsUngrouped t
ungrouped-come {s} {t} {key} c k u = record {
  orphans = λ i. elim (cases_eq i key) [
    | inl same ↦ ap (parent_of t.tree) same ∙ c.begun.parent
    | inr not ↦ c.begun.parents i not ∙ u.orphans i
  ];
  alone = λ i g e. elim (cases_eq i key) [
    | inl same ↦
        let own : Some key ≡ Some g = sym (ap (option_map (λ (m : Membership). m.group)) (ap (membership_at t.members) same ∙ c.begun.member)) ∙ e in
        sym (some_of key g own) ∙ sym same
    | inr not ↦ u.alone i g (sym (ap (option_map (λ (m : Membership). m.group)) (c.begun.members i not)) ∙ e)
  ];
  borne = λ i v e. elim (cases_eq i key) [
    | inl same ↦ ap is_some (ap (task_at t.tree) same ∙ c.begun.begun)
    | inr not ↦
        let old = before v (identifier_at s.numbering i) (sym (c.begun.names i not) ∙ ap (option_map bare) e) in
        ap is_some (c.begun.tasks i not) ∙ u.borne i old.0 old.1
  ];
  standing = λ p. same_falls s.numbering t.numbering k p ∙ u.standing p;
  single = subst HasNoThreads (sym c.begun.threads) u.single;
}
  where
    before : (v : Identifier) (o : Option Identifier) → option_map bare o ≡ Some (bare v) → (w : Identifier) × (o ≡ Some w)
    before v None e = absurd (cc)
    before v (Some w) e = (w, refl)

-- who bears a name bears it still
pub bearers-come : {s t : Store} {key : ℕ} {from : Option ℕ} {task : Task} {space : ℕ} {numbers : List ℕ} → Comes s t key from task space numbers → KeepsBearers s t
bearers-come {s} {t} {key} c = record {
  each = λ k some.
      let v = held (task_at s.tree k) some in
      let u = named s c.before k v.0 v.1 in
      let not : k ≢ key = (λ same. let z : None ≡ Some v.0 = sym c.begun.fresh.0 ∙ ap (task_at s.tree) (sym same) ∙ v.1 in cc) in
      (ap is_some (c.begun.tasks k not) ∙ some, name-kept c k u.0 u.1);
}

pub bearers-moved : (s t : Store) → MovesCursors s t → KeepsBearers s t
bearers-moved s t m = record { each = λ k some. (ap (λ x. is_some (task_at x k)) m.tree ∙ some, name-same s t (same_ids s.numbering t.numbering m.spaces) m.names k) }

pub bearers-both : (a b c : Store) → KeepsBearers a b → KeepsBearers b c → KeepsBearers a c
bearers-both a b c k l = record { each = λ i some. let x = k.each i some in let y = l.each i x.0 in (y.0, y.1 ∙ x.1) }

-- the task of a row
pub task-of : (s : Store) (k : ℕ) (r : Row) → row_with s k ≡ Some r → (t : Task) × (task_at s.tree k ≡ Some t) × (row_of s k t ≡ r)
task-of s k r e = go (task_at s.tree k) refl e
  where
    go : (o : Option Task) → task_at s.tree k ≡ o → option_map (row_of s k) o ≡ Some r → (t : Task) × (task_at s.tree k ≡ Some t) × (row_of s k t ≡ r)
    go None is e = absurd (cc)
    go (Some t) is e = (t, is, let z : row_of s k t ≡ r = cc in z)

-- the next draw of one namespace begins elsewhere
pub cursor-moved : (s t : Store) (space cursor : ℕ) → t.numbering.names ≡ s.numbering.names → t.numbering.order ≡ s.numbering.order
    → ((p : ℕ) → namespace_at t.numbering p ≡ option_map (cursor_put space cursor p) (namespace_at s.numbering p)) → t.numbering.pid_max ≡ s.numbering.pid_max
    → t ≡ record s { numbering = t.numbering } → MovesCursors s t
cursor-moved s t space cursor names order namespaces bound rest = record {
  spaces = record { order = order; bound = bound; each = λ p. ap (option_map without_cursor) (namespaces p) ∙ same p (namespace_at s.numbering p) };
  names = names;
  tree = ap (λ x. x.tree) rest;
  members = ap (λ x. x.members) rest;
  charges = ap (λ x. x.charges) rest;
  threads = ap (λ x. x.threads) rest;
}
  where
    same : (p : ℕ) (o : Option Namespace) → option_map without_cursor (option_map (cursor_put space cursor p) o) ≡ option_map without_cursor o
    same p None = refl
    same p (Some t) = refl

pub moved-none : (s : Store) → MovesCursors s s
moved-none s = record { spaces = record { order = refl; bound = refl; each = λ p. refl }; names = refl; tree = refl; members = refl; charges = refl; threads = refl }

-- a task that came moved only cursors of namespaces
pub come-spaces : (b c : Numbering) (path numbers : List ℕ) → c.order ≡ b.order → c.pid_max ≡ b.pid_max
    → ((s : ℕ) → namespace_at c s ≡ option_map (moved path numbers s) (namespace_at b s)) → KeepsSpaces b c
come-spaces b c path numbers order bound namespaces = record { order = order; bound = bound; each = λ s. ap (option_map without_cursor) (namespaces s) ∙ same s (namespace_at b s) }
  where
    same : (s : ℕ) (o : Option Namespace) → option_map without_cursor (option_map (moved path numbers s) o) ≡ option_map without_cursor o
    same s None = refl
    same s (Some t) = refl

pub keeps-namespaces : (b c : Numbering) → KeepsSpaces b c → KeepsNamespaces b c
keeps-namespaces b c k q n at = (same_ids b c k q, same_paths b c k q)

-- a row that was added to a store whose cursors had moved
pub added-behind : (s t u : Store) (key : ℕ) (row : Row) → MovesCursors s t → AddsRow t u key row → AddsRow s u key row
added-behind s t u key row m a = record {
  fresh = sym (row-moved s t m key) ∙ a.fresh;
  sets = record { here = a.sets.here; others = λ k not. a.sets.others k not ∙ row-moved s t m k };
}

-- who was found last is known still
pub recent-kept : (s t : Store) (last : RecentName) → KeepsBearers s t → IsRecent s last → IsRecent t last
recent-kept s t last k r key e = let b = r key e in let x = k.each key b.there in record { there = x.0; named = x.1 ∙ b.named }

pub bears-kept : (s t : Store) (key : ℕ) (name : Name) → KeepsBearers s t → Bears s key name → Bears t key name
bears-kept s t key name k b = let x = k.each key b.there in record { there = x.0; named = x.1 ∙ b.named }

pub bearers-none : (s : Store) → KeepsBearers s s
bearers-none s = record { each = λ k some. (some, refl) }

pub places-none : (s : Store) → KeepsPlaces s s
places-none s = record { spaces = record { order = refl; bound = refl; each = λ p. refl }; controls = refl }

pub ungrouped-none : (s : Store) → IsUngrouped s → KeepsUngrouped s s
ungrouped-none s u = record { ungrouped = u; places = places-none s; names = bearers-none s }

pub ungrouped-both : (a b c : Store) → KeepsUngrouped a b → KeepsUngrouped b c → KeepsUngrouped a c
ungrouped-both a b c k l = record { ungrouped = l.ungrouped; places = places-both a b c k.places l.places; names = bearers-both a b c k.names l.names }

pub grouping-none : (s : Store) → IsGrouping s → KeepsGrouping s s
grouping-none s g = record { grouping = g; places = places-none s; names = bearers-none s }

pub grouping-both : (a b c : Store) → KeepsGrouping a b → KeepsGrouping b c → KeepsGrouping a c
grouping-both a b c k l = record { grouping = l.grouping; places = places-both a b c k.places l.places; names = bearers-both a b c k.names l.names }

-- a store that was just made is ungrouped
pub ungrouped-new : (s : Store) → IsLawful s → ((k : ℕ) → task_at s.tree k ≡ None) → s.members ≡ [] → ((i : ℕ) → identifier_at s.numbering i ≡ None)
    → namespace_at s.numbering 0 ≡ Some (new_namespace 0 (0 ∷ [])) → ((p : ℕ) → p ≢ 0 → namespace_at s.numbering p ≡ None) → HasNoThreads s.threads
    → IsUngrouped s
ungrouped-new s laws tasks members names root others single = record {
  orphans = λ k. laws.absent k (tasks k);
  alone = λ k g e. absurd (let z : None ≡ Some g = sym (ap (λ (ms : List (Option Membership)). group_of ms k) members) ∙ e in cc);
  borne = λ k u e. absurd (let z : None ≡ Some u = sym (names k) ∙ e in cc);
  standing = λ p. elim (cases_eq p 0) [
    | inl same ↦ ap (λ (o : Option Namespace). option_map_or (λ (n : Namespace). n.fallen) o false) (ap (namespace_at s.numbering) same ∙ root)
    | inr not ↦ ap (λ (o : Option Namespace). option_map_or (λ (n : Namespace). n.fallen) o false) (others p not)
  ];
  single = single;
}

-- control groups have nothing to do with groups
pub ungrouped-charges : (s t : Store) → t ≡ record s { charges = t.charges } → IsUngrouped s → IsUngrouped t
ungrouped-charges s t rest u = record {
  orphans = λ k. ap (λ (x : Store). parent_of x.tree k) rest ∙ u.orphans k;
  alone = λ k g e. u.alone k g (sym (ap (λ (x : Store). group_of x.members k) rest) ∙ e);
  borne = λ k i e. ap (λ (x : Store). is_some (task_at x.tree k)) rest ∙ u.borne k i (sym (ap (λ (x : Store). identifier_at x.numbering k) rest) ∙ e);
  standing = λ p. ap (λ (x : Store). has_fallen_at x.numbering p) rest ∙ u.standing p;
  single = subst HasNoThreads (sym (ap (λ (x : Store). x.threads) rest)) u.single;
}

-- nor has a namespace that came and stands
pub ungrouped-space : (s t : Store) (key id : ℕ) (path : List ℕ) → namespace_at t.numbering key ≡ Some (new_namespace id path)
    → ((p : ℕ) → p ≢ key → namespace_at t.numbering p ≡ namespace_at s.numbering p) → t.numbering.names ≡ s.numbering.names → t ≡ record s { numbering = t.numbering }
    → IsUngrouped s → IsUngrouped t
ungrouped-space s t key id path made others names rest u = record {
  orphans = λ k. ap (λ (x : Store). parent_of x.tree k) rest ∙ u.orphans k;
  alone = λ k g e. u.alone k g (sym (ap (λ (x : Store). group_of x.members k) rest) ∙ e);
  borne = λ k i e. ap (λ (x : Store). is_some (task_at x.tree k)) rest ∙ u.borne k i (sym (ap (λ (ns : List (Option Identifier)). slice_index_or ns k None) names) ∙ e);
  standing = λ p. elim (cases_eq p key) [
    | inl same ↦ ap (λ (o : Option Namespace). option_map_or (λ (n : Namespace). n.fallen) o false) (ap (namespace_at t.numbering) same ∙ made)
    | inr not ↦ ap (λ (o : Option Namespace). option_map_or (λ (n : Namespace). n.fallen) o false) (others p not) ∙ u.standing p
  ];
  single = subst HasNoThreads (sym (ap (λ (x : Store). x.threads) rest)) u.single;
}

-- the places are the same where the namespaces and the control groups are
pub places-same : (s t : Store) → t.numbering ≡ s.numbering → t.charges.controls ≡ s.charges.controls → KeepsPlaces s t
places-same s t numbering controls = record {
  spaces = record {
    order = ap (λ (b : Numbering). b.order) numbering;
    bound = ap (λ (b : Numbering). b.pid_max) numbering;
    each = λ p. ap (λ (b : Numbering). option_map without_cursor (namespace_at b p)) numbering;
  };
  controls = controls;
}

-- the rows of a state whose names, paths and rows by key are the same
pub state-rows : (s t : Store) → t.numbering.pid_max ≡ s.numbering.pid_max → t.numbering.names ≡ s.numbering.names → ((p : ℕ) → path_at t.numbering p ≡ path_at s.numbering p)
    → ((k : ℕ) → row_with t k ≡ row_with s k) → (state_of t).rows ≡ (state_of s).rows
state-rows s t bound names paths rows i =
    collect (λ n. option_and_then (λ k. rows k i) (position (λ o. option_eq ◌==◌ (number_in (λ p. paths p i) 0 o) (Some n)) (names i))) 0 (bound i)

pub state-moved : (s t : Store) → MovesCursors s t → (state_of t).rows ≡ (state_of s).rows
state-moved s t m = state-rows s t m.spaces.bound m.names (same_paths s.numbering t.numbering m.spaces) (row-moved s t m)
