-- Fork: fork(2), and clone(2) with CLONE_NEWPID.
use Rattle.std.specs.Prelude.{ℕ, ◌+◌, Bool, true, false, ◌&&◌, not, ◌==◌, nat_lt, nat_le, List, [], ◌∷◌, ◌++◌, map, reverse, Some, if◌then◌else◌, is_none, unwrap_or, find, Option, option_map}
use Rattle.std.specs.Option.{option_map_or}
use Rattle.pid_types.specs.declared.plain.Name.{Name}
use Rattle.pid_types.specs.declared.plain.Row.{Row}
use Rattle.pid_types.specs.declared.plain.Space.{Space}
use Rattle.pid_types.specs.declared.plain.Life.TheVariants.{Live}
use Rattle.pid_types.specs.declared.reply.Reply.TheVariants.{Forked}
use Rattle.pid_types.specs.declared.reply.Refusal.{Refusal}
use Rattle.pid_types.specs.declared.reply.Refusal.TheVariants.{TooDeep, Elsewhere, SpaceFallen, NoNumber, PidsLimit}
use Rattle.pid_types.specs.Bounds.{deepest_space}
use Rattle.pid_types.specs.Chains.{contains}
use Rattle.pid_types.specs.State.{State}
use Rattle.pid_types.specs.Names.{space_at, path_up, level, root_number, number_or_zero}
use Rattle.pid_types.specs.Draw.{draw}
use Rattle.pid_types.specs.Controls.{passed_limit}
use Rattle.pid_types.specs.Outcome.{Outcome, changed, refuse_if, unless_found, by_thread}

-- the list with one more, which stands by its key
abbrev pub insert_by : {X : Type 0} → (X → ℕ) → X → List X → List X
insert_by key new [] = new ∷ []
insert_by key new (x ∷ xs) = if nat_lt (key new) (key x) then new ∷ x ∷ xs else x ∷ insert_by key new xs

-- the rows with one more, which stands by its root number
abbrev pub insert_row : Row → List Row → List Row
insert_row new rows = insert_by (λ row. root_number row.name) new rows

-- the namespaces with one more under the parent
abbrev pub with_space : State → ℕ → ℕ → State
with_space state parent id =
    record state { spaces = state.spaces ++ record { id = id; parent = Some parent; cursor = 0; fallen = false } ∷ [] }

-- the number that the namespace gives next, where it has one
unfoldable pub drawn : State → ℕ → ℕ
drawn state s = unwrap_or (draw state s) 0

-- the namespace with its cursor behind the number that it gave, if it is on the path
abbrev pub moved_cursor : State → List ℕ → Space → Space
moved_cursor state path s = record s { cursor = if contains path s.id then drawn state s.id + 1 else s.cursor }

-- the namespaces with the cursors of the path behind the numbers drawn
unfoldable pub with_cursors : State → List ℕ → List Space
with_cursors state path = map (moved_cursor state path) state.spaces

-- a new name in the namespace t: one number for each namespace from t to the root
abbrev pub new_name : State → ℕ → Name
new_name state t = record { space = t; numbers = record { items = reverse (map (drawn state) (path_up state.spaces t)) } }

-- the caller's child in the namespace t: it has the caller's group, session and control group
abbrev pub child_of : State → Row → ℕ → Row
child_of state caller t = record {
  name = new_name state t;
  parent = Some caller.name;
  group = caller.group;
  session = caller.session;
  executed = false;
  life = Live;
  home = caller.home;
  children_space = t;
  subreaper = false;
}

-- whether the namespace has fallen, or was dropped since
abbrev pub is_gone : State → ℕ → Bool
is_gone state s = option_map_or (λ t. t.fallen) (space_at state.spaces s) true

-- the state with the child, whose numbers were drawn along the path
abbrev pub with_child : State → Row → List ℕ → State
with_child state child path = record state { rows = insert_row child state.rows; spaces = with_cursors state path }

-- why the caller can have no new task in the namespace t: the first namespace from t outwards that has no number to give, or else the
-- nearest control group whose limit it would pass
unfoldable pub no_room : State → Row → ℕ → Option Refusal
no_room state caller t =
    option_map_or (λ s. Some (NoNumber s)) (find (λ s. is_none (draw state s)) (path_up state.spaces t))
    (option_map PidsLimit (passed_limit state caller.home))

-- the outcome with the caller's child in the namespace t
abbrev pub forked : State → Row → ℕ → Outcome
forked state caller t =
    let child = child_of state caller t in
    changed (with_child state child (path_up state.spaces t))
    (Forked (number_or_zero state.spaces child.name caller.name.space) (root_number child.name))

-- a child in the namespace for the caller's children, or in a new one below it, in which it is the init
unfoldable pub fork : State → ℕ → ℕ → Bool → Outcome
fork state stamp n new_space =
    by_thread state n (λ caller.
    let p = caller.children_space in
    let planned = if new_space then with_space state p stamp else state in
    let t = if new_space then stamp else p in
    refuse_if state (new_space && nat_le deepest_space (level state.spaces p)) TooDeep
    (refuse_if state (new_space && not (p == caller.name.space)) Elsewhere
    (refuse_if state (is_gone state p) SpaceFallen
    (unless_found state (no_room planned caller t) (λ r. r) (forked planned caller t)))))
