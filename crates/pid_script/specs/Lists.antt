-- The list of a snapshot.
use Rattle.std.specs.Prelude.{ℕ, Bool, true, false, List, [], ◌++◌, codes, decimal, Option, Some, None, if◌then◌else◌, ◌==◌}
use Rattle.std.specs.List.{flat_map}
use Rattle.std.specs.Option.{option_map_or}
use Rattle.pid_types.specs.declared.plain.Row.{Row}
use Rattle.pid_types.specs.declared.plain.Space.{Space}
use Rattle.pid_types.specs.declared.plain.ControlRow.{ControlRow}
use Rattle.pid_types.specs.declared.plain.Plain.{Plain}
use Rattle.pid_types.specs.declared.plain.Life.{Life}
use Rattle.pid_types.specs.declared.plain.Life.TheVariants.{Live, Zombie}
use Rattle.pid_types.specs.declared.plain.Ended.TheVariants.{Exited, Killed}
use Rattle.pid_types.specs.Names.{root_number}
use Rattle.pid_script.specs.Answers.{joined}
use Rattle.pid_script.specs.Script.{with_newline}

-- the label, and the number behind it
abbrev pub field : List ℕ → ℕ → List ℕ
field label number = label ++ decimal number

-- the word, where it holds
abbrev pub marked : Bool → List ℕ → List ℕ
marked true word = word
marked false word = []

-- a parent's id, or a dash for the root
abbrev pub parent_text : Option ℕ → List ℕ
parent_text None = codes "-"
parent_text (Some id) = decimal id

-- a limit, or the word for none
abbrev pub limit_text : Option ℕ → List ℕ
limit_text None = codes "max"
limit_text (Some limit) = decimal limit

-- whether a task lives, or how it ended
abbrev pub life_text : Life → List ℕ
life_text Live = codes "live"
life_text (Zombie (Exited status)) = field (codes "exit ") status
life_text (Zombie Killed) = codes "killed"

-- where its children go, if not into its own namespace
abbrev pub children_text : Row → List ℕ
children_text row = if row.children_space == row.name.space then [] else field (codes " children ") row.children_space

-- its numbers, the root's first, and its namespace
unfoldable pub name_text : Row → List ℕ
name_text row = codes "task " ++ joined 44 row.name.numbers.items ++ field (codes " space ") row.name.space

-- the root numbers of its parent, its group and its session, and its control group
unfoldable pub relatives_text : Row → List ℕ
relatives_text row =
    field (codes " parent ") (option_map_or root_number row.parent 0)
    ++ field (codes " group ") (root_number row.group)
    ++ field (codes " session ") (root_number row.session)
    ++ field (codes " control ") row.home

-- its life, and its marks
unfoldable pub marks_text : Row → List ℕ
marks_text row =
    codes " " ++ life_text row.life ++ marked row.executed (codes " executed") ++ children_text row
    ++ marked row.subreaper (codes " subreaper")

-- the line of a task
abbrev pub task_line : Row → List ℕ
task_line row = with_newline (name_text row ++ relatives_text row ++ marks_text row)

-- the line of a namespace
unfoldable pub space_line : Space → List ℕ
space_line space =
    with_newline (field (codes "space ") space.id ++ codes " parent " ++ parent_text space.parent
    ++ field (codes " cursor ") space.cursor ++ marked space.fallen (codes " fallen"))

-- the line of a control group
unfoldable pub control_line : ControlRow → List ℕ
control_line control =
    with_newline (field (codes "control ") control.id ++ codes " parent " ++ parent_text control.parent
    ++ codes " limit " ++ limit_text control.limit ++ field (codes " count ") control.count)

-- the list: the tasks, the namespaces and the control groups, each in its order
abbrev pub list_of : Plain → List ℕ
list_of plain = flat_map task_line plain.rows.items ++ flat_map space_line plain.spaces.items ++ flat_map control_line plain.controls.items
