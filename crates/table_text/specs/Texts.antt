-- The text of a table: the form that it is saved in.
use Rattle.std.specs.Prelude.{ℕ, List, ◌++◌, codes, Option, Some, None}
use Rattle.std.specs.List.{flat_map}
use Rattle.hex.specs.Hex.{encode_lower}
use Rattle.sha2.specs.Sha256.{sha256}
use Rattle.pid_types.specs.declared.plain.Name.{Name}
use Rattle.pid_types.specs.declared.plain.Row.{Row}
use Rattle.pid_types.specs.declared.plain.Control.{Control}
use Rattle.pid_types.specs.State.{State}
pub use Rattle.pid_types.specs.Shown.{state_shown, control_shown}
use Rattle.pid_script.specs.Answers.{joined}
use Rattle.pid_script.specs.Lists.{field, marked, parent_text, limit_text, life_text, space_line}
use Rattle.pid_script.specs.Script.{with_newline}

-- a name in one word: its numbers, the root's first, and its namespace
unfoldable pub name_word : Name → List ℕ
name_word name = joined 44 name.numbers.items ++ field (codes "@") name.space

-- the name of a parent, or a dash for none
abbrev pub parent_word : Option Name → List ℕ
parent_word None = codes "-"
parent_word (Some parent) = name_word parent

-- the task itself, and whom it belongs to
unfoldable pub names_text : Row → List ℕ
names_text row =
    codes "task " ++ name_word row.name ++ codes " parent " ++ parent_word row.parent
    ++ codes " group " ++ name_word row.group ++ codes " session " ++ name_word row.session

-- its control group, and the namespace that its children go into
unfoldable pub places_text : Row → List ℕ
places_text row = field (codes " control ") row.home ++ field (codes " children ") row.children_space

-- its life, and its marks
unfoldable pub flags_text : Row → List ℕ
flags_text row = codes " " ++ life_text row.life ++ marked row.executed (codes " executed") ++ marked row.subreaper (codes " subreaper")

-- the line of a task
unfoldable pub task_text_line : Row → List ℕ
task_text_line row = with_newline (names_text row ++ places_text row ++ flags_text row)

-- the rest of a task's line, behind its own name
unfoldable pub rest_line : Row → List ℕ
rest_line row =
    with_newline (codes " parent " ++ parent_word row.parent ++ codes " group " ++ name_word row.group
    ++ codes " session " ++ name_word row.session ++ places_text row ++ flags_text row)

-- the line of a control group. Its count is none of its own: it follows from the tasks
unfoldable pub control_text_line : Control → List ℕ
control_text_line control =
    with_newline (field (codes "control ") control.id ++ codes " parent " ++ parent_text control.parent
    ++ codes " limit " ++ limit_text control.limit)

-- the bound of all numbers, and the stamp of the next call
unfoldable pub bounds_text : ℕ → ℕ → List ℕ
bounds_text pid_max stamp = field (codes " pid-max ") pid_max ++ field (codes " stamp ") stamp

-- the first line: the version of the form, and the settings
unfoldable pub head_line : ℕ → ℕ → List ℕ
head_line pid_max stamp = with_newline (codes "pidtab table 1" ++ bounds_text pid_max stamp)

-- what the text says
unfoldable pub dump_text : ℕ → State → List ℕ
dump_text stamp state =
    head_line state.pid_max stamp ++ flat_map task_text_line state.rows
    ++ flat_map space_line state.spaces ++ flat_map control_text_line state.controls

-- the last line: the digest of all that is before it
unfoldable pub end_line : List ℕ → List ℕ
end_line text = with_newline (codes "end sha256 " ++ encode_lower (sha256 text))

-- the text of a state with the stamp of its next call
unfoldable pub text_of : ℕ → State → List ℕ
text_of stamp state = dump_text stamp state ++ end_line (dump_text stamp state)
