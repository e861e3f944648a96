-- The rest of a line that was read last.
use Rattle.std.specs.Prelude.{ℕ, ◌<◌, ◌≤◌, List, length}
use Rattle.pid_types.specs.declared.plain.Row.{Row}
use Rattle.table_text.specs.Ranges.{IsRowOfWords}
use Rattle.table_text.specs.Reading.{IsRead}
use Rattle.table_text.specs.Texts.{rest_line}
use Rattle.table_text.specs.declared.read.Rest.{Rest}

-- the rest of the row's line stands there, or nothing does
pub record IsRest (text : List ℕ) (rest : Rest) (row : Row) : Type 0 where
  pub order : rest.start ≤ rest.end
  pub within : rest.end ≤ length text
  pub read : rest.start < rest.end → IsRead text rest.start rest.end (rest_line row)
  pub words : rest.start < rest.end → IsRowOfWords row
