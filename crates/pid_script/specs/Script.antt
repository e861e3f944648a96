-- The lines of a script, and what they say.
use Rattle.std.specs.Prelude.{ℕ, List, [], ◌∷◌, ◌++◌, length, map, Option, Some, None, if◌then◌else◌, ◌==◌, nat_le}
use Rattle.std.specs.List.{onto_first}
use Rattle.pid_script.specs.declared.line.Line.{Line}
use Rattle.pid_script.specs.declared.line.Line.TheVariants as says
use Rattle.pid_script.specs.Reading.{parsed}

-- the lines of a script: a line ends at a newline, and what follows the last newline is a line if it has a byte
abbrev pub lines_of : List ℕ → List (List ℕ)
lines_of [] = []
lines_of (b ∷ bs) = if b == 10 then [] ∷ lines_of bs else onto_first b (lines_of bs)

-- the byte at the front of the first line, if there is one
abbrev pub onto_whole : ℕ → List (List ℕ) → List (List ℕ)
onto_whole b [] = []
onto_whole b (line ∷ lines) = (b ∷ line) ∷ lines

-- the lines that have ended: those before a newline
abbrev pub whole_lines_of : List ℕ → List (List ℕ)
whole_lines_of [] = []
whole_lines_of (b ∷ bs) = if b == 10 then [] ∷ whole_lines_of bs else onto_whole b (whole_lines_of bs)

-- what the lines say: all of them, and those that have ended
abbrev pub said_of : List ℕ → List Line
said_of bytes = map parsed (lines_of bytes)

abbrev pub said_whole : List ℕ → List Line
said_whole bytes = map parsed (whole_lines_of bytes)

-- a line with its newline
abbrev pub with_newline : List ℕ → List ℕ
with_newline line = line ++ 10 ∷ []

-- what is kept of a line: its bytes, if there are at most 200
abbrev pub kept_line : List ℕ → Option (List ℕ)
kept_line line = if nat_le (length line) 200 then Some line else None

-- what is said by what was kept: a line that was too long is bad
abbrev pub said_line : Option (List ℕ) → Line
said_line None = says.Bad
said_line (Some line) = parsed line

-- what is kept of a line with more bytes
abbrev pub kept_more : Option (List ℕ) → List ℕ → Option (List ℕ)
kept_more kept [] = kept
kept_more None (b ∷ bs) = None
kept_more (Some line) (b ∷ bs) = kept_line (line ++ b ∷ bs)

-- what the lines say that end within the bytes, the first of which was begun before
abbrev pub said_within : Option (List ℕ) → List ℕ → List Line
said_within kept [] = []
said_within kept (b ∷ bs) = if b == 10 then said_line kept ∷ said_within (Some []) bs else said_within (kept_more kept (b ∷ [])) bs

-- what is kept of the line that the bytes leave
abbrev pub kept_after : Option (List ℕ) → List ℕ → Option (List ℕ)
kept_after kept [] = kept
kept_after kept (b ∷ bs) = if b == 10 then kept_after (Some []) bs else kept_after (kept_more kept (b ∷ [])) bs

-- what the bytes after the last newline say, if there are any
abbrev pub last_said : Option (List ℕ) → List Line
last_said None = says.Bad ∷ []
last_said (Some []) = []
last_said (Some (b ∷ bs)) = parsed (b ∷ bs) ∷ []

-- what is said by what is read next: the lines that end within these bytes, and at the end, which gives none, what is left
abbrev pub said_next : Option (List ℕ) → List ℕ → List Line
said_next kept [] = last_said kept
said_next kept (b ∷ bs) = said_within kept (b ∷ bs)
