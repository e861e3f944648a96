-- What the bytes of an entry are read as.
use Rattle.std.specs.Prelude.{ℕ, ◌==◌, ◌&&◌, Bool, true, false, List, [], ◌∷◌, length, codes, Option, Some, None, if◌then◌else◌}
use Rattle.std.specs.List.{list_all, onto_first}
use Rattle.std.specs.Option.{option_map}
use Rattle.pid_script.specs.Reading.{◌>>=◌, cut, is_word, control_of, pair}
use Rattle.replica.specs.Entries.{LogEntry, Settings, Opened, Ended, Calls, Wanted, Announced, is_hex, is_key}

-- the lines that newlines part, of which there is one more than newlines
abbrev pub lines_in : List ℕ → List (List ℕ)
lines_in [] = [] ∷ []
lines_in (b ∷ bs) = if b == 10 then [] ∷ lines_in bs else onto_first b (lines_in bs)

-- a line has a byte, and each does
abbrev pub has_bytes : List ℕ → Bool
has_bytes [] = false
has_bytes (b ∷ bs) = true

abbrev pub are_full : List (List ℕ) → Bool
are_full = list_all has_bytes

-- the word, if it passes
abbrev pub passed : (List ℕ → Bool) → List ℕ → Option (List ℕ)
passed test word = if test word then Some word else None

-- the words behind each first word
abbrev pub settings_in : List ℕ → Option (ℕ × (List ℕ × (ℕ × (List ℕ × ℕ))))
settings_in =
    pair control_of (pair (passed (is_word (codes "pid_max"))) (pair control_of (pair (passed (is_word (codes "model"))) control_of)))

abbrev pub calls_head_in : List ℕ → Option (ℕ × (ℕ × (ℕ × (ℕ × List ℕ))))
calls_head_in = pair control_of (pair control_of (pair control_of (pair control_of (passed (is_hex 16)))))

abbrev pub announced_in : List ℕ → Option (ℕ × (List ℕ × (ℕ × (List ℕ × List ℕ))))
announced_in = pair control_of (pair (passed (is_hex 64)) (pair control_of (pair (passed (is_hex 64)) (passed is_key))))

abbrev pub settings_of : ℕ × (List ℕ × (ℕ × (List ℕ × ℕ))) → LogEntry
settings_of p = Settings p.0 p.1.1.0 p.1.1.1.1

abbrev pub announced_of : ℕ × (List ℕ × (ℕ × (List ℕ × List ℕ))) → LogEntry
announced_of p = Announced p.0 p.1.0 p.1.1.0 p.1.1.1.0 p.1.1.1.1

-- what follows the first word of an entry of one line
abbrev pub rest_in : List ℕ → List ℕ → Option LogEntry
rest_in word rest =
    if is_word (codes "end") word then option_map Ended (control_of rest)
    else if is_word (codes "snapshot") word then option_map announced_of (announced_in rest)
    else if is_word (codes "pidtab-log") word then option_map settings_of (settings_in rest)
    else None

-- an entry of one word, and one of a line with or without a space
abbrev pub word_in : List ℕ → Option LogEntry
word_in word = if is_word (codes "open") word then Some Opened else if is_word (codes "snap") word then Some Wanted else None

abbrev pub line_by : List ℕ → Option (List ℕ × List ℕ) → Option LogEntry
line_by line None = word_in line
line_by line (Some p) = rest_in p.0 p.1

abbrev pub line_in : List ℕ → Option LogEntry
line_in line = line_by line (cut 32 line)

-- the calls of a head, behind which so many lines come
abbrev pub lines_behind : ℕ × (ℕ × (ℕ × (ℕ × List ℕ))) → List (List ℕ) → Option LogEntry
lines_behind head lines =
    if (head.1.1.0 == length lines) && are_full lines then Some (Calls head.0 head.1.0 head.1.1.1.0 head.1.1.1.1 lines) else None

abbrev pub calls_in : List ℕ → List ℕ → Option LogEntry
calls_in head body =
    cut 32 head >>= λ p.
    (if is_word (codes "calls") p.0 then (calls_head_in p.1 >>= λ h. lines_behind h (lines_in body)) else None)

-- what an entry is read as: by a line alone, or by a head and what is behind the newline
abbrev pub read_by : List ℕ → Option (List ℕ × List ℕ) → Option LogEntry
read_by bytes None = line_in bytes
read_by bytes (Some p) = calls_in p.0 p.1

abbrev pub entry_read : List ℕ → Option LogEntry
entry_read bytes = read_by bytes (cut 10 bytes)
