-- The entry that a value of the program is.
use Rattle.replica.specs.Entries as log
use Rattle.replica.specs.Reading.{lines_in}
use Rattle.replica.specs.declared.entry.Entry.{Entry}
use Rattle.replica.specs.declared.entry.Entry.TheVariants as says
use Rattle.std.specs.Prelude.{ℕ, List}
use Rattle.replica.specs.declared.read.Head.{Head}

abbrev pub told_entry : Entry → log.LogEntry
told_entry (says.Settings form pid_max model) = log.Settings form pid_max model
told_entry says.Opened = log.Opened
told_entry (says.Ended session) = log.Ended session
told_entry (says.Calls session sequence position digest lines) = log.Calls session sequence position digest.now (lines_in lines.now)
told_entry says.Wanted = log.Wanted
told_entry (says.Announced position digest size sum key) = log.Announced position digest.now size sum.now key.now

-- the words of a head
abbrev pub words_of_head : Head → ℕ × (ℕ × (ℕ × (ℕ × List ℕ)))
words_of_head h = (h.session, (h.sequence, (h.count, (h.position, h.digest.now))))
