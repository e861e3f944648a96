-- The settings at the head of a saved history.
use Rattle.saved_form.specs.declared.numbers.Head.{Head}
use Rattle.foreign_calls.specs.Opened.{CanBegin}

-- a table with a history can be opened with the settings
abbrev pub CanOpenBy : Head → Type 0
CanOpenBy h = CanBegin h.pid_max h.first_stamp h.workers 16
