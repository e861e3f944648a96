-- An entry of the history as numbers.
use Rattle.std.specs.Prelude.{◌≡◌, ◌≤◌, ℕ, Option, Some, None}
use Rattle.pid_types.specs.declared.entry.Entry.{Entry}
use Rattle.kept_table.specs.Chronicle.{Chronicle, total, kept_entry}
use Rattle.saved_form.specs.declared.numbers.CallNumbers.{CallNumbers}
use Rattle.saved_form.specs.declared.numbers.ReplyNumbers.{ReplyNumbers}
use Rattle.saved_form.specs.declared.numbers.EntryNumbers.{EntryNumbers}
use Rattle.foreign_numbers.specs.CallNumbers.{call_numbers}
use Rattle.foreign_numbers.specs.Numbers.{call_of, numbers_of}

-- the numbers are those of the kept entry with the ordinal, whose call can be read from them again
pub record IsEntry (c : Chronicle) (ordinal : ℕ) (worker : ℕ) (call : CallNumbers) (reply : ReplyNumbers) : Type 0 where
  pub entry : Entry
  pub kept : kept_entry c ordinal ≡ Some entry
  pub by : worker ≡ entry.worker
  pub call_is : call ≡ call_numbers entry.call
  pub back : call_of call ≡ Some entry.call
  pub reply_is : reply ≡ numbers_of entry.reply

-- these are the numbers of the kept entry with the ordinal
abbrev pub TellsEntry : Chronicle → ℕ → Option EntryNumbers → Type 0
TellsEntry c ordinal None = ⊥
TellsEntry c ordinal (Some n) = IsEntry c ordinal n.worker n.call n.reply

-- the ordinal is that of a kept entry, or of the next call
abbrev pub IsKeptOrNext : ℕ → Chronicle → Type 0
IsKeptOrNext ordinal c = (c.first_kept ≤ ordinal) × (ordinal ≤ total c)
