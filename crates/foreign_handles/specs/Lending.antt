-- A table that is lent out of its handle.
use Rattle.std.specs.Prelude.{◌≡◌, ⊤, Some}
use mathlib.Core.Option.{none}
use denote.Follow.{follows_so}
use Rattle.std.specs.Borrow.{Lends, MutBor, Fml}
use Rattle.foreign_handles.specs.contracts.held.Held as held
use Rattle.foreign_handles.specs.declared.held.Held.{Held}
use Rattle.foreign_handles.specs.declared.handle.Handle.{Handle}
use Rattle.foreign_handles.specs.contracts.handle.Handle.{the_row}

-- the handle with another table at its address
abbrev pub with_held : Handle → Held → Handle
with_held h x = record h { held = Some x }

-- the handle ends with the last value of the table
abbrev pub LendsHeld : MutBor Handle → MutBor Held → Fml
LendsHeld h r = Lends the_row held.the_row h r (with_held h.now)

-- the handle ends as it was
abbrev pub RestsHandle : MutBor Handle → Fml
RestsHandle h = follows_so the_row the_row h.ghost_name none (λ _ _. ⊤) (λ n. n ≡ h.now)
