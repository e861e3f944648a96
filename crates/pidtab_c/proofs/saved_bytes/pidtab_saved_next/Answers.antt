use Rattle.std.proofs.Common.{◌≡◌, ◌<◌, inl, inr, refl, arith}
use Rattle.saved_form.specs.Form.{entry_blocks, entry_size}
use Rattle.saved_form.specs.declared.numbers.EntryNumbers.{EntryNumbers}
use Rattle.pidtab_c.proofs.saved_bytes.pidtab_saved_next.Goals as goal

-- each entry has a block
has_bytes : (e : EntryNumbers) → 0 < entry_size e
unfolding entry_blocks
has_bytes e = omega arith

pub returns-in-Entry-clause-read_back : goal.returns-in-Entry-clause-read_back
returns-in-Entry-clause-read_back c e none places fits begins =
    let found = c.read_on.ensures.read_back e none places fits begins in
    let taken = c.read_on.ensures.entry c.in-Entry.taken c.in-Entry.is in
    let same : c.in-Entry.taken.entry ≡ e = cc in
    (refl, omega (arith, taken.1.size, has_bytes c.in-Entry.taken.entry), same)

pub returns-in-Entry-clause-no_entry : goal.returns-in-Entry-clause-no_entry
returns-in-Entry-clause-no_entry c (inl other) = absurd (other refl)
returns-in-Entry-clause-no_entry c (inr none) =
    let taken = c.read_on.ensures.entry c.in-Entry.taken c.in-Entry.is in
    absurd (omega (arith, taken.1.size, has_bytes c.in-Entry.taken.entry, none))

pub returns-in-Entry-clause-end : goal.returns-in-Entry-clause-end
returns-in-Entry-clause-end c done none =
    let taken = c.read_on.ensures.entry c.in-Entry.taken c.in-Entry.is in
    absurd (omega (arith, taken.1.size, has_bytes c.in-Entry.taken.entry, none))
