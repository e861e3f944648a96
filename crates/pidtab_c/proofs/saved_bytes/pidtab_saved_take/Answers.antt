use Rattle.std.proofs.Common.{◌≡◌, Err, refl, ap}
use Rattle.pidtab_c.proofs.saved_bytes.pidtab_saved_take.Goals as goal

pub returns-in-Ok-clause-is_torn : goal.returns-in-Ok-clause-is_torn
returns-in-Ok-clause-is_torn c wanted is = cc ((c.in-Ok.ensures.torn wanted).1 is)

pub returns-in-Err-Torn-clause-torn : goal.returns-in-Err-Torn-clause-torn
returns-in-Err-Torn-clause-torn c same = (c.in-Err-Torn.ensures.torn c.in-Err-Torn.wanted).0 (ap Err c.in-Err-Torn.field-0-is)

pub returns-in-Err-Torn-clause-is_torn : goal.returns-in-Err-Torn-clause-is_torn
returns-in-Err-Torn-clause-is_torn c wanted is =
    let same : c.in-Err-Torn.wanted ≡ wanted = cc ((c.in-Err-Torn.ensures.torn wanted).1 is) in
    (refl, same)

pub returns-in-Err-WrongByte-clause-is_torn : goal.returns-in-Err-WrongByte-clause-is_torn
returns-in-Err-WrongByte-clause-is_torn c wanted is = cc ((c.in-Err-WrongByte.ensures.torn wanted).1 is)
