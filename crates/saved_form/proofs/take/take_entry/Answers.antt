use Rattle.std.proofs.Common.{◌≡◌, ℕ, ◌*◌, List, length, take, true, Err, refl, ap, sym, subst, ◌∙◌, arith}
use Rattle.saved_form.specs.declared.numbers.EntryNumbers.{EntryNumbers}
use Rattle.saved_form.specs.declared.take.EntryFault.{EntryFault}
use Rattle.saved_form.specs.declared.take.EntryFault.TheVariants.{Torn, WrongByte}
use Rattle.saved_form.specs.Form.{sealed, sum_behind, entry_blocks, entry_size}
use Rattle.saved_form.specs.Taking.{bodies, AreRight, IsTorn, IsWrongAt}
use Rattle.saved_form.proofs.Laid.{entry_size_is}
use Rattle.saved_form.proofs.Whole.{begins_bodies, begins_whole, torn_not_wrong, torn_one}
use Rattle.saved_form.proofs.take.take_entry.Goals as goal

pub returns-in-Err-clause-read_back : goal.returns-in-Err-clause-read_back
returns-in-Err-clause-read_back c e places fits begins = c.in-Err.ensures.lacking (begins_whole c.args.sum e c.args.bytes.now places fits begins)

-- a fault that says what is there says that it is torn
torn_fault : (sum wanted : ℕ) (bytes : List ℕ) (fault : EntryFault) → ((n : ℕ) → fault ≡ Torn n → IsTorn sum bytes n)
    → ((n : ℕ) → fault ≡ WrongByte n → IsWrongAt sum bytes n) → IsTorn sum bytes wanted → fault ≡ Torn wanted
torn_fault sum wanted bytes (Torn n) torn wrong is = ap Torn (torn_one sum n wanted bytes (torn n refl) is)
torn_fault sum wanted bytes (WrongByte n) torn wrong is = absurd (torn_not_wrong sum wanted n bytes is (wrong n refl))

pub returns-in-Err-clause-torn : goal.returns-in-Err-clause-torn
returns-in-Err-clause-torn c wanted = (
  (λ h. let same : c.in-Err.fault ≡ Torn wanted = cc in c.in-Err.ensures.torn wanted (ap Err same)),
  (λ is. ap Err (torn_fault c.args.sum wanted c.args.bytes.now c.in-Err.fault
      (λ n same. c.in-Err.ensures.torn n (ap Err same)) (λ n same. c.in-Err.ensures.wrong n (ap Err same)) is)),
)

pub returns-then-not-is_laid-clause-read_back : goal.returns-then-not-is_laid-clause-read_back
returns-then-not-is_laid-clause-read_back c e places fits begins =
    let bytes : List ℕ = c.args.bytes.now in
    let one : c.read_entry-entry.result ≡ e = c.read_entry-entry.ensures.one c.args.sum e places fits begins in
    let same : bodies (length (entry_blocks c.read_entry-entry.result)) bytes ≡ entry_blocks c.read_entry-entry.result =
    subst (λ x. bodies (length (entry_blocks x)) bytes ≡ entry_blocks x) (sym one) (begins_bodies c.args.sum e bytes places fits begins) in
    let laid : c.is_laid.result ≡ true = c.is_laid.ensures.1 same in
    cc

pub returns-then-not-is_laid-clause-wrong : goal.returns-then-not-is_laid-clause-wrong
returns-then-not-is_laid-clause-wrong c place is =
    let at : 0 ≡ place = cc in
    subst (IsWrongAt c.args.sum c.args.bytes.now) at (IsWrongAt.no_entry c.in-Ok.ensures.found.whole)

pub returns-clause-done : goal.returns-clause-done
returns-clause-done c =
    let sum : ℕ = c.args.sum in
    let bytes : List ℕ = c.args.bytes.now in
    let e : EntryNumbers = c.read_entry-entry.result in
    let blocks : ℕ = c.in-Ok.found.blocks in
    let size : 48 * blocks ≡ entry_size e = omega (arith, entry_size_is e, c.in-Ok.ensures.found.count, c.read_entry-entry.ensures.blocks) in
    let count : blocks ≡ length (entry_blocks e) = omega (arith, size) in
    let laid : bodies blocks bytes ≡ entry_blocks e = ap (λ n. bodies n bytes) count ∙ c.is_laid.ensures.0 c.if-not-is_laid.false in
    let right : AreRight blocks sum bytes = subst (λ n. AreRight n sum bytes) (sym c.in-Ok.ensures.found.count) c.in-Ok.ensures.found.whole.right in
    record {
      places = c.read_entry-entry.ensures.places;
      front = ap (λ n. take n bytes) (sym size) ∙ right.sums ∙ ap (sealed sum) laid;
      size = size;
      checksum = c.in-Ok.ensures.found.checksum ∙ ap (sum_behind sum) laid;
    }
