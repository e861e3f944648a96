use Rattle.std.proofs.Common.{◌≡◌, ℕ, List, length, take, ap, sym, ◌∙◌, arith}
use Prim.Native.Nat.{min}
use Rattle.std.proofs.lemmas.List.{take_min}
use Rattle.std.proofs.lemmas.Slice.Eq.{bytes_eq-Decides}
use Rattle.saved_form.specs.Form.{magic}
use Rattle.saved_form.proofs.head.may_begin.Goals as goal

pub returns : goal.returns
returns c =
    let bytes : List ℕ = c.args.bytes.now in
    let count : ℕ = c.min-count.result in
    let least : count ≡ min 8 (length bytes) = omega arith in
    let front : take count bytes ≡ take 8 bytes = ap (λ n. take n bytes) least ∙ take_min 8 bytes in
    let there : take count magic ≡ take (length bytes) magic = ap (λ n. take n magic) c.min-count.ensures ∙ take_min (length bytes) magic in
    let same = bytes_eq-Decides (take count bytes) (take count magic) in
    (λ yes. sym front ∙ same.0 (sym c.eq.ensures ∙ yes) ∙ there, λ may. c.eq.ensures ∙ same.1 (front ∙ may ∙ sym there))
