use Rattle.std.proofs.Common.{◌≡◌, ◌<◌, ◌+◌, length, get_or, Some, ap, take, sym, ◌∙◌, arith, rules}
use Rattle.std.proofs.lemmas.Slice.{between_to_end}
use Rattle.pid_script.specs.Reading.{IsPlain}
use Rattle.pid_script.proofs.Numbers.{front_then, front_then_none}
use Rattle.pid_script.proofs.number.read_then.Goals as goal
use Rattle.pid_script.proofs.number.read_then.Goals.{else-end-words-via-then-end-words+then-words-end-eq32+else-is_plain, else-end-words-via-then-end-words+else-words-end-eq32, else-end-words-via-else-end-words}

pub returns-then-is_plain : goal.returns-then-is_plain
returns-then-is_plain c =
    let words = c.args.words.now in
    let front = c.read_front-front.result in
    let plain : IsPlain (take front.digits words) = c.if-is_plain.ensures.0 (search rules) in
    ap (λ rest. Some (front.number, rest)) (between_to_end words (front.digits + 1) _ (omega arith))
    ∙ front_then words front.digits front.number c.read_front-front.ensures (omega arith) c.if-words-end-eq32.true plain

pub returns-then-end-lt9 : goal.returns-then-end-lt9
returns-then-end-lt9 c =
    let words = c.args.words.now in
    let front = c.read_front-front.result in
    let not_it : front.digits < length words → get_or words front.digits 0 ≡ 32 → IsPlain (take front.digits words) → ⊥ = elim c.else-end-words.branch [
      | else-end-words-via-then-end-words+then-words-end-eq32+else-is_plain w ↦ λ lt space plain. (let no = w.if-is_plain.ensures.1 plain in cc)
      | else-end-words-via-then-end-words+else-words-end-eq32 w ↦ λ lt space plain. absurd (w.if-words-end-eq32.false space)
      | else-end-words-via-else-end-words w ↦ λ lt space plain. absurd (omega (arith, w.if-end-words.false))
    ] in
    sym (front_then_none words front.digits front.number c.read_front-front.ensures c.if-end-lt9.true not_it)
