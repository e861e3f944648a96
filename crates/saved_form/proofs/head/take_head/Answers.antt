use Rattle.std.proofs.Common.{◌≡◌, ℕ, ◌+◌, ◌<◌, List, true, ap, sym, subst, ◌∙◌, arith}
use Rattle.saved_form.specs.Form as form
use Rattle.saved_form.specs.Taking.{AreRight}
use Rattle.saved_form.proofs.Heads.{begins_there, begins_may, begins_version, begins_back, begins_block, begins_right, taken, same_version}
use Rattle.saved_form.proofs.head.take_head.Goals as goal

pub returns-then-not-may_begin-clause-read_back : goal.returns-then-not-may_begin-clause-read_back
returns-then-not-may_begin-clause-read_back c h fits begins =
    let may : c.may_begin.result ≡ true = c.may_begin.ensures.1 (begins_may h c.args.bytes.now begins) in cc

pub returns-then-bytes-lt-BLOCK-clause-read_back : goal.returns-then-bytes-lt-BLOCK-clause-read_back
returns-then-bytes-lt-BLOCK-clause-read_back c h fits begins = omega (arith, begins_there h c.args.bytes.now begins)

pub returns-then-four_at-ne-VERSION-clause-read_back : goal.returns-then-four_at-ne-VERSION-clause-read_back
returns-then-four_at-ne-VERSION-clause-read_back c h fits begins =
    c.if-four_at-ne-VERSION.true (c.four_at.ensures ∙ begins_version h c.args.bytes.now begins)

pub returns-in-Ok-clause-done : goal.returns-in-Ok-clause-done
returns-in-Ok-clause-done c =
    taken c.read_head-head.result c.in-Ok.sum c.args.bytes.now c.in-Ok.ensures.right.0 c.in-Ok.ensures.right.1
    (c.is_block.ensures.0 c.if-is_block.true ∙ c.head_block.ensures)

pub returns-in-Ok-clause-read_back : goal.returns-in-Ok-clause-read_back
returns-in-Ok-clause-read_back c h fits begins = c.read_head-head.ensures ∙ begins_back h c.args.bytes.now fits begins

pub returns-in_default-clause-read_back : goal.returns-in_default-clause-read_back
returns-in_default-clause-read_back c h fits begins =
    let bytes : List ℕ = c.args.bytes.now in
    let head : c.read_head-head.result ≡ h = c.read_head-head.ensures ∙ begins_back h bytes fits begins in
    let same : c.is_block.result ≡ true =
    c.is_block.ensures.1 (begins_block h bytes begins ∙ sym (c.head_block.ensures ∙ ap form.head_block head)) in
    cc

first_is_right : (place : ℕ) (bytes : List ℕ) → place < 1 → (AreRight (place + 1) 0 bytes → ⊥) → AreRight 1 0 bytes → ⊥
first_is_right place bytes first wrong right =
    let same : 1 ≡ place + 1 = omega arith in
    wrong (subst (λ n. AreRight n 0 bytes) same right)

pub returns-in_default-2-clause-read_back : goal.returns-in_default-2-clause-read_back
returns-in_default-2-clause-read_back c h fits begins =
    let bad = c.in_default.ensures.wrong in
    first_is_right _ c.args.bytes.now bad.0 bad.2 (begins_right h c.args.bytes.now begins)

pub returns-in-Ok-clause-other_version : goal.returns-in-Ok-clause-other_version
returns-in-Ok-clause-other_version c = (
  λ is. cc,
  λ other. absurd (same_version c.args.bytes.now (sym c.four_at.ensures ∙ c.if-four_at-ne-VERSION.false) other),
)

pub returns-in_default-clause-other_version : goal.returns-in_default-clause-other_version
returns-in_default-clause-other_version c = (
  λ is. cc,
  λ other. absurd (same_version c.args.bytes.now (sym c.four_at.ensures ∙ c.if-four_at-ne-VERSION.false) other),
)

pub returns-in_default-2-clause-other_version : goal.returns-in_default-2-clause-other_version
returns-in_default-2-clause-other_version c = (
  λ is. cc,
  λ other. absurd (same_version c.args.bytes.now (sym c.four_at.ensures ∙ c.if-four_at-ne-VERSION.false) other),
)
