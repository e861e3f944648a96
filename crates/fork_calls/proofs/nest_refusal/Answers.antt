use Rattle.std.proofs.Common.{◌≡◌, ◌∙◌, ◌==◌, Bool, true, false, not, nat_le, length, Option, Some, None, if◌then◌else◌, sym, ap, arith}
use Rattle.std.proofs.lemmas.Bool.{eq-eqb, ne_eqb}
use Rattle.std.proofs.lemmas.Bool.Decides.{nat_tests}
use Rattle.pid_types.specs.declared.reply.Refusal.{Refusal}
use Rattle.pid_types.specs.declared.reply.Refusal.TheVariants.{TooDeep, Elsewhere}
use Rattle.pid_numbers.specs.Numbering.{Numbering, path_at}
use Rattle.fork_calls.proofs.Places.{deep-level, same-key}
use Rattle.fork_calls.proofs.nest_refusal.Goals as goal

-- by the two tests
told : Bool → Bool → Option Refusal
told deep own = if deep then Some TooDeep else (if not own then Some Elsewhere else None)

pub returns-then-level-ge-DEEPEST_SPACE : goal.returns-then-level-ge-DEEPEST_SPACE
unfolding told
returns-then-level-ge-DEEPEST_SPACE c id i at own =
    let s = c.args.store.now in
    let deep : nat_le 32 c.level.result ≡ true = grind (arith, nat_tests, c.if-level-ge-DEEPEST_SPACE.true) in
    sym (ap (λ b. told b (id == i)) (deep-level s c.laws.ensures c.args.space id at c.level.result (c.level.ensures ∙ ap (λ (b : Numbering). length (path_at b c.args.space)) c.numbers.ensures) ∙ deep))

pub returns-then-space-own : goal.returns-then-space-own
unfolding told
returns-then-space-own c id i at own =
    let s = c.args.store.now in
    let shallow : nat_le 32 c.level.result ≡ false = grind (arith, nat_tests, c.if-level-ge-DEEPEST_SPACE.false) in
    sym (ap (λ b. told b (id == i)) (deep-level s c.laws.ensures c.args.space id at c.level.result (c.level.ensures ∙ ap (λ (b : Numbering). length (path_at b c.args.space)) c.numbers.ensures) ∙ shallow)
    ∙ ap (told false) (same-key s c.laws.ensures c.args.space id at c.args.own i own ∙ ne_eqb _ _ c.if-space-own.true))

pub returns : goal.returns
unfolding told
returns c id i at own =
    let s = c.args.store.now in
    let shallow : nat_le 32 c.level.result ≡ false = grind (arith, nat_tests, c.if-level-ge-DEEPEST_SPACE.false) in
    sym (ap (λ b. told b (id == i)) (deep-level s c.laws.ensures c.args.space id at c.level.result (c.level.ensures ∙ ap (λ (b : Numbering). length (path_at b c.args.space)) c.numbers.ensures) ∙ shallow)
    ∙ ap (told false) (same-key s c.laws.ensures c.args.space id at c.args.own i own ∙ eq-eqb _ _ c.if-space-own.false))
