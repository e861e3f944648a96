use Rattle.std.proofs.Common.{◌≡◌, ◌≤◌, ◌++◌, ℕ, List, Result, length, length-take, take, drop, replicate, sym, ap, subst, ◌∙◌, arith}
use Rattle.std.proofs.lemmas.List.{take-append-drop}
use Rattle.pid_types.specs.declared.reply.Refusal.{Refusal}
use Rattle.pid_types.specs.Written.{told_of, written}
use Rattle.translate.specs.Zeroes.{HasZeroesBehind}
use Rattle.saved_form.specs.declared.numbers.ReplyNumbers.{ReplyNumbers}
use Rattle.foreign_numbers.specs.Numbers.{numbers_of, with_zeroes}
use Rattle.foreign_numbers.proofs.numbers.put_told.Goals as goal

-- numbers in a room that has zeroes behind them
whole : (count : ℕ) (room zeroes : List ℕ) → count ≤ length room → drop count room ≡ drop count zeroes
    → room ≡ take count room ++ drop (length (take count room)) zeroes
whole count room zeroes fits behind =
    sym (take-append-drop count room) ∙ ap (λ l. take count room ++ l) behind
    ∙ ap (λ n. take count room ++ drop n zeroes) {x = count} {y = length (take count room)} (omega (arith, fits, length-take count room))

pub returns-in-Ok : goal.returns-in-Ok
unfolding numbers_of
returns-in-Ok c =
    let count = c.in-Ok.count in
    let levels = c.args.reply.now.levels in
    let listed : ℕ → List ℕ → ReplyNumbers = λ n l. record { kind = 3; errno = 0; refusal = 0; count = n; first = 0; second = 0; levels = l } in
    let fits = subst (λ (told : Result ℕ Refusal). written told ≤ 33) c.in-Ok.is c.requires.fits in
    let zeroes = subst (λ (told : Result ℕ Refusal). HasZeroesBehind told levels) c.in-Ok.is c.requires.zeroes in
    ap (listed count) (whole count levels (replicate 33 0) (omega (arith, fits, c.told-reply)) zeroes)
    ∙ ap (λ n. listed n (with_zeroes (take count levels))) {x = count} {y = length (take count levels)} (omega (arith, fits, c.told-reply, length-take count levels))
    ∙ ap (λ (told : Result ℕ Refusal). numbers_of (told_of told levels)) (sym c.in-Ok.is)

pub returns-in-Err : goal.returns-in-Err
unfolding numbers_of
returns-in-Err c = c.put_refusal.ensures ∙ ap (λ (told : Result ℕ Refusal). numbers_of (told_of told c.args.reply.now.levels)) (sym c.in-Err.is)
