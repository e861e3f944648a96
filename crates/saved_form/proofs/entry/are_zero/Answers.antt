use Rattle.std.proofs.Common.{◌≡◌, ℕ, ◌+◌, ◌-◌, ◌<◌, List, [], ◌∷◌, ◌++◌, take, drop, length, get_or, replicate, Bool, true, ◌&&◌, nat_eq, ap, sym, ◌∙◌, arith, ◌↔◌}
use Rattle.std.proofs.lemmas.List.{take_more, get_or-drop, length-drop, replicate_more}
use Rattle.std.proofs.lemmas.Bool.{eqb-true, eq-eqb}
use Rattle.saved_form.proofs.Tests.{one_more_same}
use Rattle.saved_form.proofs.entry.are_zero.Goals as goal

zeroes_more : (b : Bool) (rest : List ℕ) (n m x : ℕ) → m ≡ n + 1 → n < length rest → get_or rest n 0 ≡ x
    → ((b ≡ true) ↔ (take n rest ≡ replicate n 0)) → ((b && nat_eq x 0) ≡ true) ↔ (take m rest ≡ replicate m 0)
zeroes_more b rest n m x next within item same =
    let step = one_more_same b (nat_eq x 0) (take n rest) (replicate n 0) x 0 same (eqb-true x 0, eq-eqb x 0) in
    let more : take m rest ≡ take n rest ++ x ∷ [] =
    ap (λ k. take k rest) next ∙ take_more rest n 0 within ∙ ap (λ y. take n rest ++ y ∷ []) item in
    let zeroes : replicate m 0 ≡ replicate n 0 ++ 0 ∷ [] = ap (λ k. replicate {A = ℕ} k 0) next ∙ sym (replicate_more n 0) in
    ((λ h. more ∙ step.0 h ∙ sym zeroes), (λ h. step.1 (sym more ∙ h ∙ zeroes)))

pub loop-i-preserved : goal.loop-i-preserved
loop-i-preserved c =
    let levels : List ℕ = c.args.levels.now in
    let at : c.args.from + (c.loop-i.i - c.args.from) ≡ c.loop-i.i = omega arith in
    zeroes_more c.loop-i.zero (drop c.args.from levels) (c.loop-i.i - c.args.from) (c.loop-i.i + 1 - c.args.from) (get_or levels c.loop-i.i 0)
    (omega arith) (omega (arith, length-drop c.args.from levels, c.told-levels))
    (get_or-drop c.args.from levels (c.loop-i.i - c.args.from) 0 ∙ ap (λ k. get_or levels k 0) at) c.loop-i.invariant
