use Rattle.std.proofs.Common.{◌≡◌, ◌∙◌, ◌+◌, ◌<◌, ◌≤◌, ℕ, ◌∷◌, ◌++◌, [], suc, List, length, map, take, drop, sym, ap, arith}
use Rattle.std.proofs.Math.ListN.{get_or-map}
use Rattle.std.proofs.Math.Seq.{take-suc}
use Rattle.std.proofs.lemmas.Grind.{common_steps}
use Rattle.std.proofs.lemmas.List.{drop-drop, drop-set-lt, length-map, take_more_set}
use Rattle.std.specs.Prelude.{min}
use Rattle.translate.specs.Pages.{with_front}
use Rattle.foreign_numbers.specs.Effects.{effect_numbers}
use Rattle.foreign_numbers.specs.declared.effects.EffectNumbers.{EffectNumbers}
use Rattle.foreign_calls.proofs.effects.put_front.Goals as goal

-- what the loop has told is the front
fronted : {X Y : Type 0} (all : List X) (told room old : List Y) (count place : ℕ) → length told ≡ length all → count ≡ min (length all) (length old) → count ≤ place → place ≤ count
    → length room ≡ length old → take place room ≡ take place told → drop place room ≡ drop place old → room ≡ with_front told old
fronted all told room old count place many is past within long front behind = grind (arith, common_steps)

pub loop-place-preserved : goal.loop-place-preserved
loop-place-preserved c =
    let i = c.loop-place.place in
    let room = c.loop-place.room in
    let y = c.tell_effect.result in
    let told = map effect_numbers c.args.effects.now in
    let below = c.loop-place-test.true in
    let few = c.min-count.ensures in
    let same = c.loop-place.auto.room in
    let all = length-map c.args.effects.now effect_numbers in
    let at : i < length room = omega (arith, below, few, same) in
    let of : i < length told = omega (arith, below, few, all) in
    let more : i + 1 ≡ suc i = omega arith in
    record {
      told = take_more_set room i y at ∙ ap (λ es. es ++ y ∷ []) c.loop-place.invariant.told
          ∙ ap (λ (z : EffectNumbers). take i told ++ z ∷ []) (c.tell_effect.ensures ∙ sym (get_or-map effect_numbers c.args.effects.now i _))
          ∙ sym (ap (λ j. take j told) more ∙ take-suc told i _ of);
      behind = drop-set-lt (i + 1) room i y (omega arith) ∙ sym (drop-drop 1 i room)
          ∙ ap (λ (rs : List EffectNumbers). drop 1 rs) c.loop-place.invariant.behind ∙ drop-drop 1 i c.args.room.now;
    }

pub returns : goal.returns
returns c =
    let told = map effect_numbers c.args.effects.now in
    fronted c.args.effects.now told c.loop-place.room c.args.room.now c.min-count.result c.loop-place.place (length-map c.args.effects.now effect_numbers)
    c.min-count.ensures c.loop-place-test.false c.loop-place.auto.place-end c.loop-place.auto.room c.loop-place.invariant.told c.loop-place.invariant.behind
