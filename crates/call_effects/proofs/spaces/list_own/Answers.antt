use Rattle.std.proofs.Common.{◌≡◌, ◌∙◌, ◌+◌, ◌<◌, ◌++◌, ◌∷◌, [], ℕ, List, ap, append_assoc, flat_map, get_or, length, refl, subst, sym, take}
use Rattle.std.proofs.lemmas.List.{take_all}
use Rattle.translate.specs.Pages.{AreListedFrom}
use Rattle.call_effects.specs.Spaces.{watched_spaces}
use Rattle.call_effects.proofs.Lists.{distinct, listed_more}
use Rattle.call_effects.proofs.spaces.list_own.Goals as goal

pub returns : goal.returns
returns c =
    let all = c.loop-watched.invariant.own ∙ ap (flat_map watched_spaces) (take_all c.loop-watched.watched-index c.args.tasks.now c.loop-watched-test.false) in
    subst (λ ns. AreListedFrom ns 0 c.sort_distinct.new.numbers.items) all (distinct c.loop-watched.ids.items c.sort_distinct.new.numbers.items c.sort_distinct.ensures.sorts)

-- three numbers of one more item
three_more : {X : Type 0} (f : X → List ℕ) (xs : List X) (i : ℕ) (d : X) (ids one two three : List ℕ) (a b c : ℕ) → i < length xs
    → f (get_or xs i d) ≡ a ∷ b ∷ c ∷ [] → ids ≡ flat_map f (take i xs)
    → one ≡ ids ++ a ∷ [] → two ≡ one ++ b ∷ [] → three ≡ two ++ c ∷ [] → three ≡ flat_map f (take (i + 1) xs)
three_more f xs i d ids one two three a b c here is own first second third =
    listed_more f [] xs i d ids three here own (third ∙ ap (λ l. l ++ c ∷ []) (second ∙ ap (λ l. l ++ b ∷ []) first)
    ∙ append_assoc (ids ++ a ∷ []) (b ∷ []) (c ∷ []) ∙ append_assoc ids (a ∷ []) (b ∷ c ∷ []) ∙ ap (λ l. ids ++ l) (sym is))

pub loop-watched-preserved : goal.loop-watched-preserved
loop-watched-preserved c = record {
  own = three_more watched_spaces c.args.tasks.now c.loop-watched.watched-index _ c.loop-watched.ids.items _ _ _ _ _ _
      c.loop-watched-test.true refl c.loop-watched.invariant.own
      c.in_ok-push.ensures.items c.in_ok-push-2.ensures.items c.in_ok-push-3.ensures.items;
}
