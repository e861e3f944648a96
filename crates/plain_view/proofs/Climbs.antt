-- A loop that climbs a chain of parents, one step at a time.
use Rattle.std.proofs.Common.{◌≡◌, ℕ, ◌+◌, ◌-◌, ◌<◌, ◌∷◌, [], ◌++◌, Option, Some, None, List, sym, ap, ◌∙◌, subst, arith, append_assoc}
use Rattle.std.proofs.lemmas.List.{append-nil}
use Rattle.std.specs.Option.{option_map_or}
use Rattle.pid_types.proofs.Ancestors.{climb-step}
use Rattle.pid_types.specs.Chains.{climb}

-- what is climbed so far, with what is left to climb, is the whole chain after a step too
pub climb_more : (f : ℕ → Option ℕ) (limit : ℕ) (path whole : List ℕ) (count at : ℕ) (next : Option ℕ) → count < limit → next ≡ Some at
    → path ++ option_map_or (climb f (limit - count)) next [] ≡ whole → (path ++ at ∷ []) ++ option_map_or (climb f (limit - (count + 1))) (f at) [] ≡ whole
climb_more f limit path whole count at next l is h =
    append_assoc path (at ∷ []) _
    ∙ ap (λ ids. path ++ ids) (sym (climb-step f (limit - count) (limit - (count + 1)) at (omega arith)))
    ∙ subst (λ o. path ++ option_map_or (climb f (limit - count)) o [] ≡ whole) is h

-- at the top of the chain it is whole
pub climbed_to_top : (f : ℕ → Option ℕ) (path whole : List ℕ) (n : ℕ) (next : Option ℕ) → next ≡ None → path ++ option_map_or (climb f n) next [] ≡ whole → path ≡ whole
climbed_to_top f path whole n next is h = sym (append-nil path) ∙ subst (λ o. path ++ option_map_or (climb f n) o [] ≡ whole) is h

-- after as many steps as are allowed it is whole
pub climbed_to_limit : (f : ℕ → Option ℕ) (path whole : List ℕ) (n : ℕ) (next : Option ℕ) → n ≡ 0 → path ++ option_map_or (climb f n) next [] ≡ whole → path ≡ whole
unfolding climb
climbed_to_limit f path whole n None e h = sym (append-nil path) ∙ h
climbed_to_limit f path whole n (Some x) e h = sym (append-nil path) ∙ subst (λ m. path ++ climb f m x ≡ whole) e h
