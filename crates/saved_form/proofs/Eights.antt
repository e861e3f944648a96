-- Lists of eight.
use Rattle.std.proofs.Common.{◌≡◌, ℕ, List, [], ◌∷◌, ◌++◌, length, get_or, refl, ap, ◌∙◌, arith}
use Rattle.std.proofs.lemmas.List.{append_assoc, append-nil}

-- the items of a list of eight, with those of another behind them
pub eight_items : (xs ys : List ℕ) → length xs ≡ 8
    → get_or xs 0 0 ∷ get_or xs 1 0 ∷ get_or xs 2 0 ∷ get_or xs 3 0 ∷ get_or xs 4 0 ∷ get_or xs 5 0 ∷ get_or xs 6 0 ∷ get_or xs 7 0 ∷ ys ≡ xs ++ ys
eight_items [] ys e = absurd (omega arith)
eight_items (b0 ∷ []) ys e = absurd (omega arith)
eight_items (b0 ∷ b1 ∷ []) ys e = absurd (omega arith)
eight_items (b0 ∷ b1 ∷ b2 ∷ []) ys e = absurd (omega arith)
eight_items (b0 ∷ b1 ∷ b2 ∷ b3 ∷ []) ys e = absurd (omega arith)
eight_items (b0 ∷ b1 ∷ b2 ∷ b3 ∷ b4 ∷ []) ys e = absurd (omega arith)
eight_items (b0 ∷ b1 ∷ b2 ∷ b3 ∷ b4 ∷ b5 ∷ []) ys e = absurd (omega arith)
eight_items (b0 ∷ b1 ∷ b2 ∷ b3 ∷ b4 ∷ b5 ∷ b6 ∷ []) ys e = absurd (omega arith)
eight_items (b0 ∷ b1 ∷ b2 ∷ b3 ∷ b4 ∷ b5 ∷ b6 ∷ b7 ∷ []) ys e = refl
eight_items (b0 ∷ b1 ∷ b2 ∷ b3 ∷ b4 ∷ b5 ∷ b6 ∷ b7 ∷ b8 ∷ xs) ys e = absurd (omega arith)

regroup : (a b c d e : List ℕ) → a ++ (b ++ (c ++ (d ++ (e ++ [])))) ≡ a ++ b ++ c ++ d ++ e
regroup a b c d e = simp (append_assoc, append-nil)

pub five_eights : (a b c d e : List ℕ) → length a ≡ 8 → length b ≡ 8 → length c ≡ 8 → length d ≡ 8 → length e ≡ 8
    → get_or a 0 0 ∷ get_or a 1 0 ∷ get_or a 2 0 ∷ get_or a 3 0 ∷ get_or a 4 0 ∷ get_or a 5 0 ∷ get_or a 6 0 ∷ get_or a 7 0 ∷ (get_or b 0 0 ∷ get_or b 1 0 ∷ get_or b 2 0 ∷ get_or b 3 0 ∷ get_or b 4 0 ∷ get_or b 5 0 ∷ get_or b 6 0 ∷ get_or b 7 0 ∷ (get_or c 0 0 ∷ get_or c 1 0 ∷ get_or c 2 0 ∷ get_or c 3 0 ∷ get_or c 4 0 ∷ get_or c 5 0 ∷ get_or c 6 0 ∷ get_or c 7 0 ∷ (get_or d 0 0 ∷ get_or d 1 0 ∷ get_or d 2 0 ∷ get_or d 3 0 ∷ get_or d 4 0 ∷ get_or d 5 0 ∷ get_or d 6 0 ∷ get_or d 7 0 ∷ (get_or e 0 0 ∷ get_or e 1 0 ∷ get_or e 2 0 ∷ get_or e 3 0 ∷ get_or e 4 0 ∷ get_or e 5 0 ∷ get_or e 6 0 ∷ get_or e 7 0 ∷ []))))
    ≡ a ++ b ++ c ++ d ++ e
five_eights a b c d e la lb lc ld le =
    eight_items a _ la
    ∙ ap (λ xs. a ++ xs) (eight_items b _ lb ∙ ap (λ xs. b ++ xs) (eight_items c _ lc ∙ ap (λ xs. c ++ xs) (eight_items d _ ld
    ∙ ap (λ xs. d ++ xs) (eight_items e [] le))))
    ∙ regroup a b c d e
