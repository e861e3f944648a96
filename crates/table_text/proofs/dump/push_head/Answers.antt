use Rattle.std.proofs.Common.{◌≡◌, ℕ, List, [], ◌∷◌, ◌++◌, codes, ap, ◌∙◌, append_assoc}
use Rattle.table_text.specs.Texts.{bounds_text, head_line}
use Rattle.table_text.proofs.dump.push_head.Goals as goal

regrouped : (a b c d : List ℕ) → ((a ++ b) ++ c) ++ d ≡ a ++ ((b ++ c) ++ d)
regrouped a b c d = simp append_assoc

pub returns : goal.returns
unfolding head_line
returns c =
    let settings = bounds_text c.args.pid_max c.args.stamp in
    let first = c.in_ok-extend_from_slice.ensures.items in
    let second = c.in_ok-push_settings.ensures in
    let third = c.in_ok-extend_from_slice-2.ensures.items in
    third ∙ ap (λ (t : List ℕ). t ++ 10 ∷ []) (second ∙ ap (λ (t : List ℕ). t ++ settings) first)
    ∙ regrouped c.args.text.now.items (codes "pidtab table 1") settings (10 ∷ [])
