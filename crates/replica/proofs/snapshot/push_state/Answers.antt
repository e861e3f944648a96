use Rattle.std.proofs.Common.{◌++◌, ◌∙◌, ℕ, List, ap, codes, decimal}
use Rattle.hex.specs.Hex.{encode_lower}
use Rattle.replica.proofs.Written.{on_ok}
use Rattle.replica.proofs.Heads.{state_written}
use Rattle.replica.proofs.snapshot.push_state.Goals as goal

pub returns : goal.returns
returns c =
    let log = c.args.replica.now in
    let old = c.args.text.now.items in
    let a = c.push_field.new.text.items in
    let b = c.push_digest.new.text.items in
    let d = c.push_field-2.new.text.items in
    on_ok c.push_field-3.result (λ last.
    state_written log old a b d c.push_field-3.new.text.items
    (c.in_ok-push_field.ensures ∙ ap (λ (n : ℕ). old ++ (codes "position " ++ decimal n)) c.position.ensures)
    (c.in_ok-push_digest.ensures ∙ ap (λ (w : List ℕ). a ++ (codes " digest " ++ encode_lower w)) c.digest.ensures)
    (c.in_ok-push_field-2.ensures ∙ ap (λ (n : ℕ). b ++ (codes " calls " ++ decimal n)) c.calls.ensures)
    (last ∙ ap (λ (n : ℕ). d ++ (codes " sessions " ++ decimal n)) c.session_count.ensures)) c.push_field-3.ensures
