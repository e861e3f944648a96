use Rattle.std.proofs.Common.{◌++◌, ◌∙◌, ℕ, List, ap, subst}
use Rattle.replica.specs.Snapshots.{MayBeOpen, sessions_text}
use Rattle.replica.proofs.Heads.{head_written}
use Rattle.replica.proofs.replica.Replica.write_head.Goals as goal

pub returns-clause-good : goal.returns-clause-good
returns-clause-good c = λ begun. record {
  begun = begun;
  sized = c.show_sizes.ensures;
  sessions = subst MayBeOpen c.sessions.ensures c.in_ok-push_lines.ensures.good;
}

pub returns-clause-text : goal.returns-clause-text
returns-clause-text c =
    let before = c.extend_from_slice-2.new.self.items in
    head_written c.args.self.now c.new-text.result.items c.push_settings.new.text.items c.extend_from_slice.new.self.items c.push_state.new.text.items before
    c.push_lines.new.text.items c.new-text.ensures.items c.in_ok-push_settings.ensures c.in_ok-extend_from_slice.ensures.items c.in_ok-push_state.ensures
    c.in_ok-extend_from_slice-2.ensures.items (c.in_ok-push_lines.ensures.text ∙ ap (λ (s : List (ℕ × ℕ)). before ++ sessions_text s) c.sessions.ensures)
