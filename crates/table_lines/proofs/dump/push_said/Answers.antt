use Rattle.std.proofs.Common.{◌∙◌, ◌++◌, ap, arith, map, subst}
use Rattle.table_text.specs.Ranges.{Each}
use Rattle.table_text.specs.Reading.{IsHeldControl, IsHeldSpace}
use Rattle.table_text.specs.Texts.{head_line, control_shown}
use Rattle.table_lines.proofs.Held.{controls-held}
use Rattle.table_lines.proofs.Parts.{told}
use Rattle.table_lines.proofs.dump.push_said.Goals as goal

pub returns-clause-text : goal.returns-clause-text
returns-clause-text c =
    let head = c.in_ok-push_head.ensures ∙ ap (λ n. c.args.text.now.items ++ head_line n c.args.stamp) c.pid_max.ensures.value in
    let spaces = c.deref-2.ensures.value ∙ c.in_ok-spaces.ensures in
    let controls = c.deref-4.ensures.value ∙ c.in_ok-controls.ensures in
    told _ c.args.table.now c.args.text.now.items _ _ _ _ _ _ head c.in_ok-push_tasks.ensures.text spaces c.in_ok-push_spaces.ensures controls c.in_ok-push_controls.ensures

pub returns-clause-held : goal.returns-clause-held
returns-clause-held c = record {
  rows = c.in_ok-push_tasks.ensures.held;
  threads = c.no_threads.ensures.threads;
  left = c.no_threads.ensures.left;
  spaces = subst (Each IsHeldSpace) (c.deref.ensures.value ∙ c.in_ok-spaces.ensures) c.spaces_fit.ensures;
  controls = controls-held c.args.table.now (subst (λ rows. Each IsHeldControl (map control_shown rows)) (c.deref-3.ensures.value ∙ c.in_ok-controls.ensures) c.controls_fit.ensures);
  pid_max = (let v = c.pid_max.ensures.value in let g = c.pid_max.ensures.good.1 in omega (arith, v, g));
}
