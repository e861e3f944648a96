use Rattle.std.proofs.Common.{◌+◌, ◌++◌, ap, arith, subst}
use Rattle.std.proofs.lemmas.Grind.{common_steps}
use Rattle.std.specs.List.{flat_map}
use Rattle.table_text.specs.Texts.{task_text_line}
use Rattle.translate.proofs.Walks.{all-from}
use Rattle.pid_types.specs.Membership.{IsIn}
use Rattle.table_text.specs.Ranges.{Each}
use Rattle.table_text.specs.Reading.{IsHeldRow}
use Rattle.table_lines.proofs.Held.{held-from}
use Rattle.table_lines.proofs.dump.push_tasks.Goals as goal

pub loop-number-init : goal.loop-number-init
loop-number-init c = record {
  walk = ap (λ rows. c.args.text.now.items ++ flat_map task_text_line rows) (all-from c.args.table.now.rows);
  held = λ each. subst (Each IsHeldRow) (all-from c.args.table.now.rows) each;
  below = omega arith;
}

pub loop-number-preserved : goal.loop-number-preserved
loop-number-preserved c = record {
  walk = grind (arith, common_steps);
  held = λ each. c.loop-number.invariant.held (held-from c.args.table.now c.loop-number.from (c.in-Some.number + 1) c.next_row.new.row c.laws.ensures c.in-Some.ensures.next c.row_fits.ensures each);
  below = omega (arith, c.in-Some.ensures.above);
}

pub returns-clause-held : goal.returns-clause-held
returns-clause-held c = c.loop-number.invariant.held (λ y j. absurd (subst (IsIn y) (c.next_row.ensures.none c.in_default.is) j))
