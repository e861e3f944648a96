use Rattle.std.proofs.Common.{ap}
use Rattle.pid_types.specs.declared.plain.Row.{Row}
use Rattle.table_text.proofs.rows.write_other_row.Goals as goal

pub write_other_parent-requires-clause-before : goal.write_other_parent-requires-clause-before
write_other_parent-requires-clause-before c = ap (λ (r : Row). r.parent) c.requires.before

pub write_other_name-requires-clause-before : goal.write_other_name-requires-clause-before
write_other_name-requires-clause-before c = ap (λ (r : Row). r.group) c.requires.before

pub write_other_name-requires-2-clause-before : goal.write_other_name-requires-2-clause-before
write_other_name-requires-2-clause-before c = ap (λ (r : Row). r.session) c.requires.before
