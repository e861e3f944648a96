use Rattle.std.proofs.Common.{rules}
use Rattle.std.proofs.lemmas.Fn.{filter_same}
use Rattle.plain_table.proofs.edit.keep.Goals as goal

pub returns-clause-kept : goal.returns-clause-kept
returns-clause-kept g c = filter_same _ (g.P.Test.passes c.args.passing.now) _ (λ x b f' h. let k = h.called in let s = h.shows in search (rules, k, s)) _ _ c.retain.ensures.filtered
