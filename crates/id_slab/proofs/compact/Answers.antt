use Rattle.std.proofs.Common.{rules}
use Rattle.id_slab.proofs.Lives as lives
use Rattle.id_slab.proofs.compact.Goals as goal
use Rattle.std.proofs.lemmas.Fn.{filter_same}

pub returns-clause-rise : goal.returns-clause-rise
returns-clause-rise c =
    let kept = filter_same _ lives.has_key _ (λ x b f' called. search rules) _ _ c.retain.ensures.filtered in
    rw kept (lives.Rise-kept c.args.entries.now.items c.requires)

pub returns-clause-live : goal.returns-clause-live
returns-clause-live c =
    let kept = filter_same _ lives.has_key _ (λ x b f' called. search rules) _ _ c.retain.ensures.filtered in
    rw kept (lives.live-kept c.args.entries.now.items)
