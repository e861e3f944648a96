use Rattle.std.proofs.Common.{sym, ◌∙◌, arith}
use Rattle.process_threads.proofs.Told as told
use Rattle.process_threads.proofs.Threads.has_thread.Goals as goal

pub returns-then-process-keys-clause-none : goal.returns-then-process-keys-clause-none
returns-then-process-keys-clause-none c off =
    told.nobody _ _ _ _ c.self.view_is c.self.invariant.rooms c.args.process c.first.result c.first.ensures (sym c.is_some.ensures ∙ off)

pub returns-then-process-keys-clause-some : goal.returns-then-process-keys-clause-some
returns-then-process-keys-clause-some c on =
    told.somebody _ _ _ _ c.self.view_is c.self.invariant.rooms c.args.process c.first.result c.first.ensures (sym c.is_some.ensures ∙ on)

pub returns-else-process-keys-clause-none : goal.returns-else-process-keys-clause-none
returns-else-process-keys-clause-none c off k mine =
    let low = c.self.invariant.known k c.args.process (sym (told.process_is _ _ _ _ c.self.view_is c.self.invariant.rooms k) ∙ mine) in
    let keys = c.keys.ensures in
    let past = c.if-process-keys.false in
    omega (arith, low, keys, past)
