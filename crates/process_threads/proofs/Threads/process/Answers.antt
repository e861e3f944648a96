use Rattle.std.proofs.Common.{None, sym, ◌∙◌, arith}
use Rattle.std.proofs.lemmas.List.{get_or_past}
use Rattle.process_threads.proofs.Told as told
use Rattle.process_threads.proofs.Threads.process.Goals as goal

pub returns-then-key-keys : goal.returns-then-key-keys
returns-then-key-keys c = c.owner.ensures ∙ sym (told.process_is _ _ _ _ c.self.view_is c.self.invariant.rooms c.args.key)

pub returns-else-key-keys : goal.returns-else-key-keys
returns-else-key-keys c =
    let keys = c.keys.ensures in
    let past = c.if-key-keys.false in
    sym (told.process_is _ _ _ _ c.self.view_is c.self.invariant.rooms c.args.key ∙ get_or_past c.self.inside.lists c.args.key None (omega (arith, keys, past)))
