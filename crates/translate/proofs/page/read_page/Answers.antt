use Rattle.std.proofs.Common.{refl, rules}
use Rattle.pid_types.specs.declared.reply.Reply.TheVariants.{Counted}
use Rattle.task_table.specs.View.{state_of}
use Rattle.translate.proofs.SeenPages.{told_seen}
use Rattle.translate.proofs.page.read_page.Goals as goal

pub returns-clause-seen : goal.returns-clause-seen
returns-clause-seen c =
    told_seen (state_of c.args.store.now) refl refl c.args.page.now c.args.room.now c.put_front.new.room (Counted c.len.result) (search rules)
