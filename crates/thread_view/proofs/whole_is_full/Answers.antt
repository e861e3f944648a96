use Rattle.thread_view.proofs.Alone.{full-whole}
use Rattle.thread_view.proofs.whole_is_full.Goals as goal

pub returns : goal.returns
returns c = full-whole c.args.store.now c.requires.alone c.requires
