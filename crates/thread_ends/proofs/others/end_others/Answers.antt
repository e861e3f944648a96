use Rattle.std.proofs.Common.{refl, ap, ◌∙◌, inl}
use Rattle.process_threads.specs.Threads.{ThreadsByKey}
use Rattle.task_table.proofs.Changed as changed
use Rattle.task_table.proofs.Less as less
use Rattle.thread_ends.proofs.KeptHomes as homes
use Rattle.thread_ends.proofs.OneProcess.{one-more, one-less, all-ended}
use Rattle.thread_ends.proofs.others.end_others.Goals as goal

pub loop-key-init : goal.loop-key-init
loop-key-init c = record {
  ended = λ k. inl refl;
  left = refl;
  numbers = changed.IsLess-same c.args.store.now.numbering c.laws.ensures.numbering;
  homes = homes.KeepsHomes-refl c.args.store.now.charges;
  tree = refl;
  members = refl;
}

pub loop-key-preserved : goal.loop-key-preserved
loop-key-preserved c =
    let was = c.args.store.now in
    let mid = c.loop-key.store in
    let new = c.end_thread.new.self in
    let so_far = c.loop-key.invariant in
    record {
      ended = one-more c.args.process was.threads mid.threads new.threads so_far.ended c.in-Some.key c.in-Some.thread c.in-Some.ensures.0 c.in-Some.ensures.1 c.end_thread.ensures.threads;
      left = ap (λ (t : ThreadsByKey). t.left) c.end_thread.ensures.threads ∙ so_far.left;
      numbers = less.IsLess-trans was.numbering c.laws.ensures.numbering.full c.laws.ensures.numbering.own mid.numbering new.numbering so_far.numbers c.end_thread.ensures.numbers;
      homes = homes.KeepsHomes-trans was.charges mid.charges new.charges so_far.homes (homes.uncharged-keeps mid.charges new.charges c.in-Some.thread.home c.end_thread.ensures.home);
      tree = c.end_thread.ensures.rest.0 ∙ so_far.tree;
      members = c.end_thread.ensures.rest.1 ∙ so_far.members;
    }

pub loop-key-smaller : goal.loop-key-smaller
loop-key-smaller c =
    one-less c.args.process c.args.store.now.threads c.loop-key.store.threads c.end_thread.new.self.threads c.loop-key.invariant.ended c.in-Some.key c.in-Some.thread c.in-Some.ensures.0 c.in-Some.ensures.1 c.end_thread.ensures.threads

pub returns-clause-threads : goal.returns-clause-threads
returns-clause-threads c = all-ended c.args.process c.args.store.now.threads c.loop-key.store.threads c.loop-key.invariant.ended c.in_default.ensures
