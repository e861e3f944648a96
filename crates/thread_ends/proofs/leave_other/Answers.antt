use Rattle.std.proofs.Common.{◌∙◌, sym, ap}
use Rattle.process_threads.specs.Threads.{thread_with}
use Rattle.task_table.specs.Store.{IsThread}
use Rattle.thread_ends.proofs.OtherLeft.{other-left}
use Rattle.thread_ends.proofs.leave_other.Goals as goal

pub returns-clause-state : goal.returns-clause-state
returns-clause-state c n has =
    let s = c.args.store.now in
    let there : IsThread s.threads c.args.key c.in-Some.thread = ap (λ t. thread_with t c.args.key) (sym c.threads.ensures) ∙ sym c.thread.ensures ∙ c.in-Some.is in
    other-left s c.end_thread.new.self c.laws.ensures c.laws-2.ensures c.thread_laws.ensures c.thread_laws-2.ensures c.requires.full.processes c.requires.full.parents
    c.args.key n c.in-Some.thread there has c.end_thread.ensures.threads c.end_thread.ensures.gone c.end_thread.ensures.names c.end_thread.ensures.numbers c.end_thread.ensures.home c.end_thread.ensures.rest
