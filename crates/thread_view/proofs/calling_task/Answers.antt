-- The control group of who runs has a live task, so it stands
use Rattle.std.proofs.Common.{◌≡◌, ◌∙◌, ℕ, Option, Some, None, false, is_some, sym, ap}
use Rattle.process_threads.specs.Threads.{left_at, thread_with}
use Rattle.task_tree.specs.Tree.{lives, task_at}
use Rattle.task_table.specs.Store.{Store}
use Rattle.task_table.proofs.Changes.{in_range}
use Rattle.task_table.proofs.Drawn.{some_of}
use Rattle.task_table.proofs.InUse.{live-home}
use Rattle.task_table.proofs.ThreadChanges.{live_some}
use Rattle.thread_view.specs.Calling.{IsBy}
use Rattle.thread_view.proofs.Threads.{stands-live}
use Rattle.thread_view.proofs.calling_task.Goals as goal

-- a first thread that calls has not left
stays : (s : Store) (n process : ℕ) (o : Option ℕ) → o ≡ None → IsBy s n process o → left_at s.threads process ≡ false
stays s n process None e by = by.1
stays s n process (Some k) e by = absurd (cc)

pub returns-in_default-thread-clause-home : goal.returns-in_default-thread-clause-home
returns-in_default-thread-clause-home c n by =
    let s = c.args.store.now in
    let process = c.args.calling.now.process in
    let at : task_at s.tree process ≡ Some c.in-Some.task = ap (λ t. task_at t process) (sym c.tree.ensures) ∙ sym c.task.ensures ∙ c.in-Some.is in
    live-home s c.laws.ensures process c.in-Some.task at (ap lives (sym (some_of by.task c.in-Some.task (sym by.there ∙ at))) ∙ by.live)
    (stays s n process c.args.calling.now.thread c.in_default-thread.is by.thread)

pub returns-in-Some-thread-2-clause-home : goal.returns-in-Some-thread-2-clause-home
returns-in-Some-thread-2-clause-home c n by =
    let s = c.args.store.now in
    let key = c.in-Some-thread.key in
    let at : thread_with s.threads key ≡ Some c.in-Some-thread-2.thread = ap (λ t. thread_with t key) (sym c.threads.ensures) ∙ sym c.thread.ensures ∙ c.in-Some-thread-2.is in
    stands-live s c.laws.ensures c.in-Some-thread-2.thread.home
    (live_some s c.laws.ensures.agree key c.in-Some-thread-2.thread at (in_range s.threads.threads key (ap is_some at)))
