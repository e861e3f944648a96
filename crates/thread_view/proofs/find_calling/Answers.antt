use Rattle.std.proofs.Common.{◌≡◌, ◌∙◌, Some, None, true, false, ◌&&◌, not, sym, ap}
use Rattle.pid_numbers.specs.Numbering.{number_of}
use Rattle.process_threads.specs.Threads.{left_at, thread_with, thread_process}
use Rattle.task_tree.specs.Tree.{has_live, task_at}
use Rattle.task_table.specs.View.{row_of}
use Rattle.task_table.proofs.LookUps.{live-there}
use Rattle.thread_view.proofs.Threads.{no-thread, process-there}
use Rattle.thread_view.proofs.Callers.{first-calls, other-calls, nobody-calls, ended-calls, thread-at, thread-none, left-ended, dead-ended, thread-with, thread-without}
use Rattle.thread_view.proofs.find_calling.Goals.{else-is_live_at-via-then-is_live_at+else-not-has_left, else-is_live_at-via-else-is_live_at}
use Rattle.thread_view.proofs.find_calling.Goals as goal

pub returns-in_default : goal.returns-in_default
returns-in_default c =
    nobody-calls c.args.store.now c.laws.ensures c.thread_laws.ensures c.requires c.args.number (λ k on. c.in_default.ensures k (ap (λ b. number_of b k 0) c.numbers.ensures ∙ on))

pub returns-then-not-has_left : goal.returns-then-not-has_left
returns-then-not-has_left c =
    let s = c.args.store.now in
    let l = c.laws.ensures in
    let w = c.thread_laws.ensures in
    let n = c.args.number in
    let key = c.in-Some.key in
    let here : number_of s.numbering key 0 ≡ Some n = ap (λ b. number_of b key 0) (sym c.numbers.ensures) ∙ c.in-Some.ensures in
    let found = live-there (task_at s.tree key) (ap (λ t. has_live (task_at t key)) (sym c.tree.ensures) ∙ sym c.is_live_at.ensures ∙ c.if-is_live_at.true) in
    let stays : left_at s.threads key ≡ false = ap (λ t. left_at t key) (sym c.threads.ensures) ∙ sym c.has_left.ensures ∙ c.if-not-has_left.true in record {
      task = found.0;
      there = found.1;
      live = found.2;
      row = first-calls s l w c.requires n key found.0 found.1 here found.2 stays;
      thread = (thread-none s l w c.requires n key here (no-thread s l w key found.0 found.1), stays);
      own = c.own_space.ensures.own;
      id = c.own_space.ensures.id;
    }

pub returns-in_default-process : goal.returns-in_default-process
returns-in_default-process c =
    let s = c.args.store.now in
    let key = c.in-Some.key in
    let here : number_of s.numbering key 0 ≡ Some c.args.number = ap (λ b. number_of b key 0) (sym c.numbers.ensures) ∙ c.in-Some.ensures in
    let none : thread_process s.threads key ≡ None = ap (λ t. thread_process t key) (sym c.threads-2.ensures) ∙ sym c.process.ensures ∙ c.in_default-process.is in
    let ended : (has_live (task_at s.tree key) && not (left_at s.threads key)) ≡ false = elim c.else-is_live_at.branch [
      | else-is_live_at-via-then-is_live_at+else-not-has_left v ↦
          left-ended (has_live (task_at s.tree key)) (left_at s.threads key) (ap (λ t. left_at t key) (sym v.threads.ensures) ∙ sym v.has_left.ensures ∙ v.if-not-has_left.false)
      | else-is_live_at-via-else-is_live_at v ↦
          dead-ended (has_live (task_at s.tree key)) (not (left_at s.threads key))
          (ap (λ t. has_live (task_at t key)) (sym c.tree.ensures) ∙ sym c.is_live_at.ensures ∙ v.if-is_live_at.false)
    ] in
    ended-calls s c.laws.ensures c.thread_laws.ensures c.requires c.args.number key here (thread-without (thread_with s.threads key) none) ended

pub returns : goal.returns
returns c =
    let s = c.args.store.now in
    let l = c.laws.ensures in
    let w = c.thread_laws.ensures in
    let n = c.args.number in
    let key = c.in-Some.key in
    let here : number_of s.numbering key 0 ≡ Some n = ap (λ b. number_of b key 0) (sym c.numbers.ensures) ∙ c.in-Some.ensures in
    let t = thread-with (thread_with s.threads key) c.in-Some-process.process
    (ap (λ t. thread_process t key) (sym c.threads-2.ensures) ∙ sym c.process.ensures ∙ c.in-Some-process.is) in
    let v = process-there s l c.requires key t.0 t.1 in record {
      task = v.0;
      there = ap (task_at s.tree) (sym t.2) ∙ v.1;
      live = v.2;
      row = other-calls s l w c.requires n key t.0 v.0 t.1 here v.1 v.2 ∙ ap (λ q. Some (row_of s q v.0)) t.2;
      thread = (t.0, t.1, t.2, thread-at s l w c.requires n key t.0 t.1 here);
      own = c.own_space-2.ensures.own;
      id = c.own_space-2.ensures.id;
    }
