-- Who calls is the model's caller, by the same thread; so one thread less is the model's leave
use Rattle.std.proofs.Common.{◌≡◌, ◌∙◌, ℕ, ◌==◌, Option, Some, None, false, not, unwrap_or, refl, sym, ap, subst}
use Rattle.pid_types.specs.declared.call.ThreadCall.TheVariants.{Leave}
use Rattle.pid_types.specs.declared.plain.Thread.{Thread as ThreadRow}
use Rattle.pid_types.specs.Sound.{IsSound}
use Rattle.pid_types.specs.Outcome.{Outcome}
use Rattle.pid_types.specs.Leave.{leave}
use Rattle.pid_types.specs.Threads.{running, thread_at}
use Rattle.pid_types.specs.ThreadStep.{thread_step}
use Rattle.model_laws.proofs.Callers.{thread_at-Some}
use Rattle.pid_numbers.specs.Numbering.{number_of}
use Rattle.task_table.specs.Store.{Store, IsThreaded}
use Rattle.task_table.specs.View.{row_of}
use Rattle.task_table.specs.Lawful.{IsLawful}
use Rattle.thread_view.specs.Full.{thread_row_of, full_state}
use Rattle.thread_view.specs.Calling.{IsBy}
use Rattle.thread_view.proofs.Threads.{rooted-as, thread-named}
use Rattle.thread_ends.proofs.Leaves.{leave-nobody, leave-other, leave-first}
use Rattle.thread_ends.proofs.leave_beside.Goals as goal

-- the thread that calls has the number, and is the model's
by_other : (s : Store) → IsLawful s → IsThreaded s.numbering s.threads → (n process key : ℕ) (o : Option ℕ) → o ≡ Some key → IsBy s n process o
    → (x : ThreadRow) × (thread_at (full_state s) n ≡ Some x) × (number_of s.numbering key 0 ≡ Some n)
by_other s l w n process key None e by = absurd (cc)
by_other s l w n process key (Some k) e by =
    let same : k ≡ key = ap (λ o. unwrap_or o k) e in
    let u = thread-named s l w k by.0 by.1 in
    let root = (thread_at-Some (full_state s) n (thread_row_of s k by.0) by.3).1 in
    (thread_row_of s k by.0, by.3, subst (λ j. number_of s.numbering j 0 ≡ Some n) same (rooted-as s l k n u.0 u.1 root))

by_first : (s : Store) (n process : ℕ) (o : Option ℕ) → o ≡ None → IsBy s n process o → thread_at (full_state s) n ≡ None
by_first s n process None e by = by.0
by_first s n process (Some k) e by = absurd (cc)

pub returns-in_default-clause-left : goal.returns-in_default-clause-left
returns-in_default-clause-left c status =
    let is = leave-nobody (full_state c.args.store.now) c.args.caller status c.in_default.ensures in
    (sym (ap (λ (o : Outcome). o.state) is), sym (ap (λ (o : Outcome). o.reply) is))

pub returns-then-not-runs_beside-clause-left : goal.returns-then-not-runs_beside-clause-left
returns-then-not-runs_beside-clause-left c =
    let s = c.args.store.now in
    let by = c.in-Some.ensures in
    let row = row_of s c.in-Some.calling.process by.task in
    (refl, (row, by.row, c.runs_beside.ensures.told c.args.caller row by by.row ∙ ap not c.if-not-runs_beside.true))

pub returns-in-Some-thread-clause-left : goal.returns-in-Some-thread-clause-left
returns-in-Some-thread-clause-left c status =
    let s = c.args.store.now in
    let by = c.in-Some.ensures in
    let row = row_of s c.in-Some.calling.process by.task in
    let beside : (running (full_state s) row == 1) ≡ false = c.runs_beside.ensures.told c.args.caller row by by.row ∙ ap not c.if-not-runs_beside.false in
    let t = by_other s c.laws.ensures c.thread_laws.ensures c.args.caller c.in-Some.calling.process c.in-Some-thread.key c.in-Some.calling.thread c.in-Some-thread.is by.thread in
    let is = leave-other (full_state s) c.args.caller status row by.row beside t.0 t.1 in
    (c.leave_other.ensures.state c.args.caller t.2 ∙ sym (ap (λ (o : Outcome). o.state) is), sym (ap (λ (o : Outcome). o.reply) is))

pub returns-in-Some-thread-clause-full : goal.returns-in-Some-thread-clause-full
unfolding thread_step
returns-in-Some-thread-clause-full c = record {
  sound = subst IsSound (sym (returns-in-Some-thread-clause-left c 0).0) (c.threads_keep_soundness.ensures.call (full_state c.args.store.now) (Leave c.args.caller 0) c.requires.sound).0;
  parents = c.leave_other.ensures.parents;
  processes = c.leave_other.ensures.processes;
}

pub returns-in-None-clause-left : goal.returns-in-None-clause-left
returns-in-None-clause-left c status =
    let s = c.args.store.now in
    let by = c.in-Some.ensures in
    let row = row_of s c.in-Some.calling.process by.task in
    let beside : (running (full_state s) row == 1) ≡ false = c.runs_beside.ensures.told c.args.caller row by by.row ∙ ap not c.if-not-runs_beside.false in
    let is = leave-first (full_state s) c.args.caller status row by.row beside (by_first s c.args.caller c.in-Some.calling.process c.in-Some.calling.thread c.in-None.is by.thread) in
    (c.leave_first.ensures.state by.task by.there ∙ sym (ap (λ (o : Outcome). o.state) is), sym (ap (λ (o : Outcome). o.reply) is))

pub returns-in-None-clause-full : goal.returns-in-None-clause-full
unfolding thread_step
returns-in-None-clause-full c = record {
  sound = subst IsSound (sym (returns-in-None-clause-left c 0).0) (c.threads_keep_soundness.ensures.call (full_state c.args.store.now) (Leave c.args.caller 0) c.requires.sound).0;
  parents = c.leave_first.ensures.parents;
  processes = c.leave_first.ensures.processes;
}
