-- The process that was found, with what is its thread's own, is the model's caller; so the call is the model's
use Rattle.std.proofs.Common.{◌≡◌, ◌∙◌, ◌==◌, false, true, not, Result, Ok, Err, OnOk, OnErr, IfOk, sym, ap, subst}
use Rattle.std.proofs.lemmas.Bool.{eq-eqb}
use Rattle.pid_types.proofs.General.{apart}
use Rattle.pid_types.specs.declared.call.ThreadCall.TheVariants.{NewThread}
use Rattle.pid_types.specs.declared.reply.Refusal.TheVariants.{Elsewhere}
use Rattle.pid_types.specs.State.{State}
use Rattle.pid_types.specs.Sound.{IsSound}
use Rattle.pid_types.specs.Outcome.{Outcome, refuse_if}
use Rattle.pid_types.specs.Clone.{thread}
use Rattle.pid_types.specs.Short.{reply_of}
use Rattle.pid_types.specs.ThreadStep.{thread_step}
use Rattle.task_table.specs.View.{name_at, row_of}
use Rattle.task_table.proofs.Newborn.{some_of}
use Rattle.thread_view.specs.Full.{full_state}
use Rattle.fork_calls.specs.Cloning.{thread_there}
use Rattle.fork_calls.proofs.Cloned.{thread-is}
use Rattle.fork_calls.proofs.threads.new_thread.Goals as goal

-- after a call that has an outcome or changes nothing the state is sound
sound_after : {A E : Type 0} (r : Result A E) (before after : State) (o : Outcome) → OnOk r (after ≡ o.state) → OnErr r (after ≡ before) → IsSound o.state → IsSound before → IsSound after
sound_after (Ok a) before after o is same sound stays = subst IsSound (sym is) sound
sound_after (Err e) before after o is same sound stays = subst IsSound (sym same) stays

pub returns-then-id_of-task-clause-state : goal.returns-then-id_of-task-clause-state
returns-then-id_of-task-clause-state c =
    let s = c.args.store.now in
    let caller = c.in-Some.calling in
    let space = (name_at s.numbering caller.process).space in
    let own : c.id_of.result ≡ space = some_of c.id_of.result space (sym c.id_of.ensures ∙ c.in-Some.ensures.id) in
    let differs : (c.calling_task-task.result.children_space == space) ≡ false = apart c.calling_task-task.result.children_space space (λ e. c.if-id_of-task.true (own ∙ sym e)) in
    let is = thread-is s caller c.calling_task-task.result c.args.caller (row_of s caller.process c.in-Some.ensures.task) c.in-Some.ensures.row
    (c.calling_task-task.ensures.row c.args.caller (row_of s caller.process c.in-Some.ensures.task) c.in-Some.ensures c.in-Some.ensures.row) in
    sym (ap (λ (o : Outcome). o.state) (is ∙ ap (λ b. refuse_if (full_state s) (not b) Elsewhere (thread_there s caller.process c.calling_task-task.result)) differs))

pub returns-then-id_of-task-clause-reply : goal.returns-then-id_of-task-clause-reply
returns-then-id_of-task-clause-reply c =
    let s = c.args.store.now in
    let caller = c.in-Some.calling in
    let space = (name_at s.numbering caller.process).space in
    let own : c.id_of.result ≡ space = some_of c.id_of.result space (sym c.id_of.ensures ∙ c.in-Some.ensures.id) in
    let differs : (c.calling_task-task.result.children_space == space) ≡ false = apart c.calling_task-task.result.children_space space (λ e. c.if-id_of-task.true (own ∙ sym e)) in
    let is = thread-is s caller c.calling_task-task.result c.args.caller (row_of s caller.process c.in-Some.ensures.task) c.in-Some.ensures.row
    (c.calling_task-task.ensures.row c.args.caller (row_of s caller.process c.in-Some.ensures.task) c.in-Some.ensures c.in-Some.ensures.row) in
    sym (ap (λ (o : Outcome). o.reply) (is ∙ ap (λ b. refuse_if (full_state s) (not b) Elsewhere (thread_there s caller.process c.calling_task-task.result)) differs))

pub returns-clause-state : goal.returns-clause-state
returns-clause-state c =
    let s = c.args.store.now in
    let caller = c.in-Some.calling in
    let space = (name_at s.numbering caller.process).space in
    let own : c.id_of.result ≡ space = some_of c.id_of.result space (sym c.id_of.ensures ∙ c.in-Some.ensures.id) in
    let same : (c.calling_task-task.result.children_space == space) ≡ true = eq-eqb c.calling_task-task.result.children_space space (sym c.if-id_of-task.false ∙ own) in
    let is = thread-is s caller c.calling_task-task.result c.args.caller (row_of s caller.process c.in-Some.ensures.task) c.in-Some.ensures.row
    (c.calling_task-task.ensures.row c.args.caller (row_of s caller.process c.in-Some.ensures.task) c.in-Some.ensures c.in-Some.ensures.row)
    ∙ ap (λ b. refuse_if (full_state s) (not b) Elsewhere (thread_there s caller.process c.calling_task-task.result)) same in
    subst (λ (o : Outcome). OnOk c.thread_into.result (full_state c.thread_into.new.store ≡ o.state)) (sym is) c.thread_into.ensures.state

pub returns-clause-reply : goal.returns-clause-reply
returns-clause-reply c =
    let s = c.args.store.now in
    let caller = c.in-Some.calling in
    let space = (name_at s.numbering caller.process).space in
    let own : c.id_of.result ≡ space = some_of c.id_of.result space (sym c.id_of.ensures ∙ c.in-Some.ensures.id) in
    let same : (c.calling_task-task.result.children_space == space) ≡ true = eq-eqb c.calling_task-task.result.children_space space (sym c.if-id_of-task.false ∙ own) in
    let is = thread-is s caller c.calling_task-task.result c.args.caller (row_of s caller.process c.in-Some.ensures.task) c.in-Some.ensures.row
    (c.calling_task-task.ensures.row c.args.caller (row_of s caller.process c.in-Some.ensures.task) c.in-Some.ensures c.in-Some.ensures.row)
    ∙ ap (λ b. refuse_if (full_state s) (not b) Elsewhere (thread_there s caller.process c.calling_task-task.result)) same in
    subst (λ (o : Outcome). IfOk c.thread_into.result (λ reply. reply_of reply ≡ o.reply)) (sym is) c.thread_into.ensures.reply

pub returns-clause-full : goal.returns-clause-full
unfolding thread_step
returns-clause-full c = record {
  sound = sound_after c.thread_into.result (full_state c.args.store.now) (full_state c.thread_into.new.store) (thread (full_state c.args.store.now) c.args.caller) (returns-clause-state c) c.thread_into.ensures.err
      (c.threads_keep_soundness.ensures.call (full_state c.args.store.now) (NewThread c.args.caller) c.requires.sound).0 c.requires.sound;
  parents = c.thread_into.ensures.parents;
  processes = c.thread_into.ensures.processes;
}
