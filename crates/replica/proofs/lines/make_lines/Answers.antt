use Rattle.std.proofs.Common.{◌≡◌, ◌++◌, ◌∙◌, None, rules, subst}
use Rattle.std.proofs.lemmas.Result.{err_from_is_err_and, on_err_weaker}
use Rattle.sha2.specs.Hashers.{Holds256}
use Rattle.pid_script.specs.Reading.{cut, parsed}
use Rattle.pid_script.specs.Script.{with_newline}
use Rattle.replica.proofs.Parted.{shorter}
use Rattle.replica.proofs.Written.{on_ok}
use Rattle.replica.specs.Replicas.{answer_to}
use Rattle.replica.proofs.Turns.{front_step, front_cut, front_last, after_more, answers_more, dialogue_more, after_last, answers_last, dialogue_last}
use Rattle.replica.proofs.lines.make_lines.Goals as goal

pub loop-line-smaller : goal.loop-line-smaller
loop-line-smaller c = shorter c.loop-line.rest.now c.in-Some.line.now c.in-Some.after.now c.in-Some.ensures

pub loop-line-preserved : goal.loop-line-preserved
loop-line-preserved c =
    let now = c.loop-line.table in
    let next = c.make_line.new.table in
    let bs = c.loop-line.rest.now in
    let line = c.in-Some.line.now in
    let after = c.in-Some.after.now in
    let made = c.in_ok-make_line.ensures in
    record {
      after = after_more now next bs line after made.after c.in-Some.ensures ∙ c.loop-line.invariant.after;
      front = λ t front. c.loop-line.invariant.front t (front_step now next bs line after made.after c.in-Some.ensures t front);
      answer =
          answers_more now next bs line after made.after c.in-Some.ensures c.loop-line.answers.items c.make_line.new.answers.items made.answer
          ∙ c.loop-line.invariant.answer;
      hashed = λ m held.
          let before = c.loop-line.invariant.hashed m held in (
            (before.0 ++ with_newline line) ++ with_newline (answer_to now (parsed line)),
            made.hashed before.0 before.1,
            dialogue_more now next bs line after made.after c.in-Some.ensures before.0 ∙ before.2,
          );
    }

pub returns-in_err-make_line-clause-err : goal.returns-in_err-make_line-clause-err
returns-in_err-make_line-clause-err c =
    let p = err_from_is_err_and c.from_residual.result c.from_residual.ensures.1 in
    rw p.1 (c.loop-line.invariant.front c.make_line.new.table (front_cut c.loop-line.table c.make_line.new.table c.loop-line.rest.now c.in-Some.line.now c.in-Some.after.now c.in-Some.ensures c.in_err-make_line.ensures.err))

pub returns-clause-err : goal.returns-clause-err
returns-clause-err c =
    let none : None ≡ cut 10 c.loop-line.rest.now = search rules in
    on_err_weaker c.make_line-2.result
    (λ front. c.loop-line.invariant.front c.make_line-2.new.table (front_last c.loop-line.table c.make_line-2.new.table c.loop-line.rest.now none front)) c.make_line-2.ensures.err

pub returns-clause-after : goal.returns-clause-after
returns-clause-after c =
    let none : None ≡ cut 10 c.loop-line.rest.now = search rules in
    let now = c.loop-line.table in
    let next = c.make_line-2.new.table in
    on_ok c.make_line-2.result (λ step. after_last now next c.loop-line.rest.now none step ∙ c.loop-line.invariant.after) c.make_line-2.ensures.after

pub returns-clause-answer : goal.returns-clause-answer
returns-clause-answer c =
    let none : None ≡ cut 10 c.loop-line.rest.now = search rules in
    let now = c.loop-line.table in
    on_ok c.make_line-2.result
    (λ is. answers_last now now c.loop-line.rest.now none c.loop-line.answers.items c.make_line-2.new.answers.items is ∙ c.loop-line.invariant.answer)
    c.make_line-2.ensures.answer

pub returns-clause-hashed : goal.returns-clause-hashed
returns-clause-hashed c =
    let none : None ≡ cut 10 c.loop-line.rest.now = search rules in
    let now = c.loop-line.table in
    on_ok c.make_line-2.result
    (λ hashed m held.
    let before = c.loop-line.invariant.hashed m held in
    subst (Holds256 c.make_line-2.new.hasher) (dialogue_last now now c.loop-line.rest.now none before.0 ∙ before.2) (hashed before.0 before.1))
    c.make_line-2.ensures.hashed
