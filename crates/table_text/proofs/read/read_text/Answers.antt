-- Where the reader of one list gives up, the lists before it are read: so the text is of no state
use Rattle.std.proofs.Common.{arith}
use Rattle.std.proofs.lemmas.Result.{err_from_is_err_and}
use Rattle.table_text.proofs.Whole.{no_text_tasks, no_text_spaces, no_text_controls, no_text_end}
use Rattle.std.proofs.lemmas.Grind.{common_steps}
use Rattle.table_text.specs.Texts.{text_of, dump_text}
use Rattle.table_text.proofs.read.read_text.Goals as goal

pub returns-in_err-rows-clause-err : goal.returns-in_err-rows-clause-err
returns-in_err-rows-clause-err c =
    let p = err_from_is_err_and c.from_residual.result c.from_residual.ensures.1 in
    rw (p.1, p.2) (λ other stamp state word held is.
    no_text_tasks c.args.text.now stamp state word held is
    c.read_head.new.at _ _ c.in-Some.ensures.read.within c.in-Some.ensures.read.read c.in-Some.ensures.read.words.0 c.in-Some.ensures.read.words.1
    (c.in_err-rows.ensures.missing other))

pub returns-in_err-spaces-clause-err : goal.returns-in_err-spaces-clause-err
returns-in_err-spaces-clause-err c =
    let p = err_from_is_err_and c.from_residual-in_err-spaces.result c.from_residual-in_err-spaces.ensures.1 in
    rw (p.1, p.2) (λ other stamp state word held is.
    no_text_spaces c.args.text.now stamp state word held is
    c.read_head.new.at _ _ c.in-Some.ensures.read.within c.in-Some.ensures.read.read c.in-Some.ensures.read.words.0 c.in-Some.ensures.read.words.1
    c.read_tasks.new.at _ c.in_ok-rows.ensures.read.within c.in_ok-rows.ensures.read.read c.in_ok-rows.ensures.read.words c.in_ok-rows.ensures.over
    (c.in_err-spaces.ensures.missing other))

pub returns-in_err-controls-clause-err : goal.returns-in_err-controls-clause-err
returns-in_err-controls-clause-err c =
    let p = err_from_is_err_and c.from_residual-in_err-controls.result c.from_residual-in_err-controls.ensures.1 in
    rw (p.1, p.2) (λ other stamp state word held is.
    no_text_controls c.args.text.now stamp state word held is
    c.read_head.new.at _ _ c.in-Some.ensures.read.within c.in-Some.ensures.read.read c.in-Some.ensures.read.words.0 c.in-Some.ensures.read.words.1
    c.read_tasks.new.at _ c.in_ok-rows.ensures.read.within c.in_ok-rows.ensures.read.read c.in_ok-rows.ensures.read.words c.in_ok-rows.ensures.over
    c.read_spaces.new.at _ c.in_ok-spaces.ensures.read.within c.in_ok-spaces.ensures.read.read c.in_ok-spaces.ensures.read.words c.in_ok-spaces.ensures.over
    (c.in_err-controls.ensures.missing other))

pub same-rows : goal.same-rows
same-rows c = grind arith

pub returns-clause-words : goal.returns-clause-words
returns-clause-words c = grind arith

pub returns-in_err-check_end-clause-err : goal.returns-in_err-check_end-clause-err
returns-in_err-check_end-clause-err c =
    let p = err_from_is_err_and c.from_residual-in_err-check_end.result c.from_residual-in_err-check_end.ensures.1 in
    rw (p.1, p.2) (λ other stamp state word held is.
    no_text_end c.args.text.now stamp state word held is
    c.read_head.new.at _ _ c.in-Some.ensures.read.within c.in-Some.ensures.read.read c.in-Some.ensures.read.words.0 c.in-Some.ensures.read.words.1
    c.read_tasks.new.at _ c.in_ok-rows.ensures.read.within c.in_ok-rows.ensures.read.read c.in_ok-rows.ensures.read.words c.in_ok-rows.ensures.over
    c.read_spaces.new.at _ c.in_ok-spaces.ensures.read.within c.in_ok-spaces.ensures.read.read c.in_ok-spaces.ensures.read.words c.in_ok-spaces.ensures.over
    c.read_controls.new.at _ c.in_ok-controls.ensures.read.within c.in_ok-controls.ensures.read.read c.in_ok-controls.ensures.read.words c.in_ok-controls.ensures.over
    (c.in_err-check_end.ensures.missing other))

pub check_end-requires : goal.check_end-requires
check_end-requires c = grind arith

pub returns-clause-text : goal.returns-clause-text
unfolding text_of dump_text
returns-clause-text c = grind (arith, common_steps)

pub returns-in_default-clause-err : goal.returns-in_default-clause-err
unfolding text_of dump_text
returns-in_default-clause-err c = grind (arith, common_steps)
