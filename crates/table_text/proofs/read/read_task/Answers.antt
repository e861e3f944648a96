-- Where the reader of one part gives up, the name before it is read: so the line is of no task
use Rattle.std.proofs.Common.{codes, ◌++◌, refl, sym, subst, arith}
use Rattle.pid_types.specs.declared.plain.Name.{Name}
use Rattle.table_text.specs.Reading.{IsRead}
use Rattle.table_text.specs.Texts.{name_word, rest_line}
use Rattle.table_text.proofs.Rests.{rest_kept, rest_named, words_named}
use Rattle.table_text.proofs.Scanned.{if_none, order_read, task_read}
use Rattle.table_text.proofs.Tasks.{no_task_name, at_rest}
use Rattle.table_text.proofs.read.read_task.Goals as goal

pub returns-in_err-read_name-clause-missing : goal.returns-in_err-read_name-clause-missing
returns-in_err-read_name-clause-missing c =
    if_none c.from_residual.result _ (λ r x held is.
    no_task_name c.args.text.now r held x c.args.at.now c.requires.at is
    c.in_err-read_name.ensures.missing)

pub returns-in_err-read_name-clause-read : goal.returns-in_err-read_name-clause-read
returns-in_err-read_name-clause-read c = grind arith

pub returns-then-is_again-clause-read : goal.returns-then-is_again-clause-read
returns-then-is_again-clause-read c =
    record {
      within = c.if-is_again.ensures.within refl;
      read = task_read c.args.text.now _ c.args.at.now c.read_name.new.at _ c.in_ok-read_name.ensures.read.read
          (rest_named c.args.text.now c.read_name.new.at _ c.args.row.now c.read_name.new.name
          (c.if-is_again.ensures.read refl (rest_line c.args.row.now) (c.requires.last.read (c.if-is_again.ensures.some refl))));
      words = words_named c.args.row.now c.read_name.new.name (c.requires.last.words (c.if-is_again.ensures.some refl)) c.in_ok-read_name.ensures.read.words;
    }

pub returns-then-is_again-clause-last : goal.returns-then-is_again-clause-last
returns-then-is_again-clause-last c = rest_kept c.args.text.now c.args.last.now c.args.row.now c.read_name.new.name c.requires.last c.in_ok-read_name.ensures.read.words

pub returns-in_err-read_rest-clause-missing : goal.returns-in_err-read_rest-clause-missing
returns-in_err-read_rest-clause-missing c =
    if_none c.from_residual-in_err-read_rest.result _ (λ r x held is.
    c.in_err-read_rest.ensures.missing r x held
    (at_rest c.args.text.now r held x c.args.at.now c.requires.at is
    c.read_name.new.at _ c.in_ok-read_name.ensures.read.within c.in_ok-read_name.ensures.read.read c.in_ok-read_name.ensures.read.words c.in_ok-read_name.ensures.read.stops))

pub returns-clause-read : goal.returns-clause-read
returns-clause-read c = record {
  within = c.in_ok-read_rest.ensures.read.within;
  read = task_read c.args.text.now c.read_rest.new.row c.args.at.now c.read_name.new.at c.read_rest.new.at
      (subst (λ (n : Name). IsRead c.args.text.now c.args.at.now c.read_name.new.at (codes "task " ++ name_word n)) (sym c.in_ok-read_rest.ensures.name) c.in_ok-read_name.ensures.read.read)
      c.in_ok-read_rest.ensures.read.read;
  words = c.in_ok-read_rest.ensures.read.words c.in_ok-read_name.ensures.read.words;
}

pub returns-clause-last : goal.returns-clause-last
returns-clause-last c = record {
  order = order_read c.args.text.now c.read_name.new.at c.read_rest.new.at _ c.in_ok-read_name.ensures.read.within c.in_ok-read_rest.ensures.read.within c.in_ok-read_rest.ensures.read.read;
  within = c.in_ok-read_rest.ensures.read.within;
  read = λ some. c.in_ok-read_rest.ensures.read.read;
  words = λ some. c.in_ok-read_rest.ensures.read.words c.in_ok-read_name.ensures.read.words;
}

pub returns-in_err-read_rest-clause-read : goal.returns-in_err-read_rest-clause-read
returns-in_err-read_rest-clause-read c = grind arith

pub returns-in_err-read_rest-clause-last : goal.returns-in_err-read_rest-clause-last
returns-in_err-read_rest-clause-last c = grind arith
