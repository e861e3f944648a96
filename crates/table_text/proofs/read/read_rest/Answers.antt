-- Where the reader of one part gives up, the parts before it are read: so it is the rest of no line
use Rattle.std.proofs.Common.{arith}
use Rattle.table_text.proofs.Scanned.{rest_read, if_none}
use Rattle.table_text.proofs.Tasks.{no_task_parent, no_task_group, no_task_session, no_task_home, no_task_children, no_task_life, no_task_end}
use Rattle.table_text.proofs.read.read_rest.Goals as goal

pub returns-clause-read : goal.returns-clause-read
returns-clause-read c = record {
  within = c.in_ok-read_word.ensures.within;
  read = rest_read c.args.text.now _ c.args.at.now _ _ _ _ _ _ _ _ _ c.in_ok-read_parent_name.ensures.read.read c.in_ok-read_name.ensures.read.read
      c.in_ok-read_name-2.ensures.read.read c.in_ok-row.ensures.read.read c.in_ok-row-2.ensures.read.read c.in_ok-row-3.ensures.read.read
      c.read_mark-row.ensures.read c.read_mark-row-2.ensures.read c.in_ok-read_word.ensures.read;
  words = λ named. record {
    name = named;
    parent = c.in_ok-read_parent_name.ensures.read.words;
    group = c.in_ok-read_name.ensures.read.words;
    session = c.in_ok-read_name-2.ensures.read.words;
    life = c.in_ok-row-3.ensures.read.words;
    home = c.in_ok-row.ensures.read.words;
    children_space = c.in_ok-row-2.ensures.read.words;
  };
}

pub returns-in_err-read_parent_name-clause-missing : goal.returns-in_err-read_parent_name-clause-missing
returns-in_err-read_parent_name-clause-missing c =
    if_none c.from_residual.result _ (λ r x held is.
    no_task_parent c.args.text.now r held x c.args.at.now c.requires is
    c.in_err-read_parent_name.ensures.missing)

pub returns-in_err-read_parent_name-clause-read : goal.returns-in_err-read_parent_name-clause-read
returns-in_err-read_parent_name-clause-read c = grind arith

pub returns-clause-name : goal.returns-clause-name
returns-clause-name c = grind arith

pub returns-in_err-row-2-clause-read : goal.returns-in_err-row-2-clause-read
returns-in_err-row-2-clause-read c = grind arith

pub read_mark-row-requires : goal.read_mark-row-requires
read_mark-row-requires c = grind arith

pub read_life-requires : goal.read_life-requires
read_life-requires c = grind arith

pub returns-in_err-read_name-clause-missing : goal.returns-in_err-read_name-clause-missing
returns-in_err-read_name-clause-missing c =
    if_none c.from_residual-in_err-read_name.result _ (λ r x held is.
    no_task_group c.args.text.now r held x c.args.at.now c.requires is
    c.read_parent_name.new.at _ c.in_ok-read_parent_name.ensures.read.within c.in_ok-read_parent_name.ensures.read.read c.in_ok-read_parent_name.ensures.read.words c.in_ok-read_parent_name.ensures.stops
    c.in_err-read_name.ensures.missing)

pub returns-in_err-read_word-clause-read : goal.returns-in_err-read_word-clause-read
returns-in_err-read_word-clause-read c = grind arith

pub read_field-requires-2 : goal.read_field-requires-2
read_field-requires-2 c = grind arith

pub returns-in_err-read_name-2-clause-missing : goal.returns-in_err-read_name-2-clause-missing
returns-in_err-read_name-2-clause-missing c =
    if_none c.from_residual-in_err-read_name-2.result _ (λ r x held is.
    no_task_session c.args.text.now r held x c.args.at.now c.requires is
    c.read_parent_name.new.at _ c.in_ok-read_parent_name.ensures.read.within c.in_ok-read_parent_name.ensures.read.read c.in_ok-read_parent_name.ensures.read.words c.in_ok-read_parent_name.ensures.stops
    c.read_name.new.at _ c.in_ok-read_name.ensures.read.within c.in_ok-read_name.ensures.read.read c.in_ok-read_name.ensures.read.words c.in_ok-read_name.ensures.read.stops
    c.in_err-read_name-2.ensures.missing)

pub returns-in_err-read_name-2-clause-read : goal.returns-in_err-read_name-2-clause-read
returns-in_err-read_name-2-clause-read c = grind arith

pub returns-in_err-row-3-clause-read : goal.returns-in_err-row-3-clause-read
returns-in_err-row-3-clause-read c = grind arith

pub returns-in_err-row-clause-missing : goal.returns-in_err-row-clause-missing
returns-in_err-row-clause-missing c =
    if_none c.from_residual-in_err-row.result _ (λ r x held is.
    no_task_home c.args.text.now r held x c.args.at.now c.requires is
    c.read_parent_name.new.at _ c.in_ok-read_parent_name.ensures.read.within c.in_ok-read_parent_name.ensures.read.read c.in_ok-read_parent_name.ensures.read.words c.in_ok-read_parent_name.ensures.stops
    c.read_name.new.at _ c.in_ok-read_name.ensures.read.within c.in_ok-read_name.ensures.read.read c.in_ok-read_name.ensures.read.words c.in_ok-read_name.ensures.read.stops
    c.read_name-2.new.at _ c.in_ok-read_name-2.ensures.read.within c.in_ok-read_name-2.ensures.read.read c.in_ok-read_name-2.ensures.read.words c.in_ok-read_name-2.ensures.read.stops
    c.in_err-row.ensures.missing)

pub read_mark-row-requires-2 : goal.read_mark-row-requires-2
read_mark-row-requires-2 c = grind arith

pub returns-in_err-read_word-clause-name : goal.returns-in_err-read_word-clause-name
returns-in_err-read_word-clause-name c = grind arith

pub returns-in_err-read_name-clause-read : goal.returns-in_err-read_name-clause-read
returns-in_err-read_name-clause-read c = grind arith

pub returns-in_err-row-2-clause-missing : goal.returns-in_err-row-2-clause-missing
returns-in_err-row-2-clause-missing c =
    if_none c.from_residual-in_err-row-2.result _ (λ r x held is.
    no_task_children c.args.text.now r held x c.args.at.now c.requires is
    c.read_parent_name.new.at _ c.in_ok-read_parent_name.ensures.read.within c.in_ok-read_parent_name.ensures.read.read c.in_ok-read_parent_name.ensures.read.words c.in_ok-read_parent_name.ensures.stops
    c.read_name.new.at _ c.in_ok-read_name.ensures.read.within c.in_ok-read_name.ensures.read.read c.in_ok-read_name.ensures.read.words c.in_ok-read_name.ensures.read.stops
    c.read_name-2.new.at _ c.in_ok-read_name-2.ensures.read.within c.in_ok-read_name-2.ensures.read.read c.in_ok-read_name-2.ensures.read.words c.in_ok-read_name-2.ensures.read.stops
    c.read_field.new.at _ c.in_ok-row.ensures.read.within c.in_ok-row.ensures.read.read c.in_ok-row.ensures.read.words c.in_ok-row.ensures.read.stops
    c.in_err-row-2.ensures.missing)

pub returns-in_err-row-clause-read : goal.returns-in_err-row-clause-read
returns-in_err-row-clause-read c = grind arith

pub returns-in_err-row-3-clause-missing : goal.returns-in_err-row-3-clause-missing
returns-in_err-row-3-clause-missing c =
    if_none c.from_residual-in_err-row-3.result _ (λ r x held is.
    no_task_life c.args.text.now r held x c.args.at.now c.requires is
    c.read_parent_name.new.at _ c.in_ok-read_parent_name.ensures.read.within c.in_ok-read_parent_name.ensures.read.read c.in_ok-read_parent_name.ensures.read.words c.in_ok-read_parent_name.ensures.stops
    c.read_name.new.at _ c.in_ok-read_name.ensures.read.within c.in_ok-read_name.ensures.read.read c.in_ok-read_name.ensures.read.words c.in_ok-read_name.ensures.read.stops
    c.read_name-2.new.at _ c.in_ok-read_name-2.ensures.read.within c.in_ok-read_name-2.ensures.read.read c.in_ok-read_name-2.ensures.read.words c.in_ok-read_name-2.ensures.read.stops
    c.read_field.new.at _ c.in_ok-row.ensures.read.within c.in_ok-row.ensures.read.read c.in_ok-row.ensures.read.words c.in_ok-row.ensures.read.stops
    c.read_field-2.new.at _ c.in_ok-row-2.ensures.read.within c.in_ok-row-2.ensures.read.read c.in_ok-row-2.ensures.read.words c.in_ok-row-2.ensures.read.stops
    c.in_err-row-3.ensures.missing)

pub returns-in_err-read_word-clause-missing : goal.returns-in_err-read_word-clause-missing
returns-in_err-read_word-clause-missing c =
    if_none c.from_residual-in_err-read_word.result _ (λ r x held is.
    no_task_end c.args.text.now r held x c.args.at.now c.requires is
    c.read_parent_name.new.at _ c.in_ok-read_parent_name.ensures.read.within c.in_ok-read_parent_name.ensures.read.read c.in_ok-read_parent_name.ensures.read.words c.in_ok-read_parent_name.ensures.stops
    c.read_name.new.at _ c.in_ok-read_name.ensures.read.within c.in_ok-read_name.ensures.read.read c.in_ok-read_name.ensures.read.words c.in_ok-read_name.ensures.read.stops
    c.read_name-2.new.at _ c.in_ok-read_name-2.ensures.read.within c.in_ok-read_name-2.ensures.read.read c.in_ok-read_name-2.ensures.read.words c.in_ok-read_name-2.ensures.read.stops
    c.read_field.new.at _ c.in_ok-row.ensures.read.within c.in_ok-row.ensures.read.read c.in_ok-row.ensures.read.words c.in_ok-row.ensures.read.stops
    c.read_field-2.new.at _ c.in_ok-row-2.ensures.read.within c.in_ok-row-2.ensures.read.read c.in_ok-row-2.ensures.read.words c.in_ok-row-2.ensures.read.stops
    c.read_life.new.at _ c.in_ok-row-3.ensures.read.within c.in_ok-row-3.ensures.read.read c.in_ok-row-3.ensures.read.words c.in_ok-row-3.ensures.stops
    c.read_mark-row.new.at _ c.read_mark-row.ensures.within c.read_mark-row.ensures.read c.read_mark-row.ensures.missing
    c.read_mark-row-2.new.at _ c.read_mark-row-2.ensures.within c.read_mark-row-2.ensures.read c.read_mark-row-2.ensures.missing
    c.in_err-read_word.ensures.missing)

pub read_word-requires : goal.read_word-requires
read_word-requires c = grind arith
