use Rattle.std.proofs.Common.{◌≡◌, ◌<◌, List, [], ◌∷◌, ◌++◌, take, ap, sym, subst, ◌∙◌, arith, append-nil}
use Rattle.std.specs.List.{flat_map}
use Rattle.pid_types.specs.declared.plain.Row.{Row}
use Rattle.table_text.specs.Texts.{task_text_line}
use Rattle.table_text.specs.Ranges.{Each, IsRowOfWords}
use Rattle.table_text.specs.Reading.{IsHeldRow}
use Rattle.table_text.proofs.Each.{Each-more}
use Rattle.table_text.proofs.Lines.{task_begins, task_told}
use Rattle.table_text.proofs.Rests.{rest_none}
use Rattle.table_text.proofs.Scanned.{ahead, lines_more}
use Rattle.table_text.proofs.Whole.{no_lines, words_of_row}
use Rattle.table_text.proofs.read.read_tasks.Goals as goal

pub loop-row-init : goal.loop-row-init
loop-row-init c =
    let none : c.new-rows.result ≡ [] = c.new-rows.ensures in
    record {
      within = c.requires;
      read = sym (append-nil _) ∙ ap (λ (xs : List Row). take c.args.at.now c.args.text.now ++ flat_map task_text_line xs) (sym none);
      words = subst (λ (xs : List Row). Each IsRowOfWords xs) (sym none) (λ x there. absurd there);
      rest = rest_none c.args.text.now _;
    }

pub loop-row-smaller : goal.loop-row-smaller
loop-row-smaller c =
    let line = task_begins c.read_task.new.row in
    let further : c.loop-row.at < c.read_task.new.at = ahead c.args.text.now c.loop-row.at c.read_task.new.at _ _ line.0 c.loop-row.invariant.within c.in-Some.ensures.read.within c.in-Some.ensures.read.read line.1 in
    omega (arith, further, c.in-Some.ensures.read.within)

pub loop-row-preserved : goal.loop-row-preserved
loop-row-preserved c =
    let before = c.loop-row.invariant in
    let rows = c.loop-row.rows in
    let row = c.read_task.new.row in
    let all : c.add.new.self ≡ rows ++ row ∷ [] = c.in-Ok.ensures.added in
    record {
      within = c.in-Some.ensures.read.within;
      read = lines_more task_text_line c.args.text.now c.args.at.now c.loop-row.at c.read_task.new.at rows _ row all before.read c.in-Some.ensures.read.read;
      words = subst (λ (xs : List Row). Each IsRowOfWords xs) (sym all) (Each-more IsRowOfWords rows row before.words c.in-Some.ensures.read.words);
      rest = c.in-Some.ensures.last;
    }

pub returns-in_default-clause-missing : goal.returns-in_default-clause-missing
returns-in_default-clause-missing c =
    let before = c.loop-row.invariant in
    (λ other xs rest held ends is.
    no_lines task_text_line 116 task_begins IsRowOfWords IsHeldRow task_told words_of_row c.args.text.now c.args.at.now c.loop-row.at c.loop-row.rows
    c.requires before.within before.read before.words xs rest held ends is _ (c.begins_with.ensures.there c.loop-row-test.true) c.in_default.ensures.missing)
