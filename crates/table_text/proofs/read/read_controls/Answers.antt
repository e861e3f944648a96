use Rattle.std.proofs.Common.{◌≡◌, ◌<◌, List, [], ◌∷◌, ◌++◌, sym, subst, arith}
use Rattle.pid_types.specs.declared.plain.Control.{Control}
use Rattle.table_text.specs.Texts.{control_text_line}
use Rattle.table_text.specs.Ranges.{Each, IsControlOfWords}
use Rattle.table_text.specs.Reading.{IsHeldControl}
use Rattle.table_text.proofs.Each.{Each-more}
use Rattle.table_text.proofs.Lines.{control_begins, control_told}
use Rattle.table_text.proofs.Scanned.{ahead, pushed, lines_more}
use Rattle.table_text.proofs.Whole.{no_lines, words_of_control}
use Rattle.table_text.proofs.read.read_controls.Goals as goal

pub loop-at-smaller : goal.loop-at-smaller
loop-at-smaller c =
    let line = control_begins c.in-Some.control in
    let further : c.loop-at.at < c.read_control.new.at = ahead c.args.text.now c.loop-at.at c.read_control.new.at _ _ line.0 c.loop-at.invariant.within c.in-Some.ensures.read.within c.in-Some.ensures.read.read line.1 in
    omega (arith, further, c.in-Some.ensures.read.within)

pub loop-at-preserved : goal.loop-at-preserved
loop-at-preserved c =
    let before = c.loop-at.invariant in
    let items : c.push.new.self.items ≡ c.loop-at.controls.items ++ c.in-Some.control ∷ [] =
    pushed c.push.result _ c.loop-at.controls.items _ c.push.ensures.items (sym c.if-is_err.ensures.value) in
    record {
      within = c.in-Some.ensures.read.within;
      read = lines_more control_text_line c.args.text.now c.args.at.now c.loop-at.at c.read_control.new.at c.loop-at.controls.items _ c.in-Some.control items before.read c.in-Some.ensures.read.read;
      words = subst (λ (xs : List Control). Each IsControlOfWords xs) (sym items) (Each-more IsControlOfWords c.loop-at.controls.items c.in-Some.control before.words c.in-Some.ensures.read.words);
    }

pub returns-in_default-clause-missing : goal.returns-in_default-clause-missing
returns-in_default-clause-missing c =
    let before = c.loop-at.invariant in
    (λ other xs rest held ends is.
    no_lines control_text_line 99 control_begins IsControlOfWords IsHeldControl control_told words_of_control c.args.text.now c.args.at.now c.loop-at.at c.loop-at.controls.items
    c.requires before.within before.read before.words xs rest held ends is _ (c.begins_with.ensures.there c.loop-at-test.true) c.in_default.ensures.missing)
