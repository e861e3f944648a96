use Rattle.std.proofs.Common.{◌≡◌, ◌<◌, List, [], ◌∷◌, ◌++◌, sym, subst, arith}
use Rattle.pid_types.specs.declared.plain.Space.{Space}
use Rattle.pid_script.specs.Lists.{space_line}
use Rattle.table_text.specs.Ranges.{Each, IsSpaceOfWords}
use Rattle.table_text.specs.Reading.{IsHeldSpace}
use Rattle.table_text.proofs.Each.{Each-more}
use Rattle.table_text.proofs.Lines.{space_begins, space_told}
use Rattle.table_text.proofs.Scanned.{ahead, pushed, lines_more}
use Rattle.table_text.proofs.Whole.{no_lines, words_of_space}
use Rattle.table_text.proofs.read.read_spaces.Goals as goal

pub loop-at-smaller : goal.loop-at-smaller
loop-at-smaller c =
    let line = space_begins c.in-Some.space in
    let further : c.loop-at.at < c.read_space.new.at = ahead c.args.text.now c.loop-at.at c.read_space.new.at _ _ line.0 c.loop-at.invariant.within c.in-Some.ensures.read.within c.in-Some.ensures.read.read line.1 in
    omega (arith, further, c.in-Some.ensures.read.within)

pub loop-at-preserved : goal.loop-at-preserved
loop-at-preserved c =
    let before = c.loop-at.invariant in
    let items : c.push.new.self.items ≡ c.loop-at.spaces.items ++ c.in-Some.space ∷ [] =
    pushed c.push.result _ c.loop-at.spaces.items _ c.push.ensures.items (sym c.if-is_err.ensures.value) in
    record {
      within = c.in-Some.ensures.read.within;
      read = lines_more space_line c.args.text.now c.args.at.now c.loop-at.at c.read_space.new.at c.loop-at.spaces.items _ c.in-Some.space items before.read c.in-Some.ensures.read.read;
      words = subst (λ (xs : List Space). Each IsSpaceOfWords xs) (sym items) (Each-more IsSpaceOfWords c.loop-at.spaces.items c.in-Some.space before.words c.in-Some.ensures.read.words);
    }

pub returns-in_default-clause-missing : goal.returns-in_default-clause-missing
returns-in_default-clause-missing c =
    let before = c.loop-at.invariant in
    (λ other xs rest held ends is.
    no_lines space_line 115 space_begins IsSpaceOfWords IsHeldSpace space_told words_of_space c.args.text.now c.args.at.now c.loop-at.at c.loop-at.spaces.items
    c.requires before.within before.read before.words xs rest held ends is _ (c.begins_with.ensures.there c.loop-at-test.true) c.in_default.ensures.missing)
