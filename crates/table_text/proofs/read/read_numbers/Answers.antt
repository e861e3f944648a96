-- The numbers that are read are the words before the place, joined: one number more is one mark and one word more
use Rattle.std.proofs.Common.{◌<◌, ℕ, List, length, codes, sym, subst, arith, ◌∙◌}
use Rattle.pid_script.specs.Answers.{joined}
use Rattle.table_text.specs.Ranges.{IsWord, Each}
use Rattle.table_text.specs.Reading.{IsRead, StopsDigits}
use Rattle.table_text.proofs.Each.{Each-more}
use Rattle.table_text.proofs.Scanned.{numbers_more, if_none, nothing_read}
use Rattle.table_text.proofs.Named.{no_first, no_further}
use Rattle.table_text.proofs.read.read_numbers.Goals as goal

pub loop-further-preserved : goal.loop-further-preserved
loop-further-preserved c =
    let before = c.loop-further.invariant in
    let some : 0 < length c.loop-further.numbers.items = omega (arith, before.count, c.loop-further.auto) in
    record {
      within = c.in_ok-read_small-2.ensures.read.within;
      count = omega (arith, before.count, c.push-in-loop-further.ensures.len);
      read = subst (λ (ns : List ℕ). IsRead c.args.text.now c.args.at.now c.read_small-in-loop-further.new.at (joined 44 ns)) (sym c.push-in-loop-further.ensures.items)
          (numbers_more c.args.text.now c.args.at.now c.loop-further.at _ _ c.loop-further.numbers.items _ before.read c.if-not-read_mark.ensures.read c.in_ok-read_small-2.ensures.read.read some);
      words = subst (λ (ns : List ℕ). Each IsWord ns) (sym c.push-in-loop-further.ensures.items)
          (Each-more IsWord c.loop-further.numbers.items _ before.words c.in_ok-read_small-2.ensures.read.words);
      stops = c.in_ok-read_small-2.ensures.read.stops;
    }

pub returns-in_err-read_small-2-clause-whole : goal.returns-in_err-read_small-2-clause-whole
returns-in_err-read_small-2-clause-whole c = grind arith

pub returns-in_err-read_small-clause-missing : goal.returns-in_err-read_small-clause-missing
returns-in_err-read_small-clause-missing c =
    if_none c.from_residual.result _ (no_first c.args.text.now c.args.at.now c.in_err-read_small.ensures.missing)

pub returns-then-not-read_mark-clause-whole : goal.returns-then-not-read_mark-clause-whole
returns-then-not-read_mark-clause-whole c =
    let still = nothing_read c.args.text.now c.loop-further.at c.read_mark.new.at c.read_mark.result (codes ",") c.loop-further.invariant.within c.read_mark.ensures.within
    c.if-not-read_mark.true c.read_mark.ensures.read in
    (λ below rest is. c.read_mark.ensures.missing c.if-not-read_mark.true rest (still ∙ is))

pub returns-in_err-read_small-2-clause-some : goal.returns-in_err-read_small-2-clause-some
returns-in_err-read_small-2-clause-some c = grind arith

pub returns-then-not-read_mark-clause-some : goal.returns-then-not-read_mark-clause-some
returns-then-not-read_mark-clause-some c = grind arith

pub returns-in_err-read_small-clause-read : goal.returns-in_err-read_small-clause-read
returns-in_err-read_small-clause-read c = grind arith

pub returns-then-not-read_mark-clause-stops : goal.returns-then-not-read_mark-clause-stops
returns-then-not-read_mark-clause-stops c =
    subst StopsDigits
    (nothing_read c.args.text.now c.loop-further.at c.read_mark.new.at c.read_mark.result (codes ",") c.loop-further.invariant.within c.read_mark.ensures.within
    c.if-not-read_mark.true c.read_mark.ensures.read) c.loop-further.invariant.stops

pub returns-in_err-read_small-2-clause-read : goal.returns-in_err-read_small-2-clause-read
returns-in_err-read_small-2-clause-read c = grind arith

pub returns-in_err-read_small-2-clause-stops : goal.returns-in_err-read_small-2-clause-stops
returns-in_err-read_small-2-clause-stops c = grind arith

pub loop-further-init : goal.loop-further-init
loop-further-init c = grind arith

pub returns-in_err-read_small-2-clause-missing : goal.returns-in_err-read_small-2-clause-missing
returns-in_err-read_small-2-clause-missing c =
    let before = c.loop-further.invariant in
    let some : 0 < length c.loop-further.numbers.items = omega (arith, before.count, c.loop-further.auto) in
    if_none c.from_residual-in_err-read_small-2.result _ (λ ns rest held is.
    no_further c.args.text.now ns rest held c.args.at.now c.loop-further.at c.loop-further.numbers.items c.requires before.within before.read some before.words before.stops
    c.read_mark.new.at c.read_mark.ensures.within c.if-not-read_mark.ensures.read c.in_err-read_small-2.ensures.missing is)
