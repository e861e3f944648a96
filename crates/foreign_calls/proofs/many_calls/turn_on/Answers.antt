use Rattle.std.proofs.Common.{◌∙◌, sym}
use Rattle.std.proofs.lemmas.Option.{same_Some}
use Rattle.foreign_calls.proofs.Told.{last_told}
use Rattle.foreign_calls.proofs.many_calls.turn_on.Goals as goal

pub returns-clause-done : goal.returns-clause-done
returns-clause-done c = λ _.
    let made = c.make_kept-status.ensures.makes.done c.if-status-ne-DONE.false in record {
      call = c.in-Some.made;
      read = sym c.read_call.ensures ∙ c.in-Some.is;
      known = c.requires.known;
      left = same_Some _ _ made.left;
      answer = last_told _ _ _ (c.make_kept-status.ensures.reply c.if-status-ne-DONE.false) assumption;
    }
