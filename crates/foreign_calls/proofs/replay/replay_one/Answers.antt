use Rattle.std.proofs.Common.{◌∙◌, rules, sym}
use Rattle.std.proofs.lemmas.Option.{same_Some}
use Rattle.foreign_calls.proofs.Told.{again_told, is_known}
use Rattle.foreign_calls.proofs.replay.replay_one.Goals as goal

pub returns-then-same-clause-done : goal.returns-then-same-clause-done
returns-then-same-clause-done c = λ _.
    let made = c.make_kept-step.ensures.makes.done c.if-step-ne-DONE.false in record {
      call = c.in-Some.made;
      read = sym c.read_call.ensures ∙ c.in-Some.is;
      known = is_known c.args.held.now _ _ _ _ _ _ c.if-step-ne-DONE.false c.make_kept-step.ensures.makes;
      left = same_Some _ _ made.left;
      answer = again_told _ c.in-Some-last_reply.last _ _ _ (c.if-same.ensures.0 (search rules)) (c.make_kept-step.ensures.reply c.if-step-ne-DONE.false)
          (sym c.last_reply.ensures ∙ c.in-Some-last_reply.is) assumption;
    }

pub returns-else-same-clause-differs : goal.returns-else-same-clause-differs
returns-else-same-clause-differs c = search rules
