use Rattle.std.proofs.Common.{◌++◌, decimal, append_assoc, ap, ◌∙◌, arith}
use Rattle.pid_script.specs.Answers.{reply_text}
use Rattle.pid_script.proofs.Room.{room}
use Rattle.std.proofs.lemmas.Grind.{common_steps}
use Rattle.pid_script.proofs.answer.push_reply.Goals as goal

pub returns-in-Done-clause-items : goal.returns-in-Done-clause-items
unfolding reply_text
returns-in-Done-clause-items g c = rw c.in-Done.is c.push_bytes.ensures.items

pub returns-in-Number-clause-items : goal.returns-in-Number-clause-items
unfolding reply_text
returns-in-Number-clause-items g c = rw c.in-Number.is (c.push_number.ensures.items ∙ ap (λ n. c.args.text.now.items ++ decimal n) c.from.ensures)

pub returns-in-Levels-clause-items : goal.returns-in-Levels-clause-items
unfolding reply_text
returns-in-Levels-clause-items g c = rw c.in-Levels.is c.push_joined.ensures.items

pub returns-in-Reaped-clause-items : goal.returns-in-Reaped-clause-items
unfolding reply_text
returns-in-Reaped-clause-items g c = rw c.in-Reaped.is (simp append_assoc at c.push_reaped.ensures.items)

pub returns-in-NoneYet-clause-items : goal.returns-in-NoneYet-clause-items
unfolding reply_text
returns-in-NoneYet-clause-items g c = rw c.in-NoneYet.is c.push_bytes-in-NoneYet.ensures.items

pub returns-in-Counted-clause-items : goal.returns-in-Counted-clause-items
unfolding reply_text
returns-in-Counted-clause-items g c = rw c.in-Counted.is c.push_number-in-Counted.ensures.items

pub returns-in-Control-clause-items : goal.returns-in-Control-clause-items
unfolding reply_text
returns-in-Control-clause-items g c = rw c.in-Control.is (simp append_assoc at c.push_labelled.ensures.items)

pub returns-in-End-clause-items : goal.returns-in-End-clause-items
unfolding reply_text
returns-in-End-clause-items g c = rw c.in-End.is c.push_bytes-in-End.ensures.items

pub returns-in-Refused-clause-items : goal.returns-in-Refused-clause-items
unfolding reply_text
returns-in-Refused-clause-items g c = rw c.in-Refused.is c.push_refusal.ensures.items

pub push_number-requires : goal.push_number-requires
unfolding reply_text
push_number-requires c = grind (arith, room)

pub push_number-requires-in-Counted : goal.push_number-requires-in-Counted
unfolding reply_text
push_number-requires-in-Counted c = grind (arith, room)

pub returns-in-Counted-clause-len : goal.returns-in-Counted-clause-len
unfolding reply_text
returns-in-Counted-clause-len c = grind (arith, room)

pub returns-in-Number-clause-len : goal.returns-in-Number-clause-len
unfolding reply_text
returns-in-Number-clause-len c = grind (arith, room)

pub returns-in-Forked-clause-items : goal.returns-in-Forked-clause-items
unfolding reply_text
returns-in-Forked-clause-items c = grind (arith, common_steps)
