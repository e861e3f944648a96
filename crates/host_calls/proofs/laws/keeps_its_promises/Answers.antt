-- Each world that can be come to is sound, and so the promises are kept there.
use Rattle.host_calls.proofs.Runs.{sound, is_made_once, answers_are, puts_none, tells_once, tells_what_was_read}
use Rattle.host_calls.proofs.Losing.{kept, loses_none, tells_all}
use Rattle.host_calls.proofs.laws.keeps_its_promises.Goals as goal

pub returns-clause-is_made_once : goal.returns-clause-is_made_once
returns-clause-is_made_once c w r = is_made_once w (sound w r)

pub returns-clause-answers_are_the_logs : goal.returns-clause-answers_are_the_logs
returns-clause-answers_are_the_logs c w r = answers_are w (sound w r)

pub returns-clause-puts_none_that_is_unmade : goal.returns-clause-puts_none_that_is_unmade
returns-clause-puts_none_that_is_unmade c w r = puts_none w (sound w r)

pub returns-clause-tells_once : goal.returns-clause-tells_once
returns-clause-tells_once c w r = tells_once w

pub returns-clause-tells_what_was_read : goal.returns-clause-tells_what_was_read
returns-clause-tells_what_was_read c w r = tells_what_was_read w (sound w r)

pub returns-clause-loses_none : goal.returns-clause-loses_none
returns-clause-loses_none c w r = loses_none w (kept w r)

pub returns-clause-tells_all_in_the_end : goal.returns-clause-tells_all_in_the_end
returns-clause-tells_all_in_the_end c w r = tells_all w (kept w r)
