-- Each world that can be come to is sound, and so the promises are kept there.
use Rattle.std.proofs.Common.{refl}
use Rattle.log_turns.proofs.Kept.{sound, lost_for_good, kept_if_killed, kept_without_power, names_log, names_left, all_in_order}
use Rattle.log_turns.proofs.laws.keeps_its_promises.Goals as goal

pub returns-clause-answers_what_is_synced : goal.returns-clause-answers_what_is_synced
returns-clause-answers_what_is_synced c w r = (sound w r).calls.always

pub returns-clause-has_each_call_once : goal.returns-clause-has_each_call_once
returns-clause-has_each_call_once c w r = all_in_order w (sound w r)

pub returns-clause-answers_no_more : goal.returns-clause-answers_no_more
returns-clause-answers_no_more c w r lost events h = lost_for_good events w w.turns.answered (record { lost = lost; answered = refl }) h

pub returns-clause-keeps_if_killed : goal.returns-clause-keeps_if_killed
returns-clause-keeps_if_killed c w r = kept_if_killed w (sound w r)

pub returns-clause-keeps_without_power : goal.returns-clause-keeps_without_power
returns-clause-keeps_without_power c w r left h = kept_without_power w (sound w r) left h

pub returns-clause-names_what_is_there : goal.returns-clause-names_what_is_there
returns-clause-names_what_is_there c w r = (names_log w (sound w r), λ left h. names_left w (sound w r) left h)
