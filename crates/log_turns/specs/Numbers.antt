-- A step as numbers, for C.
use Rattle.std.specs.Prelude.{◌≡◌}
use Rattle.log_turns.specs.declared.step.Step.{Step}
use Rattle.log_turns.specs.declared.step.Step.TheVariants.{Rest, Wait, Lost, Ended, Cut, Write, Sync, Answer, Close, Begin, Undo}
use Rattle.log_turns.specs.declared.turns.Turns.{Turns}
use Rattle.log_turns.specs.declared.numbers.StepNumbers.{StepNumbers}
use Rattle.log_turns.specs.declared.numbers.TheConstants.{REST, WAIT, LOST, ENDED, CUT, WRITE, SYNC, ANSWER, CLOSE, BEGIN, UNDO}
use Rattle.log_turns.specs.Next.{IsNextStep}

abbrev pub step_numbers : Step → StepNumbers
step_numbers Rest = record { kind = REST; place = 0; count = 0 }
step_numbers Wait = record { kind = WAIT; place = 0; count = 0 }
step_numbers Lost = record { kind = LOST; place = 0; count = 0 }
step_numbers Ended = record { kind = ENDED; place = 0; count = 0 }
step_numbers (Cut to) = record { kind = CUT; place = to; count = 0 }
step_numbers (Write at size) = record { kind = WRITE; place = at; count = size }
step_numbers Sync = record { kind = SYNC; place = 0; count = 0 }
step_numbers (Answer calls) = record { kind = ANSWER; place = 0; count = calls }
step_numbers Close = record { kind = CLOSE; place = 0; count = 0 }
step_numbers (Begin first) = record { kind = BEGIN; place = 0; count = first }
step_numbers Undo = record { kind = UNDO; place = 0; count = 0 }

-- the numbers are those of what is to be done next
abbrev pub AreNext : Turns → StepNumbers → Type 0
AreNext t numbers = (s : Step) × IsNextStep t s × (numbers ≡ step_numbers s)
