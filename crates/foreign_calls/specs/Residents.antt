-- The live tasks directly in a control group, told as numbers.
use Rattle.std.specs.Prelude.{◌≡◌, ◌≢◌, ℕ, List, Option}
use Rattle.pid_types.specs.declared.reply.Reply.{Reply}
use Rattle.pid_types.specs.State.{State}
use Rattle.translate.specs.declared.residents.ControlPage.{ControlPage}
use Rattle.translate.specs.Residents.{TellsControlTasks}
use Rattle.saved_form.specs.declared.numbers.ReplyNumbers.{ReplyNumbers}
use Rattle.foreign_numbers.specs.Numbers.{numbers_of}
use Rattle.foreign_numbers.specs.declared.status.TheConstants.{DONE}
use Rattle.foreign_calls.specs.Records.{Has}

-- the list of the state is in the room, and its answer is told as numbers
abbrev pub PutsControlTasks : State → ControlPage → List ℕ → List ℕ → ReplyNumbers → Type 0
PutsControlTasks state asked old new reply = (told : Reply) × TellsControlTasks state asked old new told × (reply ≡ numbers_of told)

-- that is so of what is held; or room and reply stay as they were
pub record AnswersControlTasks {X : Type 0}
    (held : Option X) (state : X → State) (asked : ControlPage) (old new : List ℕ) (before after : ReplyNumbers) (status : ℕ) : Type 0 where
  pub done : status ≡ DONE → Has held (λ x. PutsControlTasks (state x) asked old new after)
  pub not_done : status ≢ DONE → (new ≡ old) × (after ≡ before)
