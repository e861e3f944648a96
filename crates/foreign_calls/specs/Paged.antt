-- The page that numbers say, and its answer as numbers.
use Rattle.std.specs.Prelude.{◌≡◌, ◌≢◌, ◌↔◌, ℕ, List, Option, None, Some, IsSome, option_map}
use Rattle.pid_types.specs.declared.reply.Reply.{Reply}
use Rattle.pid_types.specs.State.{State}
use Rattle.translate.specs.declared.page.Page.{Page}
use Rattle.translate.specs.Pages.{TellsPage}
use Rattle.saved_form.specs.declared.numbers.ReplyNumbers.{ReplyNumbers}
use Rattle.foreign_numbers.specs.Numbers.{numbers_of}
use Rattle.foreign_numbers.specs.Whom.{whom_of}
use Rattle.foreign_numbers.specs.declared.status.TheConstants.{DONE, OUT_OF_RANGE}
use Rattle.foreign_calls.specs.Records.{Has}

-- the page, if the number of whom it lists is one
abbrev pub page_by : ℕ → ℕ → ℕ → ℕ → Option Page
page_by caller whom number from = option_map (λ w. record { caller = caller; whom = w; number = number; from = from }) (whom_of whom)

-- the page of the state is in the room, and its answer is told as numbers
abbrev pub PutsPage : State → Page → List ℕ → List ℕ → ReplyNumbers → Type 0
PutsPage state page old new reply = (told : Reply) × TellsPage state page old new told × (reply ≡ numbers_of told)

-- the page that numbers say, if they say one, is that of what is held; or room and reply stay as they were
pub record AnswersPage {X : Type 0}
    (held : Option X) (state : X → State) (said : Option Page) (old new : List ℕ) (before after : ReplyNumbers) (status : ℕ) : Type 0 where
  pub done : status ≡ DONE → (page : Page) × (said ≡ Some page) × Has held (λ x. PutsPage (state x) page old new after)
  pub not_done : status ≢ DONE → (new ≡ old) × (after ≡ before)
  pub out_of_range : (status ≡ OUT_OF_RANGE) ↔ IsSome held × (said ≡ None)
