-- The query that numbers say, and what calls would answer.
use Rattle.std.specs.Prelude.{◌≡◌, ◌≢◌, ◌↔◌, ℕ, Option, Some, None, IsSome, if◌then◌else◌}
use Rattle.pid_types.specs.declared.call.Call.{Call}
use Rattle.pid_types.specs.declared.reply.Reply.{Reply}
use Rattle.model_laws.specs.Refusals.{is_query}
use Rattle.saved_form.specs.declared.numbers.CallNumbers.{CallNumbers}
use Rattle.saved_form.specs.declared.numbers.ReplyNumbers.{ReplyNumbers}
use Rattle.foreign_numbers.specs.Numbers.{call_of, numbers_of}
use Rattle.foreign_numbers.specs.declared.status.TheConstants.{DONE, OUT_OF_RANGE}
use Rattle.foreign_calls.specs.Records.{Has}

-- the call, if it is a query
abbrev pub only_query : Option Call → Option Call
only_query None = None
only_query (Some call) = if is_query call then Some call else None

-- the query that the numbers say
abbrev pub query_of : CallNumbers → Option Call
query_of n = only_query (call_of n)

-- the call that numbers say, if they say one, has this answer of what is held; or the numbers of the reply stay as they were
pub record TellsAnswer {X : Type 0}
    (held : Option X) (answer : X → Call → Reply) (said : Option Call) (old new : ReplyNumbers) (status : ℕ) : Type 0 where
  pub done : status ≡ DONE → (asked : Call) × (said ≡ Some asked) × Has held (λ x. new ≡ numbers_of (answer x asked))
  pub not_done : status ≢ DONE → new ≡ old
  pub out_of_range : (status ≡ OUT_OF_RANGE) ↔ IsSome held × (said ≡ None)
