-- Jobs, read piece by piece.
use Rattle.std.proofs.Common.{◌≡◌, ℕ, ◌+◌, ◌^◌, ◌<◌, ◌≤◌, inl, inr, Bool, List, [], ◌∷◌, ◌++◌, length, length-append, take, take_all, take-take, length-take-le, min, ◌≢◌, Option, Some, refl, sym, ap, ◌∙◌, subst, append_assoc, append-nil, arith, IsTrue}
use Rattle.std.proofs.lemmas.Bool.{cases_lt}
use Rattle.std.proofs.lemmas.List.Elements.{All-append, All-nil}
use Rattle.std.proofs.Math.Seq.{take-append-add}
use Rattle.script_session.proofs.Names.{Consumes, IsAtEnd, Call, JobFault, Line, said_whole, said_of, said_within, IsMet, IsLineRead, calls_said, AreGood, IsReached, Yields, MeetsFault, Adds, IsStopped}
use Rattle.script_session.specs.declared.job.JobFault.TheVariants as fault
use Rattle.pid_script.specs.declared.line.Line.TheVariants as says
use Rattle.pid_script.proofs.Said.{said_within-whole}
use Rattle.pid_script.proofs.Within.{no_end}

calls_said-append : (xs ys : List Line) → calls_said (xs ++ ys) ≡ calls_said xs ++ calls_said ys
calls_said-append [] ys = refl
calls_said-append (says.Empty ∷ xs) ys = calls_said-append xs ys
calls_said-append (says.Call call ∷ xs) ys = ap (λ calls. call ∷ calls) (calls_said-append xs ys)
calls_said-append (says.Bad ∷ xs) ys = calls_said-append xs ys

AreGood-append : (xs ys : List Line) → AreGood xs → AreGood ys → AreGood (xs ++ ys)
AreGood-append xs ys first second = All-append (λ (line : Line). line ≢ says.Bad) xs ys first second

-- no line
pub Adds-nothing : (calls : List Call) (number : ℕ) → Adds calls number calls number []
Adds-nothing calls number = record { good = All-nil _; said = sym (append-nil calls); counted = omega arith }

-- lines, and more lines
pub Adds-more : {cs cs' cs'' : List Call} {n n' n'' : ℕ} (xs ys : List Line) → Adds cs n cs' n' xs → Adds cs' n' cs'' n'' ys → Adds cs n cs'' n'' (xs ++ ys)
Adds-more {cs} xs ys first second = record {
  good = AreGood-append xs ys first.good second.good;
  said = second.said ∙ ap (λ calls. calls ++ calls_said ys) first.said ∙ append_assoc cs (calls_said xs) (calls_said ys) ∙ ap (λ calls. cs ++ calls) (sym (calls_said-append xs ys));
  counted = omega (arith, first.counted, second.counted, length-append xs ys);
}

IsReached-sooner : (line : Line) (number : ℕ) (xs ys : List Line) → IsReached line number xs → IsReached line number (xs ++ ys)
IsReached-sooner line number xs ys reached = record {
  before = reached.before;
  after = reached.after ++ ys;
  cut = ap (λ lines. lines ++ ys) reached.cut ∙ append_assoc reached.before (line ∷ reached.after) ys;
  good = reached.good;
  place = reached.place;
}

IsReached-later : (line : Line) (number : ℕ) (xs ys : List Line) → AreGood xs → IsReached line number ys → IsReached line (length xs + number) (xs ++ ys)
IsReached-later line number xs ys good reached = record {
  before = xs ++ reached.before;
  after = reached.after;
  cut = ap (λ lines. xs ++ lines) reached.cut ∙ sym (append_assoc xs reached.before (line ∷ reached.after));
  good = AreGood-append xs reached.before good reached.good;
  place = omega (arith, reached.place, length-append xs reached.before);
}

-- the first line
pub reached_first : (line : Line) → IsReached line 1 (line ∷ [])
reached_first line = record { before = []; after = []; cut = refl; good = All-nil _; place = refl }

-- more lines come behind the fault
pub IsStopped-sooner : (number : ℕ) (xs ys : List Line) (e : JobFault) → IsStopped number xs e → IsStopped number (xs ++ ys) e
IsStopped-sooner number xs ys fault.Read stops = stops
IsStopped-sooner number xs ys fault.TooLong stops = stops
IsStopped-sooner number xs ys (fault.BadLine k) stops = (stops.0, stops.1, IsReached-sooner says.Bad stops.0 xs ys stops.2)
IsStopped-sooner number xs ys fault.NoMemory stops = (stops.0, stops.1, IsReached-sooner (says.Call stops.0) stops.1 xs ys stops.2)

-- good lines come before it
pub IsStopped-later : {cs cs' : List Call} {n n' : ℕ} (xs ys : List Line) (e : JobFault) → Adds cs n cs' n' xs → IsStopped n' ys e → IsStopped n (xs ++ ys) e
IsStopped-later xs ys fault.Read adds stops = stops
IsStopped-later xs ys fault.TooLong adds stops = stops
IsStopped-later xs ys (fault.BadLine k) adds stops =
    (length xs + stops.0, omega (arith, stops.1, adds.counted), IsReached-later says.Bad stops.0 xs ys adds.good stops.2)
IsStopped-later xs ys fault.NoMemory adds stops =
    (stops.0, length xs + stops.1, IsReached-later (says.Call stops.0) stops.1 xs ys adds.good stops.2)

-- what is within reach of a piece of which some bytes were read
take_piece : (count room : ℕ) (chunk : List ℕ) → count ≤ length chunk → take room (take count chunk) ≡ take (min count room) chunk
take_piece count room chunk within =
    elim (cases_lt room count) [
      | inl lt ↦ let least : room ≡ min count room = omega arith in take-take room count chunk (omega arith) ∙ ap (λ n. take n chunk) least
      | inr le ↦ let least : count ≡ min count room = omega arith in
          take_all room (take count chunk) (omega (arith, length-take-le count chunk within)) ∙ ap (λ n. take n chunk) least
    ]

-- and what is of all bytes that were read
pub take_most : (most count room : ℕ) (read chunk : List ℕ) → room + length read ≡ most → count ≤ length chunk
    → take most (read ++ take count chunk) ≡ read ++ take (min count room) chunk
take_most most count room read chunk is within =
    let all : length read + room ≡ most = omega (arith, is) in
    ap (λ n. take n (read ++ take count chunk)) (sym all) ∙ take-append-add read (take count chunk) room
    ∙ ap (λ piece. read ++ piece) (take_piece count room chunk within)

from_start : (k : ℕ) (lines : List Line) → IsStopped 0 lines (fault.BadLine k) → IsReached says.Bad k lines
from_start k lines stops = let same : stops.0 ≡ k = omega (arith, stops.1) in subst (λ j. IsReached says.Bad j lines) same stops.2

-- all lines are good
pub yields : {from to : Option (List ℕ)} {n' : ℕ} (read : List ℕ) (calls : List Call) → Adds [] 0 calls n' (said_of read) → length read ≤ 2 ^ 20
    → Consumes from to read → IsAtEnd to → Yields from to calls
yields read calls adds short consumed at_end = record {
  read = read;
  consumed = consumed;
  at_end = at_end;
  short = short;
  good = adds.good;
  said = adds.said;
}

module _ {from to : Option (List ℕ)} {failed : Bool} where
  -- a fault is met where each line that is reached among these is read
  refuses : (read : List ℕ) (lines : List Line) (e : JobFault) → ((line : Line) (number : ℕ) → IsReached line number lines → IsLineRead read to line number) → IsStopped 0 lines e → Consumes from to read → MeetsFault from to failed e
  refuses read lines e reach stops consumed = record { read = read; consumed = consumed; met = met e stops }
    where
      met : (e : JobFault) → IsStopped 0 lines e → IsMet read to failed e
      met fault.Read stops = absurd stops
      met fault.TooLong stops = absurd stops
      met (fault.BadLine k) stops = reach says.Bad k (from_start k lines stops)
      met fault.NoMemory stops = (stops.0, stops.1, reach (says.Call stops.0) stops.1 stops.2)

  -- one among the lines that end within the most bytes, and one at the last line, which has no newline
  pub refuses_within : (read : List ℕ) (e : JobFault) → IsStopped 0 (said_within (Some []) (take (2 ^ 20) read)) e → Consumes from to read → MeetsFault from to failed e
  refuses_within read e stops consumed =
      refuses read (said_whole (take (2 ^ 20) read)) e (λ line number reached. inl reached) (subst (λ lines. IsStopped 0 lines e) (said_within-whole (take (2 ^ 20) read)) stops) consumed

  pub refuses_last : (read : List ℕ) (e : JobFault) → IsStopped 0 (said_of read) e → length read ≤ 2 ^ 20 → Consumes from to read → IsAtEnd to → MeetsFault from to failed e
  refuses_last read e stops short consumed at_end = refuses read (said_of read) e (λ line number reached. inr (short, at_end, reached)) stops consumed

  -- a source that fails
  pub refuses_read : {cs cs' : List Call} {n n' : ℕ} (read : List ℕ) → Adds cs n cs' n' (said_within (Some []) read) → length read ≤ 2 ^ 20
      → Consumes from to read → IsTrue failed → MeetsFault from to failed fault.Read
  refuses_read read adds short consumed fails = record {
    read = read;
    consumed = consumed;
    met = (short, subst AreGood (said_within-whole read) adds.good, fails);
  }

  -- one byte too many
  pub refuses_long : {cs cs' : List Call} {n n' : ℕ} (read : List ℕ) → Adds cs n cs' n' (said_within (Some []) (take (2 ^ 20) read)) → 2 ^ 20 < length read
      → Consumes from to read → MeetsFault from to failed fault.TooLong
  refuses_long read adds long consumed = record {
    read = read;
    consumed = consumed;
    met = (long, subst AreGood (said_within-whole (take (2 ^ 20) read)) adds.good);
  }

pub ruleset pieces = (no_end, Adds-nothing)
