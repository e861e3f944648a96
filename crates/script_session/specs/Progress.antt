-- What a script comes to.
use Rattle.std.specs.Prelude.{ℕ, ◌+◌, ◌-◌, ◌^◌, ⊤, Bool, true, false, List, [], ◌∷◌, ◌++◌, map, fold, codes, if◌then◌else◌, ◌==◌, ◌≡◌, IsTrue, ◌⊎◌}
use Rattle.pid_types.specs.declared.call.Call.{Call}
use Rattle.pid_types.specs.declared.reply.CallFault.TheVariants.{NoMemory, Spent}
use Rattle.pid_types.specs.declared.reply.Reply.{Reply}
use Rattle.pid_types.specs.Settings.{Settings}
use Rattle.pid_types.specs.State.{State, root_state}
use Rattle.pid_types.specs.Step.{step}
use Rattle.pid_script.specs.declared.line.Line.{Line}
use Rattle.pid_script.specs.declared.line.Line.TheVariants as says
use Rattle.pid_script.specs.Script.{with_newline}
use Rattle.pid_script.specs.Answers.{reply_text, fault_text}

-- why a sink takes no more: a write has failed, or has taken nothing
abbrev pub HasStopped : Bool → Bool → Type 0
HasStopped failed full = IsTrue failed ⊎ IsTrue full

-- how far a script has come: the table's state and the stamp of its next call, the answers, each with its newline, the recorded calls
-- with their replies, and how many lines there were, how many calls were recorded, how many lines were bad and how many calls found no
-- memory
pub record Progress : Type 0 where
  pub state : State
  pub stamp : ℕ
  pub text : List ℕ
  pub calls : List (Call × Reply)
  pub lines : ℕ
  pub recorded : ℕ
  pub bad : ℕ
  pub starved : ℕ

-- before the first line, at this state and stamp
abbrev pub at_start : State → ℕ → Progress
at_start state stamp = record {
  state = state;
  stamp = stamp;
  text = [];
  calls = [];
  lines = 0;
  recorded = 0;
  bad = 0;
  starved = 0;
}

-- before the first line of a script: the root state of the configuration, and its first stamp
abbrev pub start_of : Settings → Progress
start_of config = at_start (root_state config.pid_max) config.first_stamp

-- one line more, with this answer
abbrev pub with_answer : Progress → List ℕ → Progress
with_answer p answer = record p { text = p.text ++ with_newline answer; lines = p.lines + 1 }

-- a call that finds no memory
abbrev pub found_none : Progress → Progress
found_none p = record (with_answer p (fault_text NoMemory)) { starved = p.starved + 1 }

-- a call that is recorded: one step, which uses a stamp
abbrev pub with_step : Progress → Call → Progress
with_step p call =
    let o = step p.state p.stamp call in
    record p {
      state = o.state;
      stamp = p.stamp + 1;
      text = p.text ++ with_newline (reply_text o.reply);
      calls = p.calls ++ (call, o.reply) ∷ [];
      lines = p.lines + 1;
      recorded = p.recorded + 1;
    }

-- a call that finds no stamp below the greatest number of 64 bits changes nothing, and so does one that finds no memory
unfoldable pub after_asking : Progress → Bool → Call → Progress
after_asking p starved call =
    if p.stamp == 2 ^ 64 - 1 then with_answer p (fault_text Spent) else (if starved then found_none p else with_step p call)

-- what one line adds
abbrev pub after_saying : Progress → Bool → Line → Progress
after_saying p starved says.Empty = record p { lines = p.lines + 1 }
after_saying p starved (says.Call call) = after_asking p starved call
after_saying p starved says.Bad = record (with_answer p (codes "bad line")) { bad = p.bad + 1 }

-- the next line, and whether its call finds no memory
abbrev pub after_script_line : Progress → Line × Bool → Progress
after_script_line p line = after_saying p line.1 line.0

-- what the lines of a script come to, one after another
unfoldable pub after_script : Progress → List (Line × Bool) → Progress
after_script p script = fold after_script_line p script

-- a line may be said to find no memory if it is a call that may
abbrev pub MayStarve : (Call → Bool) → Line → Bool → Type 0
MayStarve may line false = ⊤
MayStarve may says.Empty true = ⊥
MayStarve may (says.Call call) true = IsTrue (may call)
MayStarve may says.Bad true = ⊥

-- none of the lines is said to find no memory but calls that may
abbrev pub MayAllStarve : (Call → Bool) → List (Line × Bool) → Type 0
MayAllStarve may [] = ⊤
MayAllStarve may (line ∷ script) = MayStarve may line.0 line.1 × MayAllStarve may script

-- the script is these lines, of which none finds no memory but calls that may
pub record SaysScript (may : Call → Bool) (script : List (Line × Bool)) (said : List Line) : Type 0 where
  pub lines : map (λ l. l.0) script ≡ said
  pub starved : MayAllStarve may script
