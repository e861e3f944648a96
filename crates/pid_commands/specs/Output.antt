-- What `list` and `work` write.
use Rattle.std.specs.Prelude.{ℕ, ◌≡◌, ◌≢◌, ◌+◌, ◌<◌, List, [], ◌∷◌, ◌++◌, ◌⊎◌, Bool, length, slice_index_or, codes, decimal, Option, None, Vec}
use Rattle.std.specs.declared.alloc.Global.{Global}
use Rattle.std.specs.List.{flat_map}
use Rattle.pid_types.specs.Settings.{Settings}
use Rattle.pid_types.specs.State.{State, root_state}
use Rattle.pid_types.specs.Step.{may_grow}
use Rattle.pid_types.specs.declared.call.Call.{Call}
use Rattle.pid_types.specs.declared.entry.Receipt.{Receipt}
use Rattle.pid_types.specs.declared.reply.Reply.{Reply}
use Rattle.kept_table.specs.Chronicle.{Chronicle}
use Rattle.kept_table.specs.Promise.{KeepsPromise}
use Rattle.worker_jobs.specs.Job.{Fulfils}
use Rattle.worker_jobs.specs.Receipts.{IsAudited}
use Rattle.worker_jobs.specs.declared.result.Work.{Work}
use Rattle.pid_script.specs.Script.{with_newline}
use Rattle.script_session.specs.Progress.{start_of}
use Rattle.script_session.specs.Session.{ended_at, Finishes, Leaves}
use Rattle.script_session.specs.declared.tally.RunScriptFault.{RunScriptFault}
use Rattle.script_session.specs.declared.tally.RunScriptFault.TheVariants as script
use Rattle.pid_commands.specs.declared.fault.Fault.{Fault}
use Rattle.pid_commands.specs.declared.fault.Fault.TheVariants.{NoMemory}
use Rattle.pid_commands.specs.Faults.{of_script}
use Rattle.script_session.specs.declared.tally.Tally.{Tally}
use Rattle.pid_script.specs.Answers.{reply_text}
use Rattle.table_lines.specs.Listed.{list_of_state}

-- the line of a receipt: its place among all recorded calls, and the answer
abbrev pub receipt_line : Receipt → List ℕ
receipt_line receipt = decimal receipt.ordinal ++ codes " " ++ with_newline (reply_text receipt.reply)

-- the lines of a worker: its number, its receipts, and how many of its calls had none
abbrev pub work_lines : ℕ → Work → List ℕ
work_lines worker work =
    with_newline (codes "worker " ++ decimal worker)
    ++ flat_map receipt_line work.receipts.items
    ++ with_newline (codes "refused " ++ decimal work.refused)

-- the lines of the workers, the first of whom has this number
abbrev pub works_text : ℕ → List Work → List ℕ
works_text first [] = []
works_text first (work ∷ works) = work_lines first work ++ works_text (first + 1) works

-- the text is what workers of these jobs had, and the list of the table that they left. The table was made with the settings, it
-- keeps the promise of a record, its history is whole and begins with the root init alone, and in it are just the receipts that the
-- workers have
pub record ShowsRun (settings : Settings) (jobs : List (Vec Call Global)) (text : List ℕ) : Type 0 where
  pub kept : Chronicle
  pub works : List Work
  pub made : kept.config ≡ settings
  pub promised : KeepsPromise kept
  pub whole : kept.first_kept ≡ 0
  pub begins : kept.opening ≡ root_state settings.pid_max
  pub many : length works ≡ length jobs
  pub done : (w : ℕ) (d : Work) (j : Vec Call Global) → w < length jobs
      → Fulfils (slice_index_or jobs w j).items (slice_index_or works w d).receipts.items (slice_index_or works w d).refused
  pub audited : IsAudited (length jobs) kept works
  pub told : text ≡ works_text 0 works ++ list_of_state kept.present

-- the source is at its end, no call of its script found no memory, and the list is that of the state to which it leads
pub record ListsScript (settings : Settings) (from to : Option (List ℕ)) (list : List ℕ) : Type 0 where
  pub present : State
  pub stamp : ℕ
  pub tally : Tally
  pub text : List ℕ
  pub calls : List (Call × Reply)
  pub finished : Finishes may_grow (start_of settings) (ended_at present stamp tally text calls) from to None None
  pub all : tally.starved ≡ 0
  pub listed : list ≡ list_of_state present

-- there was no memory for the list or a call, or the script stopped short of its end, after at most so many reads; nothing of it is written
abbrev pub FailsToList : ℕ → Settings → Option (List ℕ) → Option (List ℕ) → Bool → Fault → Type 0
FailsToList turns settings from to failed fault =
    (fault ≡ NoMemory)
    ⊎ ((f : RunScriptFault) × (fault ≡ of_script f) × (f ≢ script.Write)
    × Leaves may_grow turns (start_of settings) from to None None failed f)
