-- When a run of workers is at odds with its record.
use Rattle.std.specs.Prelude.{◌≡◌, ◌≢◌, ◌⊎◌, ◌<◌, ℕ, Bool, true, List, length, slice_index_or, Vec}
use Rattle.std.specs.declared.alloc.Global.{Global}
use Rattle.pid_types.specs.declared.call.Call.{Call}
use Rattle.pid_types.specs.Settings.{Settings}
use Rattle.kept_table.specs.Chronicle.{Chronicle}
use Rattle.worker_jobs.specs.Job.{Fulfils, TellsGate}
use Rattle.worker_jobs.specs.Receipts.{IsFirstFault}
use Rattle.worker_jobs.specs.declared.fault.RunFault.{RunFault}
use Rattle.worker_jobs.specs.declared.fault.RunFault.TheVariants.{Audit}
use Rattle.worker_jobs.specs.declared.result.Work.{Work}

-- each job has what came of it
abbrev pub AreFulfilled : List (Vec Call Global) → List Work → Type 0
AreFulfilled jobs works =
    (w : ℕ) (d : Work) (j : Vec Call Global) → w < length jobs
    → Fulfils (slice_index_or jobs w j).items (slice_index_or works w d).receipts.items (slice_index_or works w d).refused

-- a gate was told of each call of each job, unless it never holds a worker
abbrev pub TellsGateOfEach : Bool → (ℕ → ℕ → Type 0) → (ℕ → ℕ → Type 0) → List (Vec Call Global) → Type 0
TellsGateOfEach opens before after jobs =
    (w : ℕ) (j : Vec Call Global) → w < length jobs → TellsGate opens before after w (slice_index_or jobs w j).items

-- the record is none that these settings began, whole; or the receipts of the worker differ from it at the place first
abbrev pub HasDiscrepancy : Settings → Chronicle → List Work → ℕ → ℕ → Type 0
HasDiscrepancy settings kept works worker place =
    ((kept.config ≢ settings) ⊎ ((kept.is_resumed ≡ true) ⊎ (kept.first_kept ≢ 0))) ⊎ IsFirstFault kept works worker place

-- an audit is the reason only where what came of the jobs is at odds with the record
abbrev pub TellsAudit : Settings → List (Vec Call Global) → RunFault → Type 0
TellsAudit settings jobs fault =
    (worker place : ℕ) → fault ≡ Audit worker place
    → (kept : Chronicle) × (works : List Work) × AreFulfilled jobs works × HasDiscrepancy settings kept works worker place
