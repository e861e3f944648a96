-- Jobs and what comes of them.
use Rattle.std.specs.Prelude.{◌≡◌, ◌≢◌, ◌⊎◌, ℕ, ◌+◌, ◌<◌, Bool, false, List, [], ◌∷◌, ◌++◌, length, map, All, IfOk, Result, Ok, Err}
use Rattle.std.specs.List.{flat_map}
use Rattle.pid_types.specs.declared.call.Call.{Call}
use Rattle.pid_types.specs.declared.entry.Receipt.{Receipt}
use Rattle.pid_types.specs.declared.reply.CallFault.{CallFault}
use Rattle.std.specs.declared.alloc.AllocError.{AllocError}
use Rattle.worker_jobs.specs.declared.fault.RunFault.{RunFault}
use Rattle.worker_jobs.specs.declared.fault.RunFault.TheVariants.{Audit}
use Rattle.worker_jobs.specs.declared.result.Work.{Work}

-- the first list is the second with some left out
abbrev pub IsPartOf : List Call → List Call → Type 0
IsPartOf [] ys = Unit {0}
IsPartOf (x ∷ xs) [] = ⊥
IsPartOf (x ∷ xs) (y ∷ ys) = ((x ≡ y) × IsPartOf xs ys) ⊎ IsPartOf (x ∷ xs) ys

abbrev pub calls_received : List Receipt → List Call
calls_received receipts = map (λ (r : Receipt). r.call) receipts

-- each call has a receipt or was refused, and the receipts are in order
pub record Fulfils (calls : List Call) (receipts : List Receipt) (refused : ℕ) : Type 0 where
  pub counted : length receipts + refused ≡ length calls
  pub in_order : IsPartOf (calls_received receipts) calls

-- a call, and what the desk answered
abbrev pub Answered : Type 0
Answered = Call × Result Receipt CallFault

-- the receipt, if the answer is one
abbrev pub receipt_in : Result Receipt CallFault → List Receipt
receipt_in (Ok receipt) = receipt ∷ []
receipt_in (Err fault) = []

-- the receipts that the desk gave, in order
abbrev pub receipts_given : List Answered → List Receipt
receipts_given answers = flat_map (λ (a : Answered). receipt_in a.1) answers

-- a receipt is of the call
abbrev pub IsOfCall : Answered → Type 0
IsOfCall answer = IfOk answer.1 (λ (r : Receipt). r.call ≡ answer.0)

-- the desk was called for each of these calls, once and in order; the receipts that it gave come after those of before, and
-- the calls that it refused are counted
pub record IsServed (calls : List Call) (answers : List Answered) (before after : List Receipt) (refused : ℕ) : Type 0 where
  pub each : map (λ (a : Answered). a.0) answers ≡ calls
  pub given : after ≡ before ++ receipts_given answers
  pub counted : length (receipts_given answers) + refused ≡ length calls
  pub own : All IsOfCall answers

-- the calls of the job were made so, unless there was no memory for the receipts; the worker is the same
pub record DoesJob (IsMade : List Answered → Type 0) (old new : ℕ) (calls : List Call) (result : Result Work AllocError)
    : Type 0 where
  pub done : IfOk result (λ w. Fulfils calls w.receipts.items w.refused)
  pub made : IfOk result (λ w. (answers : List Answered) × IsMade answers × IsServed calls answers [] w.receipts.items w.refused)
  pub worker : new ≡ old

-- a gate was told before and after each call of a job, unless it never holds a worker; the calls of a worker are counted from 1
abbrev pub TellsGate : Bool → (ℕ → ℕ → Type 0) → (ℕ → ℕ → Type 0) → ℕ → List Call → Type 0
TellsGate opens before after worker calls =
    opens ≡ false → (i : ℕ) → i < length calls → before worker (i + 1) × after worker (i + 1)

-- the reason is no audit
abbrev pub IsNoAudit : RunFault → Type 0
IsNoAudit fault = (worker place : ℕ) → fault ≢ Audit worker place
