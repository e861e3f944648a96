-- What is dumped is loaded again.
use Rattle.std.proofs.Common.{◌≡◌, ◌≢◌, Result, Ok, Err, IfOk, refl}
use Rattle.table_load.specs.declared.fault.RestoreFault.{RestoreFault}
use Rattle.table_load.specs.declared.fault.RestoreFault.TheVariants.{NoMemory, BadLine, WrongDigest, BadSettings, Unsorted, UnknownParent, UnknownNamespace, UnknownGroup, BadName, TakenNumber, NoInit, Impossible}

-- a fault that can be no other is want of memory
pub memory-alone : (f : RestoreFault) → (f ≢ NoMemory → ⊥) → f ≡ NoMemory
memory-alone NoMemory never = refl
memory-alone (BadLine line) never = absurd (never (λ e. cc))
memory-alone (WrongDigest line) never = absurd (never (λ e. cc))
memory-alone (BadSettings line) never = absurd (never (λ e. cc))
memory-alone (Unsorted line) never = absurd (never (λ e. cc))
memory-alone (UnknownParent line) never = absurd (never (λ e. cc))
memory-alone (UnknownNamespace line) never = absurd (never (λ e. cc))
memory-alone (UnknownGroup line) never = absurd (never (λ e. cc))
memory-alone (BadName line) never = absurd (never (λ e. cc))
memory-alone (TakenNumber line) never = absurd (never (λ e. cc))
memory-alone (NoInit line) never = absurd (never (λ e. cc))
memory-alone (Impossible line) never = absurd (never (λ e. cc))

-- what two clauses give together
pub if_loaded : {A E : Type 0} (r : Result A E) (P Q R : A → Type 0) → IfOk r P → IfOk r Q → ((a : A) → P a → Q a → R a) → IfOk r R
if_loaded (Ok a) P Q R p q f = f a p q
if_loaded (Err e) P Q R p q f = tt
