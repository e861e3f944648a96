-- A text that is refused is that of no table.
use Rattle.std.proofs.Common.{◌≡◌, ◌≢◌, ◌∙◌, ℕ, List, ap, sym, subst}
use Rattle.pid_types.specs.Sound.{IsBelow}
use Rattle.table_text.specs.Laws.{TextsTellStates, WhatFitsIsOfWords}
use Rattle.table_text.specs.Ranges.{IsStateOfWords, IsWord}
use Rattle.table_text.specs.Reading.{saved_state}
use Rattle.table_text.specs.Texts.{text_of}
use Rattle.table_text.specs.declared.read.Saved.{Saved}
use Rattle.table_build.specs.Tables.{IsOfTables}
use Rattle.table_build.specs.declared.fault.BuildFault.{BuildFault}
use Rattle.table_build.specs.declared.fault.BuildFault.TheVariants as build
use Rattle.table_text.specs.Reading.{IsNoText}
use Rattle.table_text.specs.declared.fault.LoadFault.{LoadFault}
use Rattle.table_text.specs.declared.fault.LoadFault.TheVariants as read
use Rattle.table_load.specs.Faults.{IsOfForm, of_build, of_load}
use Rattle.table_load.specs.Texts.{IsTextOfNoTable}
use Rattle.table_load.specs.declared.fault.RestoreFault.TheVariants.{NoMemory}

-- what was read of it is no state of a table with ids below the stamp, and no other state has the text
pub no-table : TextsTellStates → WhatFitsIsOfWords → (text : List ℕ) (saved : Saved) → text ≡ text_of saved.stamp (saved_state saved) → IsWord saved.stamp × IsStateOfWords (saved_state saved)
    → (IsOfTables (saved_state saved) → IsBelow saved.stamp (saved_state saved) → ⊥) → IsTextOfNoTable text
no-table tell fit text saved read words refuses stamp state word held tables below is =
    let same = tell stamp saved.stamp state (saved_state saved) word words.0 (fit state held) words.1 (sym is ∙ read) in
    refuses (subst IsOfTables same.1 tables) (subst (λ n. IsBelow n (saved_state saved)) same.0 (subst (IsBelow stamp) same.1 below))

-- a reader's fault that is one of the form is no want of memory
pub form-told : (f : LoadFault) (T : Type 0) → (f ≢ read.NoMemory → T) → IsOfForm (of_load f) → T
form-told read.NoMemory T told form = absurd form
form-told (read.BadLine line) T told form = told (λ e. cc)
form-told (read.WrongDigest line) T told form = told (λ e. cc)

-- a text that is that of no state is that of no table
pub no-text : (f : LoadFault) (text : List ℕ) → (f ≢ read.NoMemory → IsNoText text) → of_load f ≢ NoMemory → IsTextOfNoTable text
no-text f text told not stamp state word held tables below is = told (λ e. not (ap of_load e)) stamp state word held is

-- no fault of a builder is one of the form
pub no-form : (f : BuildFault) → IsOfForm (of_build f) → ⊥
no-form build.NoMemory form = form
no-form (build.BadSettings line) form = form
no-form (build.Unsorted line) form = form
no-form (build.UnknownParent line) form = form
no-form (build.UnknownNamespace line) form = form
no-form (build.UnknownGroup line) form = form
no-form (build.BadName line) form = form
no-form (build.TakenNumber line) form = form
no-form (build.Impossible line) form = form
