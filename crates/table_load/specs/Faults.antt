-- The faults of a text.
use Rattle.table_text.specs.declared.fault.LoadFault.{LoadFault}
use Rattle.table_text.specs.declared.fault.LoadFault.TheVariants as text
use Rattle.table_build.specs.declared.fault.BuildFault.{BuildFault}
use Rattle.table_build.specs.declared.fault.BuildFault.TheVariants as build
use Rattle.table_load.specs.declared.fault.RestoreFault.{RestoreFault}
use Rattle.table_load.specs.declared.fault.RestoreFault.TheVariants.{NoMemory, BadLine, WrongDigest, BadSettings, Unsorted, UnknownParent, UnknownNamespace, UnknownGroup, BadName, TakenNumber, Impossible}

-- what a reader of the text says
abbrev pub of_load : LoadFault → RestoreFault
of_load text.NoMemory = NoMemory
of_load (text.BadLine line) = BadLine line
of_load (text.WrongDigest line) = WrongDigest line

-- what a builder says
abbrev pub of_build : BuildFault → RestoreFault
of_build build.NoMemory = NoMemory
of_build (build.BadSettings line) = BadSettings line
of_build (build.Unsorted line) = Unsorted line
of_build (build.UnknownParent line) = UnknownParent line
of_build (build.UnknownNamespace line) = UnknownNamespace line
of_build (build.UnknownGroup line) = UnknownGroup line
of_build (build.BadName line) = BadName line
of_build (build.TakenNumber line) = TakenNumber line
of_build (build.Impossible line) = Impossible line

-- it says that the text has not the form
abbrev pub IsOfForm : RestoreFault → Type 0
IsOfForm (BadLine line) = Unit {0}
IsOfForm (WrongDigest line) = Unit {0}
IsOfForm _ = ⊥
