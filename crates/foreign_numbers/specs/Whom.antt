-- Whom a page lists, as a number.
use Rattle.std.specs.Prelude.{ℕ, ◌==◌, Option, Some, None, if◌then◌else◌}
use Rattle.pid_types.specs.declared.call.Kind.TheVariants.{Task, Group, Session}
use Rattle.translate.specs.declared.members.Reach.TheVariants.{Own, Subtree}
use Rattle.translate.specs.declared.page.Whom.{Whom}
use Rattle.translate.specs.declared.page.Whom.TheVariants.{Belonging, Namespace}

-- whom a page lists
abbrev pub whom_of : ℕ → Option Whom
whom_of choice =
    if choice == 0 then Some (Belonging Task)
    else (if choice == 1 then Some (Belonging Group)
    else (if choice == 2 then Some (Belonging Session)
    else (if choice == 3 then Some (Namespace Subtree)
    else (if choice == 4 then Some (Namespace Own) else None))))
