use Rattle.std.proofs.Common.{◌≡◌, ◌↔◌, None, subst}
use Rattle.std.specs.Prelude.{◌≢◌}
use Rattle.pid_types.specs.declared.plain.Control.{Control}
use Rattle.pid_types.specs.Membership.{IsIn}
use Rattle.kept_table.specs.Chronicle.{Chronicle}
use Rattle.locked_table.proofs.record.Record.count.Goals as goal

pub returns-clause-none : goal.returns-clause-none
returns-clause-none g c =
    subst (λ (t : Chronicle). (c.count.result ≡ None) ↔ ((h : Control) → IsIn h t.present.controls → h.id ≢ c.args.control)) c.self.view_is c.count.ensures.none
