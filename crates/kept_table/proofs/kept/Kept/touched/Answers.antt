-- The ids of the present state are below the stamp
use Rattle.std.proofs.Common.{◌∙◌, sym, ap, subst, ℕ}
use Rattle.pid_types.specs.Sound.{IsBelow}
use Rattle.kept_table.specs.Chronicle.{next_stamp}
use Rattle.kept_table.proofs.Invariant.{present-sound}
use Rattle.kept_table.proofs.kept.Kept.touched.Goals as goal

pub before-requires : goal.before-requires
before-requires c = subst (λ (stamp : ℕ). IsBelow stamp c.self.inside.table) (ap next_stamp c.self.view_is ∙ sym c.in-Some.ensures.some) (present-sound c.soundness_is_kept.ensures.run _ _ c.self.invariant.counted.kept).1
