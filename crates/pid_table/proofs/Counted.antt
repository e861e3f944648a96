-- All tasks are in the root control group or below it, and where there are no threads these are the rows.
use Rattle.std.proofs.Common.{◌≡◌, true, [], length, ap, subst, arith}
use Rattle.pid_types.specs.declared.plain.Row.{Row}
use Rattle.pid_types.specs.declared.plain.Control.{Control}
use Rattle.pid_types.specs.Membership.{IsIn}
use Rattle.pid_types.specs.State.{State}
use Rattle.pid_types.specs.Sound.{IsSound}
use Rattle.pid_types.specs.Controls.{control_path, is_below, count}
use Rattle.model_laws.proofs.Lists.{contains-from_IsIn, filter-all}
use Rattle.model_laws.proofs.Rising.{find-key_at}

pub all-counted : (state : State) → IsSound state → state.threads ≡ [] → count state 0 ≡ length state.rows
unfolding count
all-counted state sound none =
    let all = ap length (filter-all (λ row. is_below state.controls row.home 0) state.rows each) in
    rw none (omega (arith, all))
  where
    each : (r : Row) → IsIn r state.rows → is_below state.controls r.home 0 ≡ true
    each r on =
        let c = sound.coherent.homes r on in
        let at = find-key_at (λ (x : Control). x.id) state.controls r.home c.0 c.1 in
        contains-from_IsIn (control_path state.controls r.home) 0 (subst (λ i. IsIn 0 (control_path state.controls i)) at.1 (sound.coherent.controls.chains c.0 at.0))
