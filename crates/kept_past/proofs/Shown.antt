-- A snapshot and the state that it shows.
use Rattle.std.proofs.Common.{◌≡◌, List, [], ◌∷◌, map, refl, sym, ap, subst}
use Rattle.pid_types.specs.declared.plain.Control.{Control}
use Rattle.pid_types.specs.declared.plain.Plain.{Plain}
use Rattle.pid_types.specs.Shown.{Shows, with_count}
use Rattle.pid_types.specs.State.{State}
use Rattle.kept_past.specs.Opening.{state_shown, control_shown}

controls-shown : (state : State) (controls : List Control) → map control_shown (map (with_count state) controls) ≡ controls
controls-shown state [] = refl
controls-shown state (c ∷ controls) = ap (λ cs. c ∷ cs) (controls-shown state controls)

-- the state that a snapshot of a state shows is that state
pub state_of-shows : (state : State) (plain : Plain) → Shows state plain → state_shown plain ≡ state
state_of-shows state plain shows =
    rw (shows.pid_max, shows.rows, shows.spaces, shows.controls, controls-shown) (λ i. record state { threads = sym shows.threads i; left = sym shows.left i })

-- so a snapshot shows the state that is read back from it
pub shows-back : (state : State) (plain : Plain) → Shows state plain → Shows (state_shown plain) plain
shows-back state plain shows = subst (λ (s : State). Shows s plain) (sym (state_of-shows state plain shows)) shows
