-- The seats of a new record, and of one that goes on.
use Rattle.std.proofs.Common.{◌≡◌, ℕ, zero, suc, ◌+◌, List, replicate, refl, ap, arith}
use Rattle.std.specs.Prelude.{slice_index}
use Rattle.pid_types.specs.Settings.{Settings}
use Rattle.pid_types.specs.State.{State}
use Rattle.kept_table.specs.Calls.{begun, resumed}
use Rattle.kept_table.specs.Chronicle.{Chronicle, recorded}
use Rattle.locked_table.specs.SeatState.{SeatState, AreSeats, AreCounted, AreRecorded, AreNew}

each_is_nought : (n k : ℕ) → slice_index (replicate n 0) k ≡ 0
each_is_nought zero k = refl
each_is_nought (suc n) zero = refl
each_is_nought (suc n) (suc k) = each_is_nought n k

-- a new record has no calls, and so its seats have none
pub of_new : (n room : ℕ) (config : Settings) (c : Chronicle) (seats : List SeatState) → c ≡ begun config n room → AreSeats n seats × AreRecorded n c seats → AreSeats n seats × AreNew seats
of_new n room config c seats is h = (
  h.0,
  λ k d lt.
      let none : recorded c k ≡ slice_index (replicate n 0) k + 0 = ap (λ (x : Chronicle). recorded x k) is in
      omega (arith, h.1 k d (omega (arith, lt, h.0.len)), none, each_is_nought n k),
)

-- one that goes on has the given ones
pub of_resumed : (n stamp room : ℕ) (state : State) (counts : List ℕ) (c : Chronicle) (seats : List SeatState) → c ≡ resumed state stamp counts room → AreSeats n seats × AreRecorded n c seats → AreSeats n seats × AreCounted n counts seats
of_resumed n stamp room state counts c seats is h = (
  h.0,
  λ w d lt.
      let given : recorded c w ≡ slice_index counts w + 0 = ap (λ (x : Chronicle). recorded x w) is in
      omega (arith, h.1 w d lt, given),
)
