-- A call that touches nobody has nothing to be reckoned.
use Rattle.std.proofs.Common.{◌≡◌, ◌≤◌, ℕ, Bool, true, false, List, [], refl, arith}
use Rattle.pid_types.specs.declared.call.Call.{Call}
use Rattle.pid_types.specs.declared.call.Call.TheVariants.{Fork, GetPid, NsPid, Exec, Exit, Wait, GetPpid, SetPgid, SetSid, MakeControl, RemoveControl, SetLimit, Move, Count, GetPgid, GetSid, Next, Join, SetSubreaper}
use Rattle.pid_types.specs.State.{State}
use Rattle.translate.specs.Pages.{AreListedFrom}
use Rattle.call_effects.specs.Reckoned.{IsReckoned, IsTouching}
use Rattle.call_effects.specs.Touched.{is_touching}

pub touching_none : (state : State) (stamp : ℕ) (call : Call) → is_touching call ≡ false → IsTouching state stamp call []
touching_none state stamp (Fork caller new_space) other = refl
touching_none state stamp (GetPid caller) other = refl
touching_none state stamp (NsPid caller target) other = refl
touching_none state stamp (Exec caller) other = refl
touching_none state stamp (Exit caller status) other = absurd (cc)
touching_none state stamp (Wait caller which) other = absurd (cc)
touching_none state stamp (GetPpid caller) other = refl
touching_none state stamp (SetPgid caller pid pgid) other = absurd (cc)
touching_none state stamp (SetSid caller) other = absurd (cc)
touching_none state stamp (MakeControl parent) other = refl
touching_none state stamp (RemoveControl id) other = refl
touching_none state stamp (SetLimit id limit) other = refl
touching_none state stamp (Move task id) other = refl
touching_none state stamp (Count id) other = refl
touching_none state stamp (GetPgid caller pid) other = refl
touching_none state stamp (GetSid caller pid) other = refl
touching_none state stamp (Next caller what from) other = refl
touching_none state stamp (Join caller target) other = refl
touching_none state stamp (SetSubreaper caller on) other = refl

-- no number
none_listed : AreListedFrom [] 0 []
none_listed = record { rising = tt; each = λ m. (λ in_none. absurd in_none, λ both. absurd both.1) }

pub reckoned_none : (state : State) → IsReckoned state [] (record { tasks = []; groups = []; sessions = []; spaces = [] })
reckoned_none state = record {
  tasks = record { numbered = refl; before = λ w in_none. absurd in_none };
  groups = none_listed;
  sessions = none_listed;
  own = [];
  own_spaces = none_listed;
  ids = [];
  all_spaces = none_listed;
  spaces = record { numbered = refl; before = λ w in_none. absurd in_none };
}
