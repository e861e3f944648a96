-- A session opens; a call is submitted, taken, put, read and answered.
use Rattle.std.proofs.Common.{ℕ, List, [], ◌∷◌, refl, arith, inl}
use Rattle.host_calls.specs.declared.call.CallState.TheVariants as call
use Rattle.host_calls.specs.declared.call.HostCall.{HostCall}
use Rattle.host_calls.specs.declared.step.Taken.TheVariants as taken
use Rattle.host_calls.specs.declared.step.Reading.TheVariants as reading
use Rattle.host_calls.specs.declared.step.Told.TheVariants as told
use Rattle.host_calls.specs.LogRule.{PutEntry}
use Rattle.host_calls.specs.LogRule.LogItem.{Opens, Holds}
use Rattle.host_calls.specs.HostWorld.{CallEvent, AllMayCome, comes_to, begun_world}
use Rattle.host_calls.specs.HostWorld.CallEvent.{Comes, Submits, Answers_open, Takes, Seals, Lands, Answers_put, Passes, Reads, Tells}
use Rattle.host_calls.proofs.laws.answers_calls.Goals as goal

abbrev nobody : ℕ → HostCall
nobody j = record { ticket = 0; lines = 0; size = 0; deadline = 0; session = 0; sequence = 0; place = 0; state = call.Queued }

abbrev entry : PutEntry
entry = record { session = 1; sequence = 1; parts = (0, 1) ∷ [] }

abbrev events : List CallEvent
events =
    Comes Opens ∷ Submits 1 8 0 ∷ Answers_open 1 ∷ Takes taken.Begins ∷ Seals ∷ Lands entry ∷ Answers_put ∷ Passes (Holds entry ∷ []) Opens
    ∷ Reads [] entry reading.Tells ∷ Tells told.Answers ∷ []

may_come : AllMayCome (begun_world nobody []) events
may_come = (
  tt,
  (
    record { goes = refl; some = omega arith; number = omega arith },
    (
      (record { goes = refl; none = refl; some = omega arith }, omega arith, omega arith),
      (
        (
          record {
            next = record {
              goes = refl;
              not_putting = refl;
              not_full = refl;
              session = omega arith;
              number = omega arith;
              waits = omega arith;
              ticket = refl;
            };
            live = refl;
          },
          refl,
        ),
        (
          record { goes = refl; some = refl },
          (
            inl refl,
            (
              (refl, (entry, inl refl, refl, refl)),
              (
                (refl, tt),
                (
                  (refl, refl, (refl, refl, record { own = record { goes = refl; some = omega arith; own = refl }; next = refl; sealed = omega arith })),
                  (
                    record {
                      next = record { telling = refl; number = omega arith; ticket = refl };
                      live = refl;
                      due = (record { entered = refl; session = refl }, refl);
                      words = refl;
                    },
                    tt,
                  ),
                ),
              ),
            ),
          ),
        ),
      ),
    ),
  ),
)

pub returns : goal.returns
returns c = (
  comes_to (begun_world nobody []) events,
  record { calls = nobody; log = []; nobody = λ e h. absurd h; events = events; may_come = may_come; now = refl },
  omega arith,
  refl,
)
