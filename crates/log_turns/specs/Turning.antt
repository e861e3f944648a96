-- What becomes of the state.
use Rattle.std.specs.Prelude.{◌≡◌, ℕ, ◌+◌, ◌^◌, ◌<◌, Bool, true, false, not, ◌&&◌, ◌||◌, min, max, nat_lt}
use Rattle.log_turns.specs.declared.step.Step.{Step}
use Rattle.log_turns.specs.declared.step.Step.TheVariants.{Rest, Wait, Lost, Ended, Cut, Write, Sync, Answer, Close, Begin, Undo}
use Rattle.log_turns.specs.declared.turns.Turns.{Turns}
use Rattle.log_turns.specs.Next.{IsNextStep}

-- a log with so many bytes, all on the disk, whose calls are answered
abbrev pub begun_at : ℕ → ℕ → Bool → Bool → Turns
begun_at calls size is_always is_named =
    record {
      taken = calls;
      answered = calls;
      start = 0;
      synced = size;
      written = size;
      end = size;
      is_always = is_always;
      is_torn = false;
      is_stuck = false;
      is_lost = false;
      is_turning = false;
      is_undoing = false;
      is_closed = false;
      is_stopping = false;
      is_named = is_named;
      is_compacting = false;
      has_snapshot = false;
    }

-- a call of so many bytes is taken
pub record TakesCall (size : ℕ) (t : Turns) : Type 0 where
  pub not_stopping : t.is_stopping ≡ false
  pub not_lost : t.is_lost ≡ false
  pub number : t.taken + 1 < 2 ^ 64
  pub place : t.end + size < 2 ^ 64

abbrev pub took : ℕ → Turns → Turns
took size t = record t { taken = t.taken + 1; end = t.end + size; is_closed = false }

-- the step was done; of a write, so many bytes
abbrev pub done : Step → ℕ → Turns → Turns
done (Cut to) n t = record t { is_torn = false }
done (Write at size) n t = record t { written = t.written + min n size }
done Sync n t = record t { synced = t.written }
done (Answer calls) n t = record t { answered = calls }
done Close n t = record t { synced = t.written; is_closed = true }
done (Begin first) n t =
    record t { start = t.end; is_turning = false; is_closed = false; is_named = false; is_compacting = true; has_snapshot = false }
done Undo n t = record t { is_undoing = false; is_turning = false; is_closed = false }
done Rest n t = t
done Wait n t = t
done Lost n t = t
done Ended n t = t

-- the step has failed
abbrev pub failed : Step → Turns → Turns
failed (Cut to) t = record t { is_stuck = true }
failed (Write at size) t = record t { is_torn = true; is_stuck = true }
failed Sync t = record t { is_lost = true }
failed Close t = record t { is_lost = true }
failed (Begin first) t = record t { is_undoing = true }
failed Undo t = record t { is_stuck = true }
failed (Answer calls) t = t
failed Rest t = t
failed Wait t = t
failed Lost t = t
failed Ended t = t

-- what was to be done next was done
abbrev pub DoesNext : ℕ → Turns → Turns → Type 0
DoesNext n old new = (s : Step) × IsNextStep old s × (new ≡ done s n old)

-- what was to be done next has failed
abbrev pub FailsNext : Turns → Turns → Type 0
FailsNext old new = (s : Step) × IsNextStep old s × (new ≡ failed s old)

-- a new log is begun as soon as it can be, if this one has a call, and what is before it is at rest
abbrev pub wants_turn : Turns → Turns
wants_turn t = record t { is_turning = t.is_turning || (nat_lt t.start t.end && not t.is_compacting) }

-- a sync beside has brought all to the disk that was written up to the place
abbrev pub synced_to : ℕ → Turns → Turns
synced_to place t = record t { synced = max t.synced (min place t.written) }

-- the older logs are needed no more
abbrev pub may_drop_of : Turns → Bool
may_drop_of t = t.is_named && t.has_snapshot
