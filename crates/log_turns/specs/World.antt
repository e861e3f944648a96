-- The machine, the disk and the calls, and what may happen.
use Rattle.std.specs.Prelude.{◌≡◌, ℕ, ◌+◌, ◌-◌, ◌≤◌, zero, suc, List, [], ◌∷◌, Bool, true, false, length, take, Some, None, min, max, nat_le, if◌then◌else◌}
use Rattle.log_turns.specs.declared.step.Step.{Step}
use Rattle.log_turns.specs.declared.step.Step.TheVariants.{Rest, Wait, Lost, Ended, Cut, Write, Sync, Answer, Close, Begin, Undo}
use Rattle.log_turns.specs.declared.turns.Turns.{Turns}
use Rattle.log_turns.specs.Disk.{Disk, LogFile, numbers, put}
use Rattle.log_turns.specs.Next.{IsNextStep}
use Rattle.log_turns.specs.Turning.{TakesCall, begun_at, took, done, failed, wants_turn, synced_to, may_drop_of}

pub record World : Type 0 where
  pub turns : Turns
  pub disk : Disk
  -- where each call ends that was taken, the newest first
  pub ends : List ℕ

-- so many calls end up to there
abbrev pub calls_to : ℕ → List ℕ → ℕ
calls_to place [] = 0
calls_to place (e ∷ ends) = (if nat_le e place then 1 else 0) + calls_to place ends

-- each call ends up to there
abbrev pub EndUpTo : ℕ → List ℕ → Type 0
EndUpTo place [] = Unit {0}
EndUpTo place (e ∷ ends) = (e ≤ place) × EndUpTo place ends

-- a start, at a log that it has read to its end, and cut and synced there
abbrev pub started : List ℕ → ℕ → Bool → Bool → World
started ends size is_always is_named =
    record {
      turns = begun_at (length ends) size is_always is_named;
      disk = record {
        log = record { first = 0; bytes = numbers 0 size; sure = size };
        older = [];
        begun = None;
        snapshot = 0;
        current = 0;
      };
      ends = ends;
    }

-- the log with these bytes; those that are sure and stay are sure
abbrev pub with_bytes : List ℕ → LogFile → LogFile
with_bytes bytes log = record log { bytes = bytes; sure = min log.sure (length bytes) }

abbrev pub all_sure : LogFile → LogFile
all_sure log = record log { sure = length log.bytes }

-- a write of so many bytes that follow what is written
abbrev pub wrote : ℕ → ℕ → Turns → Disk → Disk
wrote at n t d = record d { log = with_bytes (put at (numbers t.written n) d.log.bytes) d.log }

-- What a step leaves on the disk; of a write, so many bytes.
abbrev pub done_on_disk : Step → ℕ → Turns → Disk → Disk
done_on_disk (Cut to) n t d = record d { log = with_bytes (take to d.log.bytes) d.log }
done_on_disk (Write at size) n t d = wrote at (min n size) t d
done_on_disk Sync n t d = record d { log = all_sure d.log }
done_on_disk Close n t d = record d { log = all_sure d.log }
done_on_disk (Begin first) n t d =
    record d { log = record { first = t.end; bytes = []; sure = 0 }; older = d.log ∷ d.older; begun = None }
done_on_disk Undo n t d = record d { begun = None }
done_on_disk (Answer calls) n t d = d
done_on_disk Rest n t d = d
done_on_disk Wait n t d = d
done_on_disk Lost n t d = d
done_on_disk Ended n t d = d

-- What a step leaves on the disk that has failed, or that the power fails in: so much of it all the same.
abbrev pub failed_on_disk : Step → ℕ → Turns → Disk → Disk
failed_on_disk (Cut to) zero t d = d
failed_on_disk (Cut to) (suc n) t d = done_on_disk (Cut to) 0 t d
failed_on_disk (Write at size) n t d = wrote at (min n size) t d
failed_on_disk (Begin first) zero t d = d
failed_on_disk (Begin first) (suc n) t d = record d { begun = Some t.end }
failed_on_disk Undo zero t d = d
failed_on_disk Undo (suc n) t d = record d { begun = None }
failed_on_disk Sync n t d = d
failed_on_disk Close n t d = d
failed_on_disk (Answer calls) n t d = d
failed_on_disk Rest n t d = d
failed_on_disk Wait n t d = d
failed_on_disk Lost n t d = d
failed_on_disk Ended n t d = d

pub data Happening : Type 0 where
  -- a call is taken, whose entry has so many bytes
  Takes : (size : ℕ) → Happening
  -- a step that is next was done, or has failed; so much of it, if it has parts
  Does : (step : Step) → (n : ℕ) → Happening
  Fails : (step : Step) → (n : ℕ) → Happening
  -- there may be room again
  Retries : Happening
  Wants_turn : Happening
  Stops : Happening
  -- another thread has synced what was written up to a place, or could not
  Syncs_to : (place : ℕ) → Happening
  Sync_fails : Happening
  -- `current` names the log that is written now; and the machine is told
  Renames : Happening
  Tells_name : Happening
  -- a snapshot is there of all before the log that is written; and the machine is told, or is told that none could be made
  Snapshots : Happening
  Tells_snapshot : Happening
  Tells_no_snapshot : Happening
  -- of the older logs so many are there still
  Drops : (left : ℕ) → Happening

abbrev pub MayHappen : World → Happening → Type 0
MayHappen w (Takes size) = TakesCall size w.turns
MayHappen w (Does step n) = IsNextStep w.turns step
MayHappen w (Fails step n) = IsNextStep w.turns step
MayHappen w (Drops left) = may_drop_of w.turns ≡ true
MayHappen w _ = Unit {0}

abbrev pub happens : World → Happening → World
happens w (Takes size) = record w { turns = took size w.turns; ends = (w.turns.end + size) ∷ w.ends }
happens w (Does step n) = record w { turns = done step n w.turns; disk = done_on_disk step n w.turns w.disk }
happens w (Fails step n) = record w { turns = failed step w.turns; disk = failed_on_disk step n w.turns w.disk }
happens w Retries = record w { turns = record w.turns { is_stuck = false } }
happens w Wants_turn = record w { turns = wants_turn w.turns }
happens w Stops = record w { turns = record w.turns { is_stopping = true } }
happens w (Syncs_to place) =
    record w {
      turns = synced_to place w.turns;
      disk = record w.disk { log = record w.disk.log { sure = max w.disk.log.sure (min place w.turns.written - w.turns.start) } };
    }
happens w Sync_fails = record w { turns = record w.turns { is_lost = true } }
happens w Renames = record w { disk = record w.disk { current = w.turns.start } }
happens w Tells_name = record w { turns = record w.turns { is_named = true }; disk = record w.disk { current = w.turns.start } }
happens w Snapshots = record w { disk = record w.disk { snapshot = w.turns.start } }
happens w Tells_snapshot = record w { turns = record w.turns { has_snapshot = true }; disk = record w.disk { snapshot = w.turns.start } }
happens w Tells_no_snapshot = record w { turns = record w.turns { is_compacting = false } }
happens w (Drops left) =
    record w { turns = record w.turns { is_compacting = false }; disk = record w.disk { older = take left w.disk.older } }

-- each of these may happen, one after the other
abbrev pub AllMayHappen : World → List Happening → Type 0
AllMayHappen w [] = Unit {0}
AllMayHappen w (e ∷ es) = MayHappen w e × AllMayHappen (happens w e) es

-- what comes of it
abbrev pub after : World → List Happening → World
after w [] = w
after w (e ∷ es) = after (happens w e) es
