-- Each event keeps the world sound.
use Rattle.std.proofs.Common.{◌≡◌, ℕ, zero, suc, ◌<◌, Bool, true, false, not, ◌&&◌, ◌||◌, List, [], ◌∷◌, take, Some, refl, sym, arith, min, subst, inl}
use Rattle.std.specs.Prelude.{nat_lt}
use Rattle.std.proofs.lemmas.Bool.Decides.{nat_tests}
use Rattle.log_turns.specs.declared.step.Step.{Step}
use Rattle.log_turns.specs.declared.step.Step.TheVariants.{Rest, Wait, Lost, Ended, Cut, Write, Sync, Answer, Close, Begin, Undo}
use Rattle.log_turns.specs.Disk.{LogFile, read_to}
use Rattle.log_turns.specs.Next.{IsNextStep}
use Rattle.log_turns.specs.World.{World, Happening, MayHappen, AllMayHappen, happens, after}
use Rattle.log_turns.specs.World.Happening.{Takes, Does, Fails, Retries, Wants_turn, Stops, Syncs_to, Sync_fails, Renames, Tells_name, Snapshots, Tells_snapshot, Tells_no_snapshot, Drops}
use Rattle.log_turns.proofs.Reading.{IsBelow, read_to-snapshot, AreLasting-take, AreInOrder-take, IsBelow-take}
use Rattle.log_turns.proofs.Sound.{IsSound, IsSoundPast}
use Rattle.log_turns.proofs.Steps.{no_log, synced_still, whole_still, cut_log, write_log, sync_log, open_log, sync_log_to, close_log, more_calls, take_call, answer_all, answered_as, begun_log, turn_log}

-- the name, or the snapshot, is of what is there now
named_now : (s : ℕ) (n n' h : Bool) (text now : ℕ) (logs : List LogFile) → IsSoundPast s n h text now logs → IsSoundPast s n' h text s logs
named_now s n n' h text now logs g =
    record {
      older = g.older;
      lasting = g.lasting;
      in_order = g.in_order;
      below = g.below;
      snapshot = g.snapshot;
      has_snapshot = g.has_snapshot;
      named = λ _. refl;
      current = inl refl;
    }

snapshot_now : (s : ℕ) (n h h' : Bool) (text now : ℕ) (logs : List LogFile) → IsSoundPast s n h text now logs → IsSoundPast s n h' s now logs
snapshot_now s n h h' text now logs g =
    record {
      older = read_to-snapshot s logs g.below;
      lasting = g.lasting;
      in_order = g.in_order;
      below = g.below;
      snapshot = omega arith;
      has_snapshot = λ _. refl;
      named = g.named;
      current = g.current;
    }

both_true : (a b : Bool) → (a && b) ≡ true → (a ≡ true) × (b ≡ true)
both_true true true e = (refl, refl)
both_true true false e = cc
both_true false b e = cc

dropped :
    (s : ℕ) (n h : Bool) (text now : ℕ) (logs : List LogFile) (left : ℕ) → (n ≡ true) × (h ≡ true) → IsSoundPast s n h text now logs
    → IsSoundPast s n h text now (take left logs)
dropped s n h text now logs left is g =
    let same : text ≡ s = g.has_snapshot is.1 in
    let below : IsBelow s (take left logs) = IsBelow-take left s logs g.below in
    record {
      older = subst (λ t. read_to t (take left logs) ≡ Some s) (sym same) (read_to-snapshot s (take left logs) below);
      lasting = AreLasting-take left logs g.lasting;
      in_order = AreInOrder-take left logs g.in_order;
      below = below;
      snapshot = g.snapshot;
      has_snapshot = g.has_snapshot;
      named = g.named;
      current = inl (g.named is.0);
    }

turn_wanted : (turning compacting : Bool) (s e : ℕ) → (turning ≡ true → s < e) → (turning || (nat_lt s e && not compacting)) ≡ true → s < e
turn_wanted true compacting s e g h = g refl
turn_wanted false compacting s e g h = grind (arith, nat_tests)

pub does : (w : World) (step : Step) (n : ℕ) → IsSound w → IsNextStep w.turns step → IsSound (happens w (Does step n))
does w (Cut to) n g h =
    record { log = cut_log _ _ _ _ _ _ _ _ _ _ h.2 g.log; past = g.past; begun = whole_still _ _ _ _ _ g.begun; calls = g.calls }
does w (Write at size) n g h =
    record {
      log = write_log _ _ _ _ _ _ _ _ _ at (min n size) _ h.whole.not_torn h.behind (omega (arith, h.some, h.taken)) (omega (arith, h.taken))
          (omega arith) (omega arith) (λ _. refl) g.log;
      past = g.past;
      begun = no_log _ _ _ _ _ _ _ _ _ g.begun h.whole.not_undoing;
      calls = more_calls _ _ _ _ _ _ _ _ _ _ (omega arith) (omega arith) (omega arith) g.calls;
    }
does w Sync n g h =
    record {
      log = sync_log _ _ _ _ _ _ _ _ _ g.log.closed_all g.log;
      past = g.past;
      begun = no_log _ _ _ _ _ _ _ _ _ g.begun h.whole.not_undoing;
      calls = more_calls _ _ _ _ _ _ _ _ _ _ g.log.synced (omega arith) (omega arith) g.calls;
    }
does w (Answer calls) n g h =
    record {
      log = g.log;
      past = g.past;
      begun = g.begun;
      calls = answered_as _ _ _ _ _ _ _ _ h.all (answer_all _ _ _ _ _ _ _ h.saved.written h.saved.synced g.calls);
    }
does w Close n g h =
    record {
      log = sync_log _ _ _ _ _ _ _ _ _ (λ _. omega (arith, h.0.saved.written, g.log.written, g.log.taken)) g.log;
      past = g.past;
      begun = no_log _ _ _ _ _ _ _ _ _ g.begun h.0.whole.not_undoing;
      calls = more_calls _ _ _ _ _ _ _ _ _ _ g.log.synced (omega arith) (omega arith) g.calls;
    }
does w (Begin first) n g h =
    record {
      log = begun_log _ _ _ _ (g.log.closed_synced h.2) (g.log.closed_all h.2) h.0.whole.not_torn;
      past = close_log _ _ _ _ _ _ _ _ _ _ _ _ _ h.2 h.1 g.log g.past;
      begun = tt;
      calls = g.calls;
    }
does w Undo n g h =
    record { log = open_log _ _ _ _ _ _ _ _ _ _ (omega arith) (λ (no : false ≡ true). cc) g.log; past = g.past; begun = tt; calls = g.calls }
does w Rest n g h = g
does w Wait n g h = g
does w Lost n g h = g
does w Ended n g h = g

pub fails : (w : World) (step : Step) (n : ℕ) → IsSound w → IsNextStep w.turns step → IsSound (happens w (Fails step n))
fails w (Cut to) zero g h = record { log = g.log; past = g.past; begun = g.begun; calls = g.calls }
fails w (Cut to) (suc n) g h =
    record { log = cut_log _ _ _ _ _ _ _ _ _ _ h.2 g.log; past = g.past; begun = g.begun; calls = g.calls }
fails w (Write at size) n g h =
    record {
      log = write_log _ _ _ _ _ _ _ _ _ at (min n size) _ h.whole.not_torn h.behind (omega (arith, h.some, h.taken)) (omega (arith, h.taken))
          (omega arith) (omega arith) (λ (no : true ≡ false). cc) g.log;
      past = g.past;
      begun = no_log _ _ _ _ _ _ _ _ _ g.begun h.whole.not_undoing;
      calls = g.calls;
    }
fails w Sync n g h = record { log = g.log; past = g.past; begun = g.begun; calls = g.calls }
fails w Close n g h = record { log = g.log; past = g.past; begun = g.begun; calls = g.calls }
fails w (Begin first) zero g h =
    record { log = g.log; past = g.past; begun = no_log _ _ _ _ _ _ _ _ _ g.begun h.0.whole.not_undoing; calls = g.calls }
fails w (Begin first) (suc n) g h =
    record {
      log = g.log;
      past = g.past;
      calls = g.calls;
      begun = record { undoing = refl; whole = h.0.whole.not_torn; behind = sym (g.log.closed_all h.2); lasting = g.log.closed_synced h.2 };
    }
fails w Undo zero g h = record { log = g.log; past = g.past; begun = g.begun; calls = g.calls }
fails w Undo (suc n) g h = record { log = g.log; past = g.past; begun = tt; calls = g.calls }
fails w (Answer calls) n g h = g
fails w Rest n g h = g
fails w Wait n g h = g
fails w Lost n g h = g
fails w Ended n g h = g

pub goes_on : (w : World) (e : Happening) → IsSound w → MayHappen w e → IsSound (happens w e)
goes_on w (Takes size) g h =
    record {
      log = open_log _ _ _ _ _ _ _ _ _ _ (omega arith) (λ turns. omega (arith, g.log.turning turns)) g.log;
      past = g.past;
      begun = g.begun;
      calls = take_call _ _ _ _ _ _ _ _ g.calls;
    }
goes_on w (Does step n) g h = does w step n g h
goes_on w (Fails step n) g h = fails w step n g h
goes_on w Retries g h = record { log = g.log; past = g.past; begun = g.begun; calls = g.calls }
goes_on w Wants_turn g h =
    record {
      log = turn_log _ _ _ _ _ _ _ _ _ (turn_wanted _ _ _ _ g.log.turning) g.log;
      past = g.past;
      begun = g.begun;
      calls = g.calls;
    }
goes_on w Stops g h = record { log = g.log; past = g.past; begun = g.begun; calls = g.calls }
goes_on w (Syncs_to place) g h =
    record {
      log = sync_log_to _ _ _ _ _ _ _ _ place g.log;
      past = g.past;
      begun = synced_still _ _ _ _ _ _ g.begun (omega arith) (omega (arith, g.log.synced));
      calls = more_calls _ _ _ _ _ _ _ _ _ _ (omega arith) (omega arith) (omega arith) g.calls;
    }
goes_on w Sync_fails g h = record { log = g.log; past = g.past; begun = g.begun; calls = g.calls }
goes_on w Renames g h = record { log = g.log; past = named_now _ _ _ _ _ _ _ g.past; begun = g.begun; calls = g.calls }
goes_on w Tells_name g h = record { log = g.log; past = named_now _ _ _ _ _ _ _ g.past; begun = g.begun; calls = g.calls }
goes_on w Snapshots g h = record { log = g.log; past = snapshot_now _ _ _ _ _ _ _ g.past; begun = g.begun; calls = g.calls }
goes_on w Tells_snapshot g h = record { log = g.log; past = snapshot_now _ _ _ _ _ _ _ g.past; begun = g.begun; calls = g.calls }
goes_on w Tells_no_snapshot g h = record { log = g.log; past = g.past; begun = g.begun; calls = g.calls }
goes_on w (Drops left) g h =
    record { log = g.log; past = dropped _ _ _ _ _ _ left (both_true _ _ h) g.past; begun = g.begun; calls = g.calls }

pub all_go_on : (events : List Happening) (w : World) → IsSound w → AllMayHappen w events → IsSound (after w events)
all_go_on [] w g h = g
all_go_on (e ∷ events) w g h = all_go_on events (happens w e) (goes_on w e g h.0) h.1
