-- What the steps keep of each part.
use Rattle.std.proofs.Common.{◌≡◌, ℕ, ◌+◌, ◌-◌, ◌<◌, ◌≤◌, Bool, true, false, List, [], ◌∷◌, length, take, Option, Some, None, refl, ap, sym, ◌∙◌, arith, max, min, inl, inr}
use Rattle.log_turns.specs.Disk.{LogFile, numbers, put, front}
use Rattle.log_turns.specs.World.{with_bytes, all_sure}
use Rattle.log_turns.proofs.Counts.{EndUpTo-more, calls_to-more, calls_to-taken, calls_to-all}
use Rattle.log_turns.proofs.Fronts.{IsFront, IsFront-take, IsFront-put, front-numbers}
use Rattle.log_turns.proofs.Reading.{read_to-more}
use Rattle.log_turns.proofs.Sound.{IsSoundLog, IsSoundPast, IsSoundBegun, IsSoundCalls}

-- no log was begun
pub no_log : (u t u' t' : Bool) (s w s' w' : ℕ) (begun : Option ℕ) → IsSoundBegun u t s w begun → u ≡ false → IsSoundBegun u' t' s' w' begun
no_log u t u' t' s w s' w' None g e = tt
no_log u t u' t' s w s' w' (Some at) g e = let no : true ≡ false = sym g.undoing ∙ e in cc

-- a log that was begun is there where the other is whole, and all of that is synced
pub synced_still : (u t : Bool) (s w s' : ℕ) (begun : Option ℕ) → IsSoundBegun u t s w begun → s ≤ s' → s' ≤ w → IsSoundBegun u t s' w begun
synced_still u t s w s' None g h k = tt
synced_still u t s w s' (Some at) g h k =
    record { undoing = g.undoing; whole = g.whole; behind = g.behind; lasting = omega (arith, g.lasting) }

pub whole_still : (u t : Bool) (s w : ℕ) (begun : Option ℕ) → IsSoundBegun u t s w begun → IsSoundBegun u false s w begun
whole_still u t s w None g = tt
whole_still u t s w (Some at) g = record { undoing = g.undoing; whole = refl; behind = g.behind; lasting = g.lasting }

-- the log is cut back to what is written
pub cut_log :
    (s y w e : ℕ) (torn torn' closed turning : Bool) (log : LogFile) (to : ℕ) → to ≡ w - s → IsSoundLog s y w e torn closed turning log
    → IsSoundLog s y w e torn' closed turning (with_bytes (take to log.bytes) log)
cut_log s y w e torn torn' closed turning log to is g =
    let f : IsFront s to to (take to log.bytes) = IsFront-take s to log.bytes g.in_order (omega (arith, g.written)) in
    record {
      first = g.first;
      in_order = f.in_order;
      from = g.from;
      synced = g.synced;
      written = omega (arith, f.least);
      taken = omega (arith, f.most, g.written, g.taken);
      whole = λ _. omega (arith, f.least, f.most, g.from, g.synced);
      sure = omega (arith, f.least, g.sure, g.from, g.synced);
      there = omega arith;
      closed_synced = g.closed_synced;
      closed_all = g.closed_all;
      turning = g.turning;
    }

-- Bytes are written behind what is written. What is written is more, or it is not known that it is.
pub write_log :
    (s y w e : ℕ) (before torn closed turning : Bool) (log : LogFile) (at n w' : ℕ) → before ≡ false → at ≡ w - s → 0 < e - w → n ≤ e - w
    → w ≤ w' → w' ≤ w + n → (torn ≡ false → w' ≡ w + n) → IsSoundLog s y w e before closed turning log
    → IsSoundLog s y w' e torn closed turning (with_bytes (put at (numbers w n) log.bytes) log)
write_log s y w e before torn closed turning log at n w' whole is some few more most all g =
    let f : IsFront s (max (length log.bytes) (at + n)) (max (length log.bytes) (at + n)) (put at (numbers w n) log.bytes) =
    IsFront-put s at w n log.bytes g.in_order (omega (arith, g.written)) (omega (arith, g.from, g.synced)) in
    let long : s + length log.bytes ≡ w = g.whole whole in
    record {
      first = g.first;
      in_order = f.in_order;
      from = g.from;
      synced = omega (arith, g.synced);
      written = omega (arith, f.least, g.from, g.synced);
      taken = omega (arith, f.most, g.from, g.synced, g.taken);
      whole = λ no. omega (arith, f.least, f.most, all no, g.from, g.synced);
      sure = omega (arith, f.least, g.sure, g.there);
      there = omega arith;
      closed_synced = λ yes. absurd (omega (arith, g.closed_all yes));
      closed_all = λ yes. absurd (omega (arith, g.closed_all yes));
      turning = g.turning;
    }

-- all that is written is synced
pub sync_log :
    (s y w e : ℕ) (torn closed closed' turning : Bool) (log : LogFile) → (closed' ≡ true → w ≡ e) → IsSoundLog s y w e torn closed turning log
    → IsSoundLog s w w e torn closed' turning (all_sure log)
sync_log s y w e torn closed closed' turning log all g =
    record {
      first = g.first;
      in_order = g.in_order;
      from = omega (arith, g.from, g.synced);
      synced = omega arith;
      written = g.written;
      taken = g.taken;
      whole = g.whole;
      sure = g.written;
      there = omega arith;
      closed_synced = λ _. refl;
      closed_all = all;
      turning = g.turning;
    }

-- the log goes on in its file
pub open_log :
    (s y w e e' : ℕ) (torn closed turning turning' : Bool) (log : LogFile) → e ≤ e' → (turning' ≡ true → s < e')
    → IsSoundLog s y w e torn closed turning log → IsSoundLog s y w e' torn false turning' log
open_log s y w e e' torn closed turning turning' log more turns g =
    record {
      first = g.first;
      in_order = g.in_order;
      from = g.from;
      synced = g.synced;
      written = g.written;
      taken = omega (arith, g.taken);
      whole = g.whole;
      sure = g.sure;
      there = g.there;
      closed_synced = λ (no : false ≡ true). cc;
      closed_all = λ (no : false ≡ true). cc;
      turning = turns;
    }

-- the log goes on, and may have to go on in a new file
pub turn_log :
    (s y w e : ℕ) (torn closed turning turning' : Bool) (log : LogFile) → (turning' ≡ true → s < e) → IsSoundLog s y w e torn closed turning log
    → IsSoundLog s y w e torn closed turning' log
turn_log s y w e torn closed turning turning' log turns g =
    record {
      first = g.first;
      in_order = g.in_order;
      from = g.from;
      synced = g.synced;
      written = g.written;
      taken = g.taken;
      whole = g.whole;
      sure = g.sure;
      there = g.there;
      closed_synced = g.closed_synced;
      closed_all = g.closed_all;
      turning = turns;
    }

-- what was written up to a place is synced
pub sync_log_to :
    (s y w e : ℕ) (torn closed turning : Bool) (log : LogFile) (place : ℕ) → IsSoundLog s y w e torn closed turning log
    → IsSoundLog s (max y (min place w)) w e torn closed turning (record log { sure = max log.sure (min place w - s) })
sync_log_to s y w e torn closed turning log place g =
    record {
      first = g.first;
      in_order = g.in_order;
      from = omega (arith, g.from);
      synced = omega (arith, g.synced);
      written = g.written;
      taken = g.taken;
      whole = g.whole;
      sure = omega (arith, g.sure);
      there = omega (arith, g.there, g.written);
      closed_synced = λ yes. omega (arith, g.closed_synced yes);
      closed_all = g.closed_all;
      turning = g.turning;
    }

-- a new log, behind one that is closed
pub begun_log :
    (y w e : ℕ) (torn : Bool) → y ≡ w → w ≡ e → torn ≡ false → IsSoundLog e y w e torn false false (record { first = e; bytes = []; sure = 0 })
begun_log y w e torn synced all whole =
    record {
      first = refl;
      in_order = refl;
      from = omega arith;
      synced = omega arith;
      written = omega arith;
      taken = omega arith;
      whole = λ _. omega arith;
      sure = omega arith;
      there = omega arith;
      closed_synced = λ (no : false ≡ true). cc;
      closed_all = λ (no : false ≡ true). cc;
      turning = λ (no : false ≡ true). cc;
    }

-- a log that is closed is one of the past
pub close_log :
    (s y w e : ℕ) (torn closed turning named has : Bool) (log : LogFile) (snapshot current : ℕ) (older : List LogFile)
    → closed ≡ true → turning ≡ true → IsSoundLog s y w e torn closed turning log → IsSoundPast s named has snapshot current older
    → IsSoundPast e false false snapshot current (log ∷ older)
close_log s y w e torn closed turning named has log snapshot current older ends turns g past =
    let long : s + length log.bytes ≡ e = omega (arith, g.written, g.taken, g.closed_all ends) in
    let read : front s log.bytes ≡ length log.bytes = ap (front s) g.in_order ∙ front-numbers s (length log.bytes) in
    let all : s + front s log.bytes ≡ e = omega arith in
    record {
      older = read_to-more snapshot s log older past.snapshot g.first past.older ∙ ap Some all;
      lasting = (omega (arith, g.sure, g.there, g.closed_synced ends, g.closed_all ends), past.lasting);
      in_order = (g.in_order ∙ ap (λ a. numbers a (length log.bytes)) (sym g.first), past.in_order);
      below = omega (arith, g.first, g.turning turns);
      snapshot = omega (arith, past.snapshot, g.turning turns);
      has_snapshot = λ (no : false ≡ true). cc;
      named = λ (no : false ≡ true). cc;
      current = elim past.current [ inl e ↦ inr (inl (g.first ∙ e)) | inr b ↦ inr (inr b) ];
    }

pub more_calls :
    (always : Bool) (taken answered y w e y' w' e' : ℕ) (ends : List ℕ) → y ≤ y' → w ≤ w' → e ≤ e'
    → IsSoundCalls always taken answered y w e ends → IsSoundCalls always taken answered y' w' e' ends
more_calls always taken answered y w e y' w' e' ends h k l g =
    record {
      ends = EndUpTo-more e e' ends l g.ends;
      taken = g.taken;
      answered = omega (arith, g.answered, calls_to-more w w' ends k);
      always = λ yes. omega (arith, g.always yes, calls_to-more y y' ends h);
    }

pub take_call :
    (always : Bool) (taken answered y w e size : ℕ) (ends : List ℕ) → IsSoundCalls always taken answered y w e ends
    → IsSoundCalls always (taken + 1) answered y w (e + size) ((e + size) ∷ ends)
take_call always taken answered y w e size ends g =
    record {
      ends = (omega arith, EndUpTo-more e (e + size) ends (omega arith) g.ends);
      taken = omega (arith, g.taken);
      answered = omega (arith, g.answered, calls_to-taken w (e + size) ends);
      always = λ yes. omega (arith, g.always yes, calls_to-taken y (e + size) ends);
    }

pub answer_all :
    (always : Bool) (taken answered y w e : ℕ) (ends : List ℕ) → e ≤ w → (always ≡ true → e ≤ y)
    → IsSoundCalls always taken answered y w e ends → IsSoundCalls always taken taken y w e ends
answer_all always taken answered y w e ends h k g =
    record {
      ends = g.ends;
      taken = g.taken;
      answered = omega (arith, g.taken, calls_to-all w ends (EndUpTo-more e w ends h g.ends));
      always = λ yes. omega (arith, g.taken, calls_to-all y ends (EndUpTo-more e y ends (k yes) g.ends));
    }

pub answered_as :
    (always : Bool) (taken answered y w e : ℕ) (calls : ℕ) (ends : List ℕ) → calls ≡ answered → IsSoundCalls always taken answered y w e ends
    → IsSoundCalls always taken calls y w e ends
answered_as always taken answered y w e calls ends is g =
    record { ends = g.ends; taken = g.taken; answered = omega (arith, g.answered); always = λ syncs. omega (arith, g.always syncs) }
