-- What is kept in each world that can be come to.
use Rattle.std.proofs.Common.{◌≡◌, ℕ, ◌+◌, ◌≤◌, Bool, true, false, List, [], ◌∷◌, length, take, Option, Some, None, refl, ap, sym, ◌∙◌, arith, subst, inl, inr, eq-eqb}
use Rattle.std.specs.Prelude.{◌⊎◌, IsSomeAnd}
use Rattle.log_turns.specs.declared.step.Step.{Step}
use Rattle.log_turns.specs.declared.step.Step.TheVariants.{Rest, Wait, Lost, Ended, Cut, Write, Sync, Answer, Close, Begin, Undo}
use Rattle.log_turns.specs.Disk.{Disk, LogFile, numbers, front, read_to, read_begun, start_takes, IsLeft, IsLeftOf, NamesLog, BeginsOne, AreInOrder}
use Rattle.log_turns.specs.Next.{IsNextStep}
use Rattle.log_turns.specs.World.{World, Happening, MayHappen, AllMayHappen, happens, after, started, calls_to, EndUpTo}
use Rattle.log_turns.specs.World.Happening.{Takes, Does, Fails, Retries, Wants_turn, Stops, Syncs_to, Sync_fails, Renames, Tells_name, Snapshots, Tells_snapshot, Tells_no_snapshot, Drops}
use Rattle.log_turns.specs.Promises.{IsComeTo}
use Rattle.log_turns.proofs.Counts.{calls_to-more, calls_to-all}
use Rattle.log_turns.proofs.Fronts.{length-numbers, front-numbers, front-take, front-length, take-numbers}
use Rattle.log_turns.proofs.Reading.{read_to-more, read_to-left, BeginsOne-left}
use Rattle.log_turns.proofs.Sound.{IsSound, IsSoundBegun}
use Rattle.log_turns.proofs.Events.{all_go_on}

sound_start : (ends : List ℕ) (size : ℕ) (is_always is_named : Bool) → EndUpTo size ends → IsSound (started ends size is_always is_named)
sound_start ends size is_always is_named h =
    let long : length (numbers 0 size) ≡ size = length-numbers 0 size in
    record {
      log = record {
        first = refl;
        in_order = ap (numbers 0) (sym long);
        from = omega arith;
        synced = omega arith;
        written = omega arith;
        taken = omega arith;
        whole = λ _. omega arith;
        sure = omega arith;
        there = omega arith;
        closed_synced = λ _. refl;
        closed_all = λ _. refl;
        turning = λ (no : false ≡ true). cc;
      };
      past = record {
        older = refl;
        lasting = tt;
        in_order = tt;
        below = tt;
        snapshot = omega arith;
        has_snapshot = λ _. refl;
        named = λ _. refl;
        current = inl refl;
      };
      begun = tt;
      calls = record {
        ends = h;
        taken = refl;
        answered = calls_to-all size ends h;
        always = λ _. calls_to-all size ends h;
      };
    }

pub sound : (w : World) → IsComeTo w → IsSound w
sound w r =
    subst IsSound (sym r.now) (all_go_on r.events (started r.ends r.size r.is_always r.is_named) (sound_start r.ends r.size r.is_always r.is_named r.found) r.may_happen)

-- who has lost a sync answers no more, whatever happens next
pub record IsDone (w : World) (n : ℕ) : Type 0 where
  pub lost : w.turns.is_lost ≡ true
  pub answered : w.turns.answered ≡ n

lost_does : (w : World) (step : Step) (k n : ℕ) → IsDone w n → IsNextStep w.turns step → IsDone (happens w (Does step k)) n
lost_does w (Cut to) k n g h = record { lost = g.lost; answered = g.answered }
lost_does w (Write at size) k n g h = record { lost = g.lost; answered = g.answered }
lost_does w Sync k n g h = record { lost = g.lost; answered = g.answered }
lost_does w (Answer calls) k n g h = let no : true ≡ false = sym g.lost ∙ h.whole.free.not_lost in cc
lost_does w Close k n g h = record { lost = g.lost; answered = g.answered }
lost_does w (Begin first) k n g h = record { lost = g.lost; answered = g.answered }
lost_does w Undo k n g h = record { lost = g.lost; answered = g.answered }
lost_does w Rest k n g h = g
lost_does w Wait k n g h = g
lost_does w Lost k n g h = g
lost_does w Ended k n g h = g

lost_fails : (w : World) (step : Step) (k n : ℕ) → IsDone w n → IsDone (happens w (Fails step k)) n
lost_fails w (Cut to) k n g = record { lost = g.lost; answered = g.answered }
lost_fails w (Write at size) k n g = record { lost = g.lost; answered = g.answered }
lost_fails w Sync k n g = record { lost = refl; answered = g.answered }
lost_fails w (Answer calls) k n g = record { lost = g.lost; answered = g.answered }
lost_fails w Close k n g = record { lost = refl; answered = g.answered }
lost_fails w (Begin first) k n g = record { lost = g.lost; answered = g.answered }
lost_fails w Undo k n g = record { lost = g.lost; answered = g.answered }
lost_fails w Rest k n g = record { lost = g.lost; answered = g.answered }
lost_fails w Wait k n g = record { lost = g.lost; answered = g.answered }
lost_fails w Lost k n g = record { lost = g.lost; answered = g.answered }
lost_fails w Ended k n g = record { lost = g.lost; answered = g.answered }

lost_goes_on : (w : World) (e : Happening) (n : ℕ) → IsDone w n → MayHappen w e → IsDone (happens w e) n
lost_goes_on w (Does step k) n g h = lost_does w step k n g h
lost_goes_on w (Fails step k) n g h = lost_fails w step k n g
lost_goes_on w (Takes size) n g h = record { lost = g.lost; answered = g.answered }
lost_goes_on w Retries n g h = record { lost = g.lost; answered = g.answered }
lost_goes_on w Wants_turn n g h = record { lost = g.lost; answered = g.answered }
lost_goes_on w Stops n g h = record { lost = g.lost; answered = g.answered }
lost_goes_on w (Syncs_to place) n g h = record { lost = g.lost; answered = g.answered }
lost_goes_on w Sync_fails n g h = record { lost = refl; answered = g.answered }
lost_goes_on w Renames n g h = record { lost = g.lost; answered = g.answered }
lost_goes_on w Tells_name n g h = record { lost = g.lost; answered = g.answered }
lost_goes_on w Snapshots n g h = record { lost = g.lost; answered = g.answered }
lost_goes_on w Tells_snapshot n g h = record { lost = g.lost; answered = g.answered }
lost_goes_on w Tells_no_snapshot n g h = record { lost = g.lost; answered = g.answered }
lost_goes_on w (Drops left) n g h = record { lost = g.lost; answered = g.answered }

pub lost_for_good : (events : List Happening) (w : World) (n : ℕ) → IsDone w n → AllMayHappen w events → (after w events).turns.answered ≡ n
lost_for_good [] w n g h = g.answered
lost_for_good (e ∷ events) w n g h = lost_for_good events (happens w e) n (lost_goes_on w e n g h.0) h.1

-- a start takes all up to a place at which the log that was begun has to begin, if there is one
begun_too :
    (u t : Bool) (y w at : ℕ) (begun : Option ℕ) (P : ℕ → Type 0) → IsSoundBegun u t y w begun → (t ≡ false → y ≡ w → w ≡ at) → P at
    → IsSomeAnd (read_begun begun (Some at)) P
begun_too u t y w at None P g same p = p
begun_too u t y w at (Some place) P g same p =
    let here : place ≡ at = g.behind ∙ same g.whole g.lasting in
    rw (eq-eqb place at here) p

pub kept_if_killed : (w : World) → IsSound w → IsSomeAnd (start_takes w.disk) (λ at. w.turns.answered ≤ calls_to at w.ends)
kept_if_killed w g =
    let s = w.turns.start in
    let bytes = w.disk.log.bytes in
    let at : ℕ = s + front s bytes in
    let all : front s bytes ≡ length bytes = ap (front s) g.log.in_order ∙ front-numbers s (length bytes) in
    let read : read_to w.disk.snapshot (w.disk.log ∷ w.disk.older) ≡ Some at =
    read_to-more w.disk.snapshot s w.disk.log w.disk.older g.past.snapshot g.log.first g.past.older in
    let P : ℕ → Type 0 = λ p. w.turns.answered ≤ calls_to p w.ends in
    let more : w.turns.written ≤ at = omega (arith, g.log.written) in
    let has : P at = omega (arith, g.calls.answered, calls_to-more w.turns.written at w.ends more) in
    let Q : Option ℕ → Type 0 = λ o. IsSomeAnd (read_begun w.disk.begun o) P in
    subst Q (sym read) (begun_too _ _ _ _ at w.disk.begun P g.begun (λ whole _. omega (arith, g.log.whole whole)) has)

-- how far the log is read that a loss of power has left
pub record IsRead (s n m : ℕ) (bytes : List ℕ) : Type 0 where
  pub least : n ≤ front s bytes
  pub most : front s bytes ≤ m

read_of_left : (s : ℕ) (log left : LogFile) → IsLeftOf log left → log.bytes ≡ numbers s (length log.bytes) → log.sure ≤ length log.bytes
    → IsRead s log.sure (length log.bytes) left.bytes
read_of_left s log left h in_order there =
    let same : take log.sure left.bytes ≡ numbers s log.sure =
    h.sure ∙ (ap (take log.sure) in_order ∙ take-numbers log.sure (length log.bytes) s there) in
    record {
      least = front-take log.sure s left.bytes same;
      most = omega (arith, front-length s left.bytes, h.no_longer);
    }

read_left : (w : World) (left : Disk) → IsSound w → IsLeft w.disk left
    → read_to left.snapshot (left.log ∷ left.older) ≡ Some (w.turns.start + front w.turns.start left.log.bytes)
read_left w left g h =
    let older : read_to left.snapshot left.older ≡ Some w.turns.start =
    subst (λ t. read_to t left.older ≡ Some w.turns.start) (sym h.snapshot)
    (read_to-left w.disk.snapshot w.disk.older left.older g.past.lasting h.older ∙ g.past.older) in
    read_to-more left.snapshot w.turns.start left.log left.older (omega (arith, h.snapshot, g.past.snapshot)) (h.log.first ∙ g.log.first) older

begun_of_left :
    (u t : Bool) (y w at : ℕ) (begun left : Option ℕ) (P : ℕ → Type 0) → (left ≡ None) ⊎ (left ≡ begun) → IsSoundBegun u t y w begun
    → (t ≡ false → y ≡ w → w ≡ at) → P at → IsSomeAnd (read_begun left (Some at)) P
begun_of_left u t y w at begun left P (inl e) g same p =
    let Q : Option ℕ → Type 0 = λ o. IsSomeAnd (read_begun o (Some at)) P in
    subst Q (sym e) p
begun_of_left u t y w at begun left P (inr e) g same p =
    let Q : Option ℕ → Type 0 = λ o. IsSomeAnd (read_begun o (Some at)) P in
    subst Q (sym e) (begun_too u t y w at begun P g same p)

pub kept_without_power :
    (w : World) → IsSound w → (left : Disk) → IsLeft w.disk left
    → IsSomeAnd (start_takes left) (λ at. (w.turns.synced ≤ at) × (w.turns.is_always ≡ true → w.turns.answered ≤ calls_to at w.ends))
kept_without_power w g left h =
    let s = w.turns.start in
    let at : ℕ = s + front s left.log.bytes in
    let far = read_of_left s w.disk.log left.log h.log g.log.in_order g.log.there in
    let P : ℕ → Type 0 = λ p. (w.turns.synced ≤ p) × (w.turns.is_always ≡ true → w.turns.answered ≤ calls_to p w.ends) in
    let more : w.turns.synced ≤ at = omega (arith, g.log.sure, far.least) in
    let has : P at = (more, λ always. omega (arith, g.calls.always always, calls_to-more w.turns.synced at w.ends more)) in
    let Q : Option ℕ → Type 0 = λ o. IsSomeAnd (read_begun left.begun o) P in
    subst Q (sym (read_left w left g h))
    (begun_of_left _ _ _ _ at w.disk.begun left.begun P h.begun g.begun
    (λ whole lasting. omega (arith, g.log.whole whole, lasting, g.log.sure, far.least, far.most)) has)

pub names_log : (w : World) → IsSound w → NamesLog w.disk
names_log w g = elim g.past.current [ inl e ↦ inl (g.log.first ∙ e) | inr b ↦ inr b ]

pub names_left : (w : World) → IsSound w → (left : Disk) → IsLeft w.disk left → NamesLog left
names_left w g left h =
    let there : BeginsOne w.disk.current (left.log ∷ left.older) =
    BeginsOne-left w.disk.current (w.disk.log ∷ w.disk.older) (left.log ∷ left.older) (h.log, h.older) (names_log w g) in
    subst (λ p. BeginsOne p (left.log ∷ left.older)) (sym h.current) there

pub all_in_order : (w : World) → IsSound w → AreInOrder (w.disk.log ∷ w.disk.older)
all_in_order w g = (g.log.in_order ∙ ap (λ a. numbers a (length w.disk.log.bytes)) (sym g.log.first), g.past.in_order)
