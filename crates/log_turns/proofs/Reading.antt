-- What is read of logs.
use Rattle.std.proofs.Common.{◌≡◌, ℕ, zero, suc, ◌+◌, ◌<◌, ◌≤◌, List, [], ◌∷◌, length, take, Option, Some, None, refl, ◌∙◌, arith, subst, eq-eqb, inl, inr}
use Rattle.std.specs.Prelude.{nat_lt, false, true}
use Rattle.std.proofs.lemmas.Bool.Decides.{nat_tests}
use Rattle.log_turns.specs.Disk.{LogFile, front, read_on, read_to, IsLeftOf, AreLeftOf, BeginsOne, AreInOrder}

-- all of each log is on the disk for sure
abbrev pub AreLasting : List LogFile → Type 0
AreLasting [] = Unit {0}
AreLasting (log ∷ logs) = (log.sure ≡ length log.bytes) × AreLasting logs

-- the newest log begins before there
abbrev pub IsBelow : ℕ → List LogFile → Type 0
IsBelow place [] = Unit {0}
IsBelow place (log ∷ logs) = log.first < place

not_below : (a b : ℕ) → b ≤ a → nat_lt a b ≡ false
not_below a b h = grind (arith, nat_tests)

below : (a b : ℕ) → a < b → nat_lt a b ≡ true
below a b h = grind (arith, nat_tests)

-- a log that begins where the others end is read on
pub read_to-more :
    (snapshot start : ℕ) (log : LogFile) (older : List LogFile) → snapshot ≤ start → log.first ≡ start → read_to snapshot older ≡ Some start
    → read_to snapshot (log ∷ older) ≡ Some (start + front start log.bytes)
read_to-more snapshot start log older h e r =
    let behind : nat_lt log.first snapshot ≡ false = not_below log.first snapshot (omega arith) in
    rw (behind, r, eq-eqb log.first start e) refl

-- a snapshot of all logs
pub read_to-snapshot : (start : ℕ) (older : List LogFile) → IsBelow start older → read_to start older ≡ Some start
read_to-snapshot start [] h = refl
read_to-snapshot start (log ∷ older) h = rw (below log.first start h) refl

take_all : (c b : List ℕ) → take (length b) c ≡ take (length b) b → length c ≤ length b → c ≡ b
take_all [] [] e h = refl
take_all [] (y ∷ b) e h = cc
take_all (x ∷ c) [] e h = absurd (omega arith)
take_all (x ∷ c) (y ∷ b) e h =
    let same : x ≡ y = cc in
    let rest : c ≡ b = take_all c b (cc) (omega arith) in
    cc

-- a log that lasts is left as it was
same_bytes : (log left : LogFile) → IsLeftOf log left → log.sure ≡ length log.bytes → left.bytes ≡ log.bytes
same_bytes log left h e =
    let P : ℕ → Type 0 = λ k. take k left.bytes ≡ take k log.bytes in
    take_all left.bytes log.bytes (subst P e h.sure) h.no_longer

read_on-same : (log left : LogFile) → left.first ≡ log.first → left.bytes ≡ log.bytes → (o : Option ℕ) → read_on left o ≡ read_on log o
read_on-same log left e f None = refl
read_on-same log left e f (Some at) = rw (e, f) refl

pub read_to-left : (snapshot : ℕ) (logs lefts : List LogFile) → AreLasting logs → AreLeftOf logs lefts → read_to snapshot lefts ≡ read_to snapshot logs
read_to-left snapshot [] [] h k = refl
read_to-left snapshot [] (left ∷ lefts) h k = absurd k
read_to-left snapshot (log ∷ logs) [] h k = absurd k
read_to-left snapshot (log ∷ logs) (left ∷ lefts) h k =
    let first : left.first ≡ log.first = k.0.first in
    let bytes : left.bytes ≡ log.bytes = same_bytes log left k.0 h.0 in
    let more : read_to snapshot lefts ≡ read_to snapshot logs = read_to-left snapshot logs lefts h.1 k.1 in
    let on : read_on left (read_to snapshot logs) ≡ read_on log (read_to snapshot logs) = read_on-same log left first bytes (read_to snapshot logs) in
    rw (more, on, first) refl

pub BeginsOne-left : (place : ℕ) (logs lefts : List LogFile) → AreLeftOf logs lefts → BeginsOne place logs → BeginsOne place lefts
BeginsOne-left place [] [] k b = absurd b
BeginsOne-left place [] (left ∷ lefts) k b = absurd k
BeginsOne-left place (log ∷ logs) [] k b = absurd k
BeginsOne-left place (log ∷ logs) (left ∷ lefts) k (inl e) = inl (k.0.first ∙ e)
BeginsOne-left place (log ∷ logs) (left ∷ lefts) k (inr b) = inr (BeginsOne-left place logs lefts k.1 b)

pub AreLasting-take : (n : ℕ) (logs : List LogFile) → AreLasting logs → AreLasting (take n logs)
AreLasting-take zero logs h = tt
AreLasting-take (suc n) [] h = tt
AreLasting-take (suc n) (log ∷ logs) h = (h.0, AreLasting-take n logs h.1)

pub AreInOrder-take : (n : ℕ) (logs : List LogFile) → AreInOrder logs → AreInOrder (take n logs)
AreInOrder-take zero logs h = tt
AreInOrder-take (suc n) [] h = tt
AreInOrder-take (suc n) (log ∷ logs) h = (h.0, AreInOrder-take n logs h.1)

pub IsBelow-take : (n start : ℕ) (logs : List LogFile) → IsBelow start logs → IsBelow start (take n logs)
IsBelow-take zero start logs h = tt
IsBelow-take (suc n) start [] h = tt
IsBelow-take (suc n) start (log ∷ logs) h = h
