-- One call more of a turn.
use Rattle.std.proofs.Common.{◌≡◌, ℕ, zero, suc, ◌+◌, ◌<◌, List, [], ◌∷◌, ◌++◌, length, take, set, get_or, refl, ap, sym, subst, add-one, arith}
use Rattle.kept_table.specs.Chronicle.{Chronicle}
use Rattle.saved_form.specs.declared.numbers.CallNumbers.{CallNumbers}
use Rattle.saved_form.specs.declared.numbers.ReplyNumbers.{ReplyNumbers}
use Rattle.saved_form.specs.declared.numbers.EntryNumbers.{EntryNumbers}
use Rattle.foreign_calls.specs.Replays.{IsSameAgain, ReplaysSaved}
use Rattle.foreign_calls.specs.Turns.{turn, turns}
use Rattle.foreign_calls.proofs.Replaying.{replays_more}

turns_more : (worker : ℕ) (calls : List CallNumbers) (replies : List ReplyNumbers) (i : ℕ) (none : CallNumbers) (reply : ReplyNumbers)
    → i < length calls → i < length replies
    → take (suc i) (turns worker calls (set replies i reply)) ≡ take i (turns worker calls replies) ++ turn worker (get_or calls i none) reply ∷ []
turns_more worker [] replies i none reply within room = absurd (omega (arith, within))
turns_more worker (call ∷ calls) [] i none reply within room = absurd (omega (arith, room))
turns_more worker (call ∷ calls) (first ∷ replies) zero none reply within room = refl
turns_more worker (call ∷ calls) (first ∷ replies) (suc i) none reply within room =
    ap (λ (es : List EntryNumbers). turn worker call first ∷ es) (turns_more worker calls replies i none reply (omega (arith, within)) (omega (arith, room)))

pub turns_next : (c : Chronicle) (worker : ℕ) (calls : List CallNumbers) (replies : List ReplyNumbers) (m d : Chronicle) (i : ℕ) (none : CallNumbers) (reply : ReplyNumbers)
    → i < length calls → i < length replies
    → ReplaysSaved c (take i (turns worker calls replies)) m → IsSameAgain m (turn worker (get_or calls i none) reply) d
    → ReplaysSaved c (take (i + 1) (turns worker calls (set replies i reply))) d
turns_next c worker calls replies m d i none reply within room made again =
    rw add-one (subst (λ (es : List EntryNumbers). ReplaysSaved c es d) (sym (turns_more worker calls replies i none reply within room))
    (replays_more c (take i (turns worker calls replies)) m d (turn worker (get_or calls i none) reply) made again))
