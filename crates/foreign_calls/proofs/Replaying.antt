-- One saved entry more, whose call was answered as it was saved.
use Rattle.std.proofs.Common.{ℕ, ◌+◌, ◌<◌, arith, List, [], ◌∷◌, ◌++◌, length, take, get_or, refl, sym, subst}
use Rattle.std.proofs.lemmas.List.{take_more}
use Rattle.kept_past.specs.Past.{IsCaughtUp}
use Rattle.kept_table.specs.Chronicle.{Chronicle}
use Rattle.kept_table.proofs.Waits.{fewer_by_call, fewer_then}
use Rattle.saved_form.specs.declared.numbers.EntryNumbers.{EntryNumbers}
use Rattle.foreign_calls.specs.Replays.{IsSameAgain, ReplaysSaved, WaitsAfter}

pub replays_more : (c : Chronicle) (before : List EntryNumbers) (m d : Chronicle) (saved : EntryNumbers)
    → ReplaysSaved c before m → IsSameAgain m saved d → ReplaysSaved c (before ++ saved ∷ []) d
replays_more c [] m d saved made again = (d, subst (λ (t : Chronicle). IsSameAgain t saved d) made again, refl)
replays_more c (first ∷ rest) m d saved made again = (made.0, made.1, replays_more made.0 rest m d saved made.2 again)

pub replays_next : (c : Chronicle) (saved : List EntryNumbers) (m d : Chronicle) (i : ℕ) (none : EntryNumbers) → i < length saved
    → ReplaysSaved c (take i saved) m → IsSameAgain m (get_or saved i none) d → ReplaysSaved c (take (i + 1) saved) d
replays_next c saved m d i none within made again =
    subst (λ (xs : List EntryNumbers). ReplaysSaved c xs d) (sym (take_more saved i none within)) (replays_more c (take i saved) m d (get_or saved i none) made again)

-- a call more was made, and with it some of those that wait
pub waits_next : (i : ℕ) (c m d : Chronicle) → WaitsAfter i c m → IsCaughtUp 2 m.memory.waits d.memory.waits → WaitsAfter (i + 1) c d
waits_next i c m d before moved = record {
  none_more = omega (arith, before.none_more, moved.none_more);
  fewer = λ _. fewer_then c.memory.waits m.memory.waits d.memory.waits before.none_more (fewer_by_call m.memory.waits d.memory.waits moved);
}
