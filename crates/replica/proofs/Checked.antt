-- What is said of the digest of a writer.
use Rattle.std.proofs.Common.{◌≡◌, ◌<◌, ◌⊎◌, inl, inr, ℕ, Bool, true, false, eqb, nat_eq, List, Option, Some, None, Result, Ok, Err, IfErr, OnErr, refl, sym, ap, ◌∙◌, subst}
use Rattle.std.specs.List.{starts_with}
use Rattle.std.specs.Map.{lookup}
use Rattle.hex.specs.Hex.{encode_lower}
use Rattle.lru.specs.LruCache.{last_entry}
use Rattle.pid_script.proofs.Cuts.{by_test}
use Rattle.replica.specs.Entries.{LogEntry, Settings, Opened, Ended, Calls, Wanted, Announced, IsGood, entry_text}
use Rattle.replica.specs.declared.outcome.ReplicaFault.{ReplicaFault}
use Rattle.replica.specs.declared.outcome.ReplicaFault.TheVariants as fault
use Rattle.replica.specs.declared.outcome.Applied.{Applied}
use Rattle.replica.specs.declared.outcome.Outcome.{Outcome}
use Rattle.replica.specs.Log.{Log}
use Rattle.replica.specs.Replicas.{MakesFront, Replica, at, checked, is_before, judged, lines_at, may_come, replica_of, sequence_of, session_in_entry, used}
use Rattle.replica.specs.Applied.{Enters, IsLookedAt, IsNext, Refuses, StopsApplying}
use Rattle.replica.specs.Laws.{Applies}
use Rattle.stamped_table.specs.Stamped.{Stamped}

pub calls_checked : (log : Log) (s n q : ℕ) (d : List ℕ) (ls : List (List ℕ)) (kept : List (ℕ × List ℕ)) (found : Option (List ℕ)) (before : Bool) (r : Result Unit ReplicaFault)
    → r ≡ judged found before d → found ≡ lookup (λ p. eqb q p) kept → before ≡ is_before q (last_entry kept) → kept ≡ log.kept → r ≡ checked log (Calls s n q d ls)
calls_checked log s n q d ls kept found before r is here old same =
    is ∙ (λ i. judged (here i) (old i) d) ∙ ap (λ k. judged (lookup (λ p. eqb q p) k) (is_before q (last_entry k)) d) same

pub announced_checked : (log : Log) (q : ℕ) (d : List ℕ) (size : ℕ) (sum key : List ℕ) (kept : List (ℕ × List ℕ)) (found : Option (List ℕ)) (r : Result Unit ReplicaFault)
    → r ≡ judged found true d → found ≡ lookup (λ p. eqb q p) kept → kept ≡ log.kept → r ≡ checked log (Announced q d size sum key)
announced_checked log q d size sum key kept found r is here same =
    is ∙ ap (λ o. judged o true d) here ∙ ap (λ k. judged (lookup (λ p. eqb q p) k) true d) same

-- no other fault comes of it
abbrev IsOne : ReplicaFault → Type 0
IsOne e = (e ≡ fault.Missing) ⊎ (e ≡ fault.Diverged)

judged_only : (o : Option (List ℕ)) (before : Bool) (d : List ℕ) (e : ReplicaFault) → judged o before d ≡ Err e → IsOne e
judged_only None true d e is = cc is
judged_only None false d e is = inl (cc is)
judged_only (Some digest) before d e is =
    by_test (starts_with nat_eq (encode_lower digest) d)
    (λ same. let never = rw same at is in cc never)
    (λ other. let err = rw other at is in inr (cc err))

only : (log : Log) (entry : LogEntry) (e : ReplicaFault) → checked log entry ≡ Err e → IsOne e
only log (Settings form pid_max model) e is = cc is
only log Opened e is = cc is
only log (Ended session) e is = cc is
only log (Calls s n q d ls) e is = judged_only (lookup (λ p. eqb q p) log.kept) (is_before q (last_entry log.kept)) d e is
only log Wanted e is = cc is
only log (Announced q d size sum key) e is = judged_only (lookup (λ p. eqb q p) log.kept) true d e is

pub at_odds : (position : ℕ) (bytes : List ℕ) (old : Replica) (before : List ℕ) (entry : LogEntry) (e : ReplicaFault) → IsLookedAt position old → IsGood entry → bytes ≡ entry_text entry
    → may_come old.log entry ≡ true → checked old.log entry ≡ Err e → Refuses position bytes old before old before e
at_odds position bytes old before entry e looked good text comes is =
    elim (only old.log entry e is) [
      | inl missing ↦ subst (Refuses position bytes old before old before) (sym missing)
          (looked, (entry, good, text, comes, is ∙ ap Err missing), record { replica = refl; answers = refl })
      | inr diverged ↦ subst (Refuses position bytes old before old before) (sym diverged)
          (looked, (entry, good, text, comes, is ∙ ap Err diverged), record { replica = refl; answers = refl })
    ]

-- an entry is looked at where what is held says so
pub looked_at : (position : ℕ) (table : Stamped) (inside log : Log) → inside ≡ log → inside.torn ≡ false → inside.position < position → IsLookedAt position (replica_of log table)
looked_at position table inside log same whole rises =
    subst (λ (l : Log). IsLookedAt position (replica_of l table)) same (record { whole = whole; rises = rises })

-- calls that found no memory
pub stops_calls : {A : Type 0} (r : Result A ReplicaFault) (e : LogEntry) (old new : Replica) (before after : List ℕ) → IfErr r (λ f. f ≡ fault.Torn)
    → OnErr r (new.log.torn ≡ true) → OnErr r (MakesFront (lines_at e) old.table new.table) → IfErr r (StopsApplying e old before new after)
stops_calls (Ok what) e old new before after is torn front = tt
stops_calls (Err f) e old new before after is torn front = subst (StopsApplying e old before new after) (sym is) (torn, front)

-- there was no memory for what the next entry says
pub stopped : (position : ℕ) (bytes : List ℕ) (old : Replica) (before : List ℕ) (new : Replica) (after : List ℕ) (entry : LogEntry) (e : ReplicaFault)
    → IsNext position bytes old entry → StopsApplying entry old before new after e → Refuses position bytes old before new after e
stopped position bytes old before new after entry fault.NoMemory next stops = (subst (IsNext position bytes old) stops.0 next, stops.1)
stopped position bytes old before new after entry fault.Torn next stops = inr (stops.0, (entry, next, stops.1))
stopped position bytes old before new after entry fault.NotRising next stops = absurd stops
stopped position bytes old before new after entry fault.NoEntry next stops = absurd stops
stopped position bytes old before new after entry fault.OtherSettings next stops = absurd stops
stopped position bytes old before new after entry fault.Missing next stops = absurd stops
stopped position bytes old before new after entry fault.Diverged next stops = absurd stops

-- the next entry was entered, and its digest is kept
pub applies : (position : ℕ) (bytes : List ℕ) (old : Replica) (before : List ℕ) (entry : LogEntry) (log kept : Log) (table : Stamped) (what : Outcome) (said : Applied) (after : List ℕ)
    → IsNext position bytes old entry → Enters entry position old before (replica_of log table) what after
    → kept ≡ record log { position = position; kept = used position log.digest log.kept }
    → said ≡ record { outcome = what; session = session_in_entry entry; sequence = sequence_of entry }
    → Applies position bytes old before (replica_of kept table) said after
applies position bytes old before entry log kept table what said after next enters keeps is = record {
  entry = entry;
  next = next;
  made = ap (λ (l : Log). replica_of l table) keeps ∙ ap (at position) enters.made;
  said = is ∙ ap (λ (o : Outcome). record { outcome = o; session = session_in_entry entry; sequence = sequence_of entry }) enters.outcome;
  answers = enters.answers;
}
