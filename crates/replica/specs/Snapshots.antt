-- The head of a snapshot: its text, and what is restored from it. The text of the table stands behind it.
use Rattle.std.specs.Prelude.{ℕ, ◌≡◌, ◌≢◌, ◌≤◌, ◌==◌, ◌&&◌, ◌||◌, nat_eq, Bool, true, false, List, [], ◌∷◌, ◌++◌, length, drop, reverse, codes, decimal}
use Rattle.std.specs.List.{AllByRecursion, IsDistinct, flat_map}
use Rattle.std.specs.Map.{keys_of}
use Rattle.hex.specs.Hex.{IsBytes, encode_lower}
use Rattle.pid_script.specs.Script.{with_newline}
use Rattle.replica.specs.Entries.{IsWord64, spaced}
use Rattle.replica.specs.Log.{Log}
use Rattle.replica.specs.declared.snapshot.HeadFault.{HeadFault}
use Rattle.replica.specs.declared.snapshot.HeadFault.TheVariants.{NoSnapshot, OtherSettings, NoMemory}

-- the first line: the settings; the position, the digest and the calls there; and how many sessions are open
abbrev pub settings_text : Log → List ℕ
settings_text log =
    spaced (codes "pidtab-snapshot" ∷ decimal log.form ∷ codes "pid_max" ∷ decimal log.pid_max ∷ codes "model" ∷ decimal log.model ∷ [])

abbrev pub state_text : Log → List ℕ
state_text log =
    spaced (
    codes "position" ∷ decimal log.position ∷ codes "digest" ∷ encode_lower log.digest ∷ codes "calls" ∷ decimal log.calls
    ∷ codes "sessions" ∷ decimal (length log.sessions) ∷ [])

-- the line of a session, with the number of its last entry that counted
abbrev pub session_text : ℕ × ℕ → List ℕ
session_text session = spaced (decimal session.0 ∷ decimal session.1 ∷ [])

-- the lines of the sessions, first that of the one that was used the longest ago
abbrev pub sessions_text : List (ℕ × ℕ) → List ℕ
sessions_text sessions = flat_map (λ session. with_newline (session_text session)) (reverse sessions)

-- the head of a snapshot
abbrev pub head_text : Log → List ℕ
head_text log = with_newline (spaced (settings_text log ∷ state_text log ∷ [])) ++ sessions_text log.sessions

-- a session of 64 bits, with its last number
abbrev pub IsSession : ℕ × ℕ → Type 0
IsSession session = IsWord64 session.0 × IsWord64 session.1

-- the numbers of a log have 64 bits, and its digest has 32 bytes
pub record IsSized (log : Log) : Type 0 where
  pub form : IsWord64 log.form
  pub pid_max : IsWord64 log.pid_max
  pub model : IsWord64 log.model
  pub position : IsWord64 log.position
  pub digest : length log.digest ≡ 32
  pub bytes : IsBytes log.digest
  pub calls : IsWord64 log.calls

-- sessions that may be open together: at most 4,096, each once
pub record MayBeOpen (sessions : List (ℕ × ℕ)) : Type 0 where
  pub few : length sessions ≤ 4096
  pub numbers : AllByRecursion IsSession sessions
  pub distinct : IsDistinct nat_eq (keys_of sessions)

-- a log of which there may be a snapshot: one that has begun
pub record IsSnapshot (log : Log) : Type 0 where
  pub begun : log.begun ≡ true
  pub sized : IsSized log
  pub sessions : MayBeOpen log.sessions

-- what is restored of a log: of the digests that it has kept there is the last one alone
abbrev pub restored : Log → Log
restored log = record log { kept = (log.position, log.digest) ∷ []; torn = false }

-- the log has these settings, in form 1 or 2
abbrev pub has_settings : ℕ → ℕ → Log → Bool
has_settings pid_max model log = (log.form == 1 || log.form == 2) && (log.pid_max == pid_max && log.model == model)

-- the text begins with the head of the log
pub record BeginsWithHead (text : List ℕ) (log : Log) (rest : List ℕ) : Type 0 where
  pub good : IsSnapshot log
  pub head : text ≡ head_text log ++ rest

-- a log with these settings, whose head is so many bytes at the front of the text, was restored
pub record Restores (text : List ℕ) (pid_max model : ℕ) (new : Log) (used : ℕ) : Type 0 where
  pub log : Log
  pub begins : BeginsWithHead text log (drop used text)
  pub whole : used ≡ length (head_text log)
  pub fits : has_settings pid_max model log ≡ true
  pub is : new ≡ restored log

-- when each fault comes
abbrev pub FailsAtHead : List ℕ → ℕ → ℕ → HeadFault → Type 0
FailsAtHead text pid_max model NoSnapshot = (log : Log) (rest : List ℕ) → IsSnapshot log → text ≢ head_text log ++ rest
FailsAtHead text pid_max model OtherSettings =
    (log : Log) × (rest : List ℕ) × BeginsWithHead text log rest × (has_settings pid_max model log ≡ false)
FailsAtHead text pid_max model NoMemory = Unit {0}
