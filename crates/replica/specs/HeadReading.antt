-- What the bytes of the head of a snapshot are read as.
use Rattle.std.specs.Prelude.{ℕ, zero, suc, ◌≡◌, ◌^◌, ◌==◌, nat_le, true, false, List, [], ◌∷◌, codes, Option, Some, None, if◌then◌else◌, is_some}
use Rattle.std.specs.Map.{lookup}
use Rattle.std.specs.Result.{result_ok}
use Rattle.hex.specs.Hex.{decode_sized}
use Rattle.pid_script.specs.Reading.{◌>>=◌, before, control_of, cut, is_word, number_then}
use Rattle.replica.specs.Entries.{is_hex}
use Rattle.replica.specs.Log.{Log}
use Rattle.replica.specs.Reading.{passed}
use Rattle.replica.specs.declared.snapshot.HeadFault.{HeadFault}
use Rattle.replica.specs.declared.snapshot.HeadFault.TheVariants.{NoSnapshot, OtherSettings, NoMemory}
use Rattle.replica.specs.declared.head.Settings.{Settings}
use Rattle.replica.specs.declared.head.State.{State}

-- what is read of a front, and the bytes behind it
abbrev pub Front : Type 0 → Type 0
Front A = List ℕ → Option (A × List ℕ)

-- what is read of the word before the first such byte
abbrev pub ended : {A : Type 0} → ℕ → (List ℕ → Option A) → Front A
ended byte read text = do
  p ← cut byte text
  x ← read p.0
  Some (x, p.1)

-- one behind a word and a space
abbrev pub labelled : {A : Type 0} → List ℕ → Front A → Front A
labelled word front text = before (passed (is_word word)) text >>= λ p. front p.1

-- one, and another behind it
abbrev pub followed_by : {A B : Type 0} → Front A → Front B → Front (A × B)
followed_by first second text = do
  a ← first text
  b ← second a.1
  Some ((a.0, b.0), b.1)

-- a number behind its label, with a space behind it; and one with a newline
unfoldable pub number_field : List ℕ → Front ℕ
number_field label = labelled label (number_then (2 ^ 64))

unfoldable pub line_number : Front ℕ
line_number = ended 10 control_of

-- the bytes of 64 digits
unfoldable pub digest_of : List ℕ → Option (List ℕ)
digest_of word = if is_hex 64 word then result_ok (decode_sized word 32) else None

unfoldable pub digest_field : Front (List ℕ)
digest_field = labelled (codes "digest") (before digest_of)

unfoldable pub count_field : Front ℕ
count_field = labelled (codes "sessions") line_number

-- the settings, and the rest of the first line
unfoldable pub settings_in : Front (ℕ × (ℕ × ℕ))
settings_in =
    followed_by (number_field (codes "pidtab-snapshot"))
    (followed_by (number_field (codes "pid_max")) (number_field (codes "model")))

unfoldable pub place_in : Front (ℕ × (List ℕ × (ℕ × ℕ)))
place_in = followed_by (number_field (codes "position")) (followed_by digest_field (followed_by (number_field (codes "calls")) count_field))

-- the line of a session
unfoldable pub session_in : Front (ℕ × ℕ)
session_in = followed_by (number_then (2 ^ 64)) line_number

-- the sessions and one more, which is none of them
unfoldable pub with_session : List (ℕ × ℕ) → Front (List (ℕ × ℕ))
with_session sessions lines = do
  p ← session_in lines
  if is_some (lookup (λ s. p.0.0 == s) sessions) then None else Some (p.0 ∷ sessions, p.1)

-- the sessions and so many more
abbrev pub opened_more : ℕ → List (ℕ × ℕ) → Front (List (ℕ × ℕ))
opened_more zero sessions lines = Some (sessions, lines)
opened_more (suc n) sessions lines = with_session sessions lines >>= λ p. opened_more n p.0 p.1

unfoldable pub sessions_in : ℕ → Front (List (ℕ × ℕ))
sessions_in count lines = if nat_le count 4096 then opened_more count [] lines else None

-- the words of a first line, as a value of the program has them
abbrev pub words_of_settings : Settings → ℕ × (ℕ × ℕ)
words_of_settings s = (s.form, (s.pid_max, s.model))

abbrev pub words_of_state : State → ℕ × (List ℕ × (ℕ × ℕ))
words_of_state s = (s.position, (s.digest, (s.calls, s.sessions)))

-- the log of a first line and the sessions behind it
abbrev pub log_of : ℕ × (ℕ × ℕ) → ℕ × (List ℕ × (ℕ × ℕ)) → List (ℕ × ℕ) → Log
log_of settings state sessions = record {
  form = settings.0;
  pid_max = settings.1.0;
  model = settings.1.1;
  begun = true;
  position = state.0;
  sessions = sessions;
  digest = state.1.0;
  kept = (state.0, state.1.0) ∷ [];
  calls = state.1.1.0;
  torn = false;
}

unfoldable pub snapshot_head_in : Front Log
snapshot_head_in text = do
  settings ← settings_in text
  state ← place_in settings.1
  sessions ← sessions_in state.0.1.1.1 state.1
  Some (log_of settings.0 state.0 sessions.0, sessions.1)

-- nothing is read so, or there was no memory
abbrev pub IsUnread : {A : Type 0} → Option A → HeadFault → Type 0
IsUnread o NoSnapshot = o ≡ None
IsUnread o OtherSettings = ⊥
IsUnread o NoMemory = Unit {0}
