-- The head of a snapshot is read as it is written, and nothing else is read.
use Rattle.std.proofs.Common.{◌≡◌, ℕ, ◌-◌, ◌≤◌, true, false, List, [], ◌∷◌, ◌++◌, length, drop, codes, decimal, Some, None, Result, Ok, Err, IfOk, IfErr, IsErrAnd, refl, sym, ap, ◌∙◌, subst, append_assoc, length-append, arith}
use Rattle.std.proofs.lemmas.List.{drop_at}
use Rattle.std.proofs.lemmas.Option.{none-some, same_Some, option_and_then_some}
use Rattle.hex.specs.Hex.{IsBytes, encode_lower}
use Rattle.pid_script.proofs.Cuts.{Lacks}
use Rattle.pid_script.proofs.Words.{control, lacks_decimal}
use Rattle.pid_script.specs.Script.{with_newline}
use Rattle.replica.specs.Entries.{IsWord64, spaced}
use Rattle.replica.specs.Log.{Log}
use Rattle.replica.specs.Snapshots.{BeginsWithHead, FailsAtHead, IsSnapshot, Restores, has_settings, head_text, restored, sessions_text, settings_text, state_text}
use Rattle.replica.specs.HeadReading.{IsUnread, count_field, digest_field, number_field, snapshot_head_in, log_of, sessions_in, settings_in, place_in}
use Rattle.replica.specs.declared.snapshot.HeadFault.{HeadFault}
use Rattle.replica.specs.declared.snapshot.HeadFault.TheVariants as fault
use Rattle.replica.proofs.Fronts.{Fronts, ended_front, joined_front, labelled_front}
use Rattle.replica.proofs.Digests.{digests, lacks_digest}
use Rattle.replica.proofs.Opened.{AreSessions, line_number_front, sessions_say, sessions_told}

-- a number behind its label
field_front : (label : List ℕ) → Lacks 32 label → Fronts (number_field label) (λ n. label ++ 32 ∷ (decimal n ++ 32 ∷ [])) IsWord64
unfolding number_field
field_front label lacks = labelled_front label lacks (ended_front 32 control lacks_decimal)

digest_front : Fronts digest_field (λ d. codes "digest" ++ 32 ∷ (encode_lower d ++ 32 ∷ [])) (λ d. (length d ≡ 32) × IsBytes d)
unfolding digest_field
digest_front = labelled_front (codes "digest") (refl, (refl, (refl, (refl, (refl, (refl, tt)))))) (ended_front 32 digests lacks_digest)

count_front : Fronts count_field (λ n. codes "sessions" ++ 32 ∷ (decimal n ++ 10 ∷ [])) IsWord64
unfolding count_field
count_front = labelled_front (codes "sessions") (refl, (refl, (refl, (refl, (refl, (refl, (refl, (refl, tt)))))))) line_number_front

-- the settings, and the rest of the first line
abbrev pub Settings : Type 0
Settings = ℕ × (ℕ × ℕ)

abbrev pub State : Type 0
State = ℕ × (List ℕ × (ℕ × ℕ))

abbrev settings_words : Settings → List ℕ
settings_words s =
    (codes "pidtab-snapshot" ++ 32 ∷ (decimal s.0 ++ 32 ∷ []))
    ++ ((codes "pid_max" ++ 32 ∷ (decimal s.1.0 ++ 32 ∷ [])) ++ (codes "model" ++ 32 ∷ (decimal s.1.1 ++ 32 ∷ [])))

settings_front : Fronts settings_in settings_words (λ s. IsWord64 s.0 × (IsWord64 s.1.0 × IsWord64 s.1.1))
unfolding settings_in
settings_front =
    joined_front (field_front (codes "pidtab-snapshot")
    (refl, (refl, (refl, (refl, (refl, (refl, (refl, (refl, (refl, (refl, (refl, (refl, (refl, (refl, (refl, tt))))))))))))))))
    (joined_front (field_front (codes "pid_max") (refl, (refl, (refl, (refl, (refl, (refl, (refl, tt))))))))
    (field_front (codes "model") (refl, (refl, (refl, (refl, (refl, tt)))))))

abbrev state_words : State → List ℕ
state_words s =
    (codes "position" ++ 32 ∷ (decimal s.0 ++ 32 ∷ []))
    ++ ((codes "digest" ++ 32 ∷ (encode_lower s.1.0 ++ 32 ∷ []))
    ++ ((codes "calls" ++ 32 ∷ (decimal s.1.1.0 ++ 32 ∷ [])) ++ (codes "sessions" ++ 32 ∷ (decimal s.1.1.1 ++ 10 ∷ []))))

state_front : Fronts place_in state_words (λ s. IsWord64 s.0 × (((length s.1.0 ≡ 32) × IsBytes s.1.0) × (IsWord64 s.1.1.0 × IsWord64 s.1.1.1)))
unfolding place_in
state_front =
    joined_front (field_front (codes "position") (refl, (refl, (refl, (refl, (refl, (refl, (refl, (refl, tt)))))))))
    (joined_front digest_front (joined_front (field_front (codes "calls") (refl, (refl, (refl, (refl, (refl, tt)))))) count_front))

-- the words of a log, and its first line
abbrev settings_of : Log → Settings
settings_of log = (log.form, (log.pid_max, log.model))

abbrev state_of : Log → State
state_of log = (log.position, (log.digest, (log.calls, length log.sessions)))

settings_parts : (a f b p c m x : List ℕ) → (a ++ 32 ∷ (f ++ 32 ∷ (b ++ 32 ∷ (p ++ 32 ∷ (c ++ 32 ∷ m))))) ++ 32 ∷ x
    ≡ ((a ++ 32 ∷ (f ++ 32 ∷ [])) ++ ((b ++ 32 ∷ (p ++ 32 ∷ [])) ++ (c ++ 32 ∷ (m ++ 32 ∷ [])))) ++ x
settings_parts a f b p c m x = simp append_assoc

state_parts : (a q b d c k e s x : List ℕ) → (a ++ 32 ∷ (q ++ 32 ∷ (b ++ 32 ∷ (d ++ 32 ∷ (c ++ 32 ∷ (k ++ 32 ∷ (e ++ 32 ∷ s))))))) ++ 10 ∷ x
    ≡ ((a ++ 32 ∷ (q ++ 32 ∷ [])) ++ ((b ++ 32 ∷ (d ++ 32 ∷ [])) ++ ((c ++ 32 ∷ (k ++ 32 ∷ [])) ++ (e ++ 32 ∷ (s ++ 10 ∷ []))))) ++ x
state_parts a q b d c k e s x = simp append_assoc

line_parts : (s t x : List ℕ) → ((s ++ 32 ∷ t) ++ 10 ∷ []) ++ x ≡ s ++ 32 ∷ (t ++ 10 ∷ x)
line_parts s t x = simp append_assoc

first_line : (log : Log) (rest : List ℕ)
    → with_newline (spaced (settings_text log ∷ state_text log ∷ [])) ++ rest ≡ settings_words (settings_of log) ++ (state_words (state_of log) ++ rest)
first_line log rest =
    line_parts (settings_text log) (state_text log) rest
    ∙ ap (λ l. settings_text log ++ 32 ∷ l)
    (state_parts (codes "position") (decimal log.position) (codes "digest") (encode_lower log.digest) (codes "calls") (decimal log.calls) (codes "sessions")
    (decimal (length log.sessions)) rest)
    ∙ settings_parts (codes "pidtab-snapshot") (decimal log.form) (codes "pid_max") (decimal log.pid_max) (codes "model") (decimal log.model)
    (state_words (state_of log) ++ rest)

head_parts : (log : Log) (rest : List ℕ)
    → head_text log ++ rest ≡ settings_words (settings_of log) ++ (state_words (state_of log) ++ (sessions_text log.sessions ++ rest))
head_parts log rest =
    append_assoc (with_newline (spaced (settings_text log ∷ state_text log ∷ []))) (sessions_text log.sessions) rest ∙ first_line log (sessions_text log.sessions ++ rest)

few_word : (n : ℕ) → n ≤ 4096 → IsWord64 n
few_word n few = omega arith

same_log : (log : Log) → log.begun ≡ true → log_of (settings_of log) (state_of log) log.sessions ≡ restored log
same_log log begun = rw begun refl

-- what is written is read
pub head_told : (log : Log) (rest : List ℕ) → IsSnapshot log → snapshot_head_in (head_text log ++ rest) ≡ Some (restored log, rest)
unfolding snapshot_head_in
head_told log rest good =
    let s = settings_front.told (settings_of log) (state_words (state_of log) ++ (sessions_text log.sessions ++ rest)) (good.sized.form, (good.sized.pid_max, good.sized.model)) in
    let t = state_front.told (state_of log) (sessions_text log.sessions ++ rest)
    (good.sized.position, ((good.sized.digest, good.sized.bytes), (good.sized.calls, few_word (length log.sessions) good.sessions.few))) in
    let l = sessions_told log.sessions rest good.sessions in
    rw (head_parts log rest, s, t, l) (ap (λ g. Some (g, rest)) (same_log log good.begun))

-- what is read is written so, and is what is restored of it
pub record Says (text : List ℕ) (p : Log × List ℕ) : Type 0 where
  pub begins : BeginsWithHead text p.0 p.1
  pub same : p.0 ≡ restored p.0

says_parts : (settings : Settings) (state : State) (found : List (ℕ × ℕ) × List ℕ) (text back lines : List ℕ) → text ≡ settings_words settings ++ back
    → IsWord64 settings.0 × (IsWord64 settings.1.0 × IsWord64 settings.1.1) → back ≡ state_words state ++ lines
    → IsWord64 state.0 × (((length state.1.0 ≡ 32) × IsBytes state.1.0) × (IsWord64 state.1.1.0 × IsWord64 state.1.1.1))
    → AreSessions state.1.1.1 lines found → Says text (log_of settings state found.0, found.1)
says_parts settings state found text back lines front fits behind more told =
    let log = log_of settings state found.0 in
    let state_is : state ≡ state_of log = ap (λ n. (state.0, (state.1.0, (state.1.1.0, n)))) (sym told.number) in record {
      begins = record {
        good = record {
          begun = refl;
          sized = record {
            form = fits.0;
            pid_max = fits.1.0;
            model = fits.1.1;
            position = more.0;
            digest = more.1.0.0;
            bytes = more.1.0.1;
            calls = more.1.1.0;
          };
          sessions = told.may;
        };
        head =
            front ∙ ap (λ b. settings_words settings ++ b) (behind ∙ ap (λ s. state_words s ++ lines) state_is
            ∙ ap (λ l. state_words (state_of log) ++ l) told.text) ∙ sym (head_parts log found.1);
      };
      same = refl;
    }

pub head_says : (text : List ℕ) (p : Log × List ℕ) → snapshot_head_in text ≡ Some p → Says text p
unfolding snapshot_head_in
head_says text p is =
    option_and_then_some _ (settings_in text) p is (λ s here more.
    option_and_then_some _ (place_in s.1) p more (λ t there most.
    option_and_then_some _ (sessions_in t.0.1.1.1 t.1) p most (λ found last same.
    let a = settings_front.says text s here in
    let b = state_front.says s.1 t there in
    subst (Says text) (same_Some (log_of s.0 t.0 found.0, found.1) p same)
    (says_parts s.0 t.0 found text s.1 t.1 a.0 a.1 b.0 b.1 (sessions_say t.0.1.1.1 t.1 found last)))))

-- one text has one head
pub heads_tell : (a b : Log) (behind_a behind_b : List ℕ) → IsSnapshot a → IsSnapshot b → head_text a ++ behind_a ≡ head_text b ++ behind_b
    → (restored a ≡ restored b) × (behind_a ≡ behind_b)
heads_tell a b behind_a behind_b good_a good_b is =
    let same = same_Some (restored a, behind_a) (restored b, behind_b) (sym (head_told a behind_a good_a) ∙ ap snapshot_head_in is ∙ head_told b behind_b good_b) in
    (ap (λ p. p.0) same, ap (λ p. p.1) same)

-- nothing is read where there is no head
pub no_head : (text : List ℕ) (pid_max model : ℕ) → snapshot_head_in text ≡ None → FailsAtHead text pid_max model fault.NoSnapshot
no_head text pid_max model none log rest good is =
    none-some (restored log, rest) (sym none ∙ ap snapshot_head_in is ∙ head_told log rest good)

pub other_head : (text : List ℕ) (pid_max model : ℕ) (log : Log) (rest : List ℕ) → snapshot_head_in text ≡ Some (log, rest) → has_settings pid_max model log ≡ false
    → FailsAtHead text pid_max model fault.OtherSettings
other_head text pid_max model log rest is other = (log, rest, (head_says text (log, rest) is).begins, other)

-- what is behind the head is no longer than the text
pub rest_within : (text : List ℕ) (log : Log) (rest : List ℕ) → snapshot_head_in text ≡ Some (log, rest) → length rest ≤ length text
rest_within text log rest is =
    let whole = (head_says text (log, rest) is).begins.head in
    omega (arith, ap length whole, length-append (head_text log) rest)

pub restores : (text : List ℕ) (pid_max model : ℕ) (log : Log) (rest : List ℕ) (used : ℕ) → snapshot_head_in text ≡ Some (log, rest)
    → used ≡ length text - length rest → has_settings pid_max model log ≡ true → Restores text pid_max model log used
restores text pid_max model log rest used is count fits =
    let a = head_says text (log, rest) is in
    let whole = a.begins.head in
    let long : length (head_text log) ≡ used = omega (arith, ap length whole, length-append (head_text log) rest, count) in
    let behind : drop used text ≡ rest = ap (drop used) whole ∙ drop_at (head_text log) rest used long in record {
      log = log;
      begins = record { good = a.begins.good; head = whole ∙ ap (λ r. head_text log ++ r) (sym behind) };
      whole = sym long;
      fits = fits;
      is = a.same;
    }

-- what is restored of a text that was written, and that nothing else can come of it
pub written_read : (text : List ℕ) (pid_max model : ℕ) (log new : Log) (rest : List ℕ) (used : ℕ) → BeginsWithHead text log rest
    → Restores text pid_max model new used → (new ≡ restored log) × (used ≡ length (head_text log))
written_read text pid_max model log new rest used begins read =
    let same = heads_tell log read.log rest (drop used text) begins.good read.begins.good (sym begins.head ∙ read.begins.head) in
    let heads : head_text log ≡ head_text read.log = ap head_text same.0 in (read.is ∙ sym same.0, read.whole ∙ ap length (sym heads))

-- what is read of the parts of a text
pub no_settings : (text : List ℕ) → None ≡ settings_in text → snapshot_head_in text ≡ None
unfolding snapshot_head_in
no_settings text none = rw (← none) refl

pub no_state : (text : List ℕ) (s : Settings × List ℕ) → Some s ≡ settings_in text → None ≡ place_in s.1 → snapshot_head_in text ≡ None
unfolding snapshot_head_in
no_state text s settings none = rw (← settings, ← none) refl

pub found_head : (text : List ℕ) (s : Settings × List ℕ) (t : State × List ℕ) (found : List (ℕ × ℕ) × List ℕ) → Some s ≡ settings_in text → Some t ≡ place_in s.1
    → sessions_in t.0.1.1.1 t.1 ≡ Some found → snapshot_head_in text ≡ Some (log_of s.0 t.0 found.0, found.1)
unfolding snapshot_head_in
found_head text s t found settings state sessions = rw (← settings, ← state, sessions) refl

no_sessions : (text : List ℕ) (s : Settings × List ℕ) (t : State × List ℕ) → Some s ≡ settings_in text → Some t ≡ place_in s.1
    → sessions_in t.0.1.1.1 t.1 ≡ None → snapshot_head_in text ≡ None
unfolding snapshot_head_in
no_sessions text s t settings state none = rw (← settings, ← state, none) refl

pub unread : (text : List ℕ) (pid_max model : ℕ) (s : Settings × List ℕ) (t : State × List ℕ) (f : HeadFault) → Some s ≡ settings_in text → Some t ≡ place_in s.1
    → IsUnread (sessions_in t.0.1.1.1 t.1) f → FailsAtHead text pid_max model f
unread text pid_max model s t fault.NoSnapshot settings state none = no_head text pid_max model (no_sessions text s t settings state none)
unread text pid_max model s t fault.OtherSettings settings state never = absurd never
unread text pid_max model s t fault.NoMemory settings state _ = tt

-- what comes of a text that begins with a head
pub read_again : (text : List ℕ) (pid_max model : ℕ) (log : Log) (rest : List ℕ) → BeginsWithHead text log rest → (r : Result (Log × ℕ) HeadFault)
    → IfOk r (λ p. Restores text pid_max model p.0 p.1) → IfOk r (λ p. (p.0 ≡ restored log) × (p.1 ≡ length (head_text log)))
read_again text pid_max model log rest begins (Ok p) read = written_read text pid_max model log p.0 rest p.1 begins read
read_again text pid_max model log rest begins (Err f) read = tt

pub only_memory : (text : List ℕ) (pid_max model : ℕ) (log : Log) (rest : List ℕ) → BeginsWithHead text log rest → has_settings pid_max model log ≡ true
    → (r : Result (Log × ℕ) HeadFault) → IfErr r (FailsAtHead text pid_max model) → IfErr r (λ f. f ≡ fault.NoMemory)
only_memory text pid_max model log rest begins fits (Ok p) _ = tt
only_memory text pid_max model log rest begins fits (Err fault.NoSnapshot) never = absurd (never log rest begins.good begins.head)
only_memory text pid_max model log rest begins fits (Err fault.OtherSettings) other =
    let same = heads_tell log other.0 rest other.1 begins.good other.2.good (sym begins.head ∙ other.2.head) in
    let settings : has_settings pid_max model log ≡ has_settings pid_max model other.0 = ap (has_settings pid_max model) same.0 in
    let never : true ≡ false = sym fits ∙ settings ∙ other.3 in
    cc never
only_memory text pid_max model log rest begins fits (Err fault.NoMemory) _ = refl

-- an error that is handed on
pub failed : {A E : Type 0} (P : E → Type 0) (r : Result A E) (e : E) → IsErrAnd r (λ x. x ≡ e) → P e → IfErr r P
failed P (Ok x) e never here = tt
failed P (Err x) e same here = subst P (sym same) here

-- the rest of a first line, as it is written
pub state_written : (log : Log) (old a b c d : List ℕ) → a ≡ old ++ (codes "position " ++ decimal log.position) → b ≡ a ++ (codes " digest " ++ encode_lower log.digest)
    → c ≡ b ++ (codes " calls " ++ decimal log.calls) → d ≡ c ++ (codes " sessions " ++ decimal (length log.sessions)) → d ≡ old ++ state_text log
state_written log old a b c d first second third fourth =
    fourth ∙ ap (λ l. l ++ (codes " sessions " ++ decimal (length log.sessions))) (third ∙ ap (λ l. l ++ (codes " calls " ++ decimal log.calls))
    (second ∙ ap (λ l. l ++ (codes " digest " ++ encode_lower log.digest)) first))
    ∙ joined old (codes "position " ++ decimal log.position) (codes " digest ") (encode_lower log.digest) (codes " calls ") (decimal log.calls)
    (codes " sessions " ++ decimal (length log.sessions))
    ∙ ap (λ l. old ++ l) (append_assoc (codes "position ") (decimal log.position) _)
  where
    joined : (old p a b c d e : List ℕ) → (((old ++ p) ++ (a ++ b)) ++ (c ++ d)) ++ e ≡ old ++ (p ++ (a ++ (b ++ (c ++ (d ++ e)))))
    joined old p a b c d e = simp append_assoc

-- the head, as it is written
pub head_written : (log : Log) (text a b d e last : List ℕ) → text ≡ [] → a ≡ text ++ settings_text log → b ≡ a ++ 32 ∷ [] → d ≡ b ++ state_text log
    → e ≡ d ++ 10 ∷ [] → last ≡ e ++ sessions_text log.sessions → last ≡ head_text log
head_written log text a b d e last none settings space state newline sessions =
    let line = ap (λ t. (t ++ 32 ∷ []) ++ state_text log) (settings ∙ ap (λ t. t ++ settings_text log) none) ∙ append_assoc (settings_text log) (32 ∷ []) (state_text log) in
    sessions ∙ ap (λ t. t ++ sessions_text log.sessions) (newline ∙ ap (λ t. t ++ 10 ∷ []) (state ∙ ap (λ t. t ++ state_text log) space ∙ line))
