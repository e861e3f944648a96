-- An entry is read as it is written, and nothing else is read.
use Rattle.std.proofs.Common.{◌≡◌, ℕ, ◌<◌, ◌^◌, true, eqb, ◌&&◌, List, [], ◌∷◌, ◌++◌, length, Option, Some, None, codes, decimal, refl, sym, ap, ◌∙◌, subst, lit≤, option_map, option_and_then}
use Rattle.std.specs.List.{AllByRecursion, join_with_byte}
use Rattle.std.proofs.lemmas.Option.{none-some, same_Some, option_and_then_some}
use Rattle.std.proofs.lemmas.Slice.Eq.{bytes_eq-Decides}
use Rattle.pid_script.specs.Reading.{cut, is_word, control_of}
use Rattle.pid_script.proofs.Cuts.{by_test, option_map_some, cut-append, cut-lacks, cut-Some, same_eqb}
use Rattle.pid_script.proofs.Words.{control}
use Rattle.replica.specs.Entries.{LogEntry, Settings, Opened, Ended, Calls, Wanted, Announced, spaced, entry_text, IsGood, LacksByte}
use Rattle.replica.specs.Reading.{lines_in, are_full, settings_in, calls_head_in, announced_in, settings_of, announced_of, rest_in, word_in, line_by, line_in, lines_behind, calls_in, read_by, entry_read}
use Rattle.replica.proofs.Parted.{lines_in-join, join-lines_in, lines_some, are_good, good_full}
use Rattle.replica.proofs.Told.{both_true, same_number, lacks_hex, Lacks-append, lacks_number, lacks_key, settings_read, head_words, head_read, announced_read}

abbrev Writes : List ℕ → LogEntry → Type 0
Writes bytes e = (bytes ≡ entry_text e) × IsGood e

same_word : (word w : List ℕ) → is_word word w ≡ true → w ≡ word
same_word word w is = (bytes_eq-Decides w word).0 is

option_cases : {A P : Type 0} (o : Option A) → (o ≡ None → P) → ((x : A) → o ≡ Some x → P) → P
option_cases None none some = none refl
option_cases (Some x) none some = some x refl

-- an entry of one word
word_says : (w : List ℕ) (e : LogEntry) → word_in w ≡ Some e → Writes w e
word_says w e is =
    by_test (is_word (codes "open") w)
    (λ holds. subst (Writes w) (same_Some Opened e (rw holds at is)) (same_word (codes "open") w holds, tt))
    (λ fails. by_test (is_word (codes "snap") w)
    (λ holds. subst (Writes w) (same_Some Wanted e (rw (fails, holds) at is)) (same_word (codes "snap") w holds, tt))
    (λ also. absurd (none-some e (rw (fails, also) at is))))

ended_says : (rest : List ℕ) (e : LogEntry) → option_map Ended (control_of rest) ≡ Some e → Writes (codes "end" ++ 32 ∷ rest) e
ended_says rest e is =
    option_map_some Ended (control_of rest) e is (λ s here made.
    let a = control.says rest s here in
    subst (Writes (codes "end" ++ 32 ∷ rest)) made (ap (λ w. codes "end" ++ 32 ∷ w) a.0, a.1))

announced_says : (rest : List ℕ) (e : LogEntry) → option_map announced_of (announced_in rest) ≡ Some e → Writes (codes "snapshot" ++ 32 ∷ rest) e
announced_says rest e is =
    option_map_some announced_of (announced_in rest) e is (λ p here made.
    let a = announced_read.says rest p here in
    let fits = a.1 in
    subst (Writes (codes "snapshot" ++ 32 ∷ rest)) made
    (ap (λ w. codes "snapshot" ++ 32 ∷ w) a.0, (fits.0, fits.1.0, fits.1.1.0, fits.1.1.1.0, fits.1.1.1.1)))

settings_says : (rest : List ℕ) (e : LogEntry) → option_map settings_of (settings_in rest) ≡ Some e → Writes (codes "pidtab-log" ++ 32 ∷ rest) e
settings_says rest e is =
    option_map_some settings_of (settings_in rest) e is (λ p here made.
    let a = settings_read.says rest p here in
    let fits = a.1 in
    let first = same_word (codes "pid_max") p.1.0 fits.1.0 in
    let second = same_word (codes "model") p.1.1.1.0 fits.1.1.1.0 in
    subst (Writes (codes "pidtab-log" ++ 32 ∷ rest)) made (
      ap (λ w. codes "pidtab-log" ++ 32 ∷ w) (a.0
          ∙ ap (λ w. decimal p.0 ++ 32 ∷ (w ++ 32 ∷ (decimal p.1.1.0 ++ 32 ∷ (p.1.1.1.0 ++ 32 ∷ decimal p.1.1.1.1)))) first
          ∙ ap (λ w. decimal p.0 ++ 32 ∷ (codes "pid_max" ++ 32 ∷ (decimal p.1.1.0 ++ 32 ∷ (w ++ 32 ∷ decimal p.1.1.1.1)))) second),
      (fits.0, fits.1.1.0, fits.1.1.1.1),
    ))

rest_says : (word rest : List ℕ) (e : LogEntry) → rest_in word rest ≡ Some e → Writes (word ++ 32 ∷ rest) e
rest_says word rest e is =
    by_test (is_word (codes "end") word)
    (λ holds. subst (λ w. Writes (w ++ 32 ∷ rest) e) (sym (same_word (codes "end") word holds)) (ended_says rest e (rw holds at is)))
    (λ fails. by_test (is_word (codes "snapshot") word)
    (λ holds. subst (λ w. Writes (w ++ 32 ∷ rest) e) (sym (same_word (codes "snapshot") word holds)) (announced_says rest e (rw (fails, holds) at is)))
    (λ nor. by_test (is_word (codes "pidtab-log") word)
    (λ holds. subst (λ w. Writes (w ++ 32 ∷ rest) e) (sym (same_word (codes "pidtab-log") word holds)) (settings_says rest e (rw (fails, nor, holds) at is)))
    (λ none. absurd (none-some e (rw (fails, nor, none) at is)))))

line_says : (line : List ℕ) (e : LogEntry) → line_in line ≡ Some e → Writes line e
line_says line e is =
    option_cases (cut 32 line)
    (λ none. word_says line e (ap (line_by line) (sym none) ∙ is))
    (λ p cuts. subst (λ w. Writes w e) (sym (cut-Some 32 line p cuts)) (rest_says p.0 p.1 e (ap (line_by line) (sym cuts) ∙ is)))

lines_say : (h : ℕ × (ℕ × (ℕ × (ℕ × List ℕ)))) (rest body : List ℕ) (e : LogEntry) → calls_head_in rest ≡ Some h → lines_behind h (lines_in body) ≡ Some e
    → Writes ((codes "calls" ++ 32 ∷ rest) ++ 10 ∷ body) e
lines_say h rest body e here is =
    let a = head_read.says rest h here in
    let fits = a.1 in
    by_test (eqb h.1.1.0 (length (lines_in body)) && are_full (lines_in body))
    (λ holds.
    let parts = both_true _ _ holds in
    let count : h.1.1.0 ≡ length (lines_in body) = same_number _ _ parts.0 in
    subst (Writes ((codes "calls" ++ 32 ∷ rest) ++ 10 ∷ body)) (same_Some _ e (rw holds at is)) (
      ap (λ w. (codes "calls" ++ 32 ∷ w) ++ 10 ∷ body) a.0
          ∙ ap (λ k. (codes "calls" ++ 32 ∷ (decimal h.0 ++ 32 ∷ (decimal h.1.0 ++ 32 ∷ (decimal k ++ 32 ∷ (decimal h.1.1.1.0 ++ 32 ∷ h.1.1.1.1))))) ++ 10 ∷ body) count
          ∙ ap (λ b. (codes "calls" ++ 32 ∷ (decimal h.0 ++ 32 ∷ (decimal h.1.0 ++ 32 ∷ (decimal (length (lines_in body)) ++ 32 ∷ (decimal h.1.1.1.0 ++ 32 ∷ h.1.1.1.1))))) ++ 10 ∷ b) (sym (join-lines_in body)),
      (fits.0, fits.1.0, fits.1.1.1.0, fits.1.1.1.1, subst (λ k. k < 2 ^ 64) count fits.1.1.0, lines_some body, are_good body parts.1),
    ))
    (λ fails. absurd (none-some e (rw fails at is)))

calls_say : (head body : List ℕ) (e : LogEntry) → calls_in head body ≡ Some e → Writes (head ++ 10 ∷ body) e
calls_say head body e is =
    option_and_then_some _ (cut 32 head) e is (λ p cuts more.
    by_test (is_word (codes "calls") p.0)
    (λ holds.
    option_and_then_some _ (calls_head_in p.1) e (rw holds at more) (λ h here last.
    let whole : head ≡ codes "calls" ++ 32 ∷ p.1 = cut-Some 32 head p cuts ∙ ap (λ w. w ++ 32 ∷ p.1) (same_word (codes "calls") p.0 holds) in
    subst (λ w. Writes (w ++ 10 ∷ body) e) (sym whole) (lines_say h p.1 body e here last)))
    (λ fails. absurd (none-some e (rw fails at more))))

-- what is read of bytes is written so
pub entry_says : (bytes : List ℕ) (e : LogEntry) → entry_read bytes ≡ Some e → Writes bytes e
entry_says bytes e is =
    option_cases (cut 10 bytes)
    (λ none. line_says bytes e (ap (read_by bytes) (sym none) ∙ is))
    (λ p cuts. subst (λ w. Writes w e) (sym (cut-Some 10 bytes p cuts)) (calls_say p.0 p.1 e (ap (read_by bytes) (sym cuts) ∙ is)))

-- an entry of one line has no newline
one_line : (bytes : List ℕ) (o : Option LogEntry) → LacksByte 10 bytes → line_in bytes ≡ o → entry_read bytes ≡ o
one_line bytes o lacks is = ap (read_by bytes) (cut-lacks 10 bytes lacks) ∙ is

-- words that have no newline have none together
lacks_spaced : (ws : List (List ℕ)) → AllByRecursion (LacksByte 10) ws → LacksByte 10 (spaced ws)
lacks_spaced [] lacks = tt
lacks_spaced (w ∷ []) lacks = lacks.0
lacks_spaced (w ∷ v ∷ ws) lacks = Lacks-append 10 w (32 ∷ spaced (v ∷ ws)) lacks.0 (refl, lacks_spaced (v ∷ ws) lacks.1)

calls_lack : LacksByte 10 (codes "calls")
calls_lack = (refl, (refl, (refl, (refl, (refl, tt)))))

made : (s n q : ℕ) (d : List ℕ) (ls : List (List ℕ)) → are_full ls ≡ true → lines_behind (s, (n, (length ls, (q, d)))) ls ≡ Some (Calls s n q d ls)
made s n q d ls full = rw (same_eqb (length ls), full)

calls_told : (s n q : ℕ) (d : List ℕ) (ls : List (List ℕ)) → IsGood (Calls s n q d ls) → entry_read (entry_text (Calls s n q d ls)) ≡ Some (Calls s n q d ls)
calls_told s n q d ls good =
    let body = join_with_byte 10 ls in
    let head = codes "calls" ++ 32 ∷ head_words (s, (n, (length ls, (q, d)))) in
    let lacks : LacksByte 10 head = lacks_spaced (codes "calls" ∷ decimal s ∷ decimal n ∷ decimal (length ls) ∷ decimal q ∷ d ∷ [])
    (calls_lack, (lacks_number s good.0, (lacks_number n good.1, (lacks_number (length ls) good.4, (lacks_number q good.2, (lacks_hex 16 10 d (lit≤ tt) good.3, tt)))))) in
    ap (read_by (head ++ 10 ∷ body)) (cut-append 10 head body lacks)
    ∙ ap (λ o. option_and_then (λ h. lines_behind h (lines_in body)) o)
    (head_read.told (s, (n, (length ls, (q, d)))) (good.0, (good.1, (good.4, (good.2, good.3))))).0
    ∙ ap (lines_behind (s, (n, (length ls, (q, d))))) (lines_in-join ls good.5 good.6)
    ∙ made s n q d ls (good_full ls good.6)

-- what is written is read
pub entry_told : (e : LogEntry) → IsGood e → entry_read (entry_text e) ≡ Some e
entry_told (Settings form pid_max model) good =
    one_line (entry_text (Settings form pid_max model)) (Some (Settings form pid_max model))
    (lacks_spaced (codes "pidtab-log" ∷ decimal form ∷ codes "pid_max" ∷ decimal pid_max ∷ codes "model" ∷ decimal model ∷ []) (
      (refl, (refl, (refl, (refl, (refl, (refl, (refl, (refl, (refl, (refl, tt)))))))))),
      (
        lacks_number form good.0,
        ((refl, (refl, (refl, (refl, (refl, (refl, (refl, tt))))))), (lacks_number pid_max good.1, ((refl, (refl, (refl, (refl, (refl, tt))))), (lacks_number model good.2, tt)))),
      ),
    ))
    (ap (option_map settings_of) (settings_read.told (form, (codes "pid_max", (pid_max, (codes "model", model)))) (good.0, (refl, (good.1, (refl, good.2))))).0)
entry_told Opened good = refl
entry_told (Ended s) good =
    one_line (entry_text (Ended s)) (Some (Ended s)) (lacks_spaced (codes "end" ∷ decimal s ∷ []) ((refl, (refl, (refl, tt))), (lacks_number s good, tt)))
    (ap (option_map Ended) (control.told s good).0)
entry_told (Calls s n q d ls) good = calls_told s n q d ls good
entry_told Wanted good = refl
entry_told (Announced p d b sum key) good =
    one_line (entry_text (Announced p d b sum key)) (Some (Announced p d b sum key))
    (lacks_spaced (codes "snapshot" ∷ decimal p ∷ d ∷ decimal b ∷ sum ∷ key ∷ []) (
      (refl, (refl, (refl, (refl, (refl, (refl, (refl, (refl, tt)))))))),
      (
        lacks_number p good.0,
        (
          lacks_hex 64 10 d (lit≤ tt) good.1,
          (lacks_number b good.2, (lacks_hex 64 10 sum (lit≤ tt) good.3, (lacks_key key good.4, tt))),
        ),
      ),
    ))
    (ap (option_map announced_of) (announced_read.told (p, (d, (b, (sum, key)))) (good.0, (good.1, (good.2, (good.3, good.4))))).0)

-- no entry is written so
pub none_told : (bytes : List ℕ) → None ≡ entry_read bytes → (e : LogEntry) → IsGood e → bytes ≡ entry_text e → ⊥
none_told bytes none e good is = none-some e (none ∙ ap entry_read is ∙ entry_told e good)

-- one text is of one entry
pub texts_tell : (a b : LogEntry) → IsGood a → IsGood b → entry_text a ≡ entry_text b → a ≡ b
texts_tell a b good_a good_b is = same_Some a b (sym (entry_told a good_a) ∙ ap entry_read is ∙ entry_told b good_b)
