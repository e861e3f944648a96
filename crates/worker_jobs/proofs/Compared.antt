-- A worker's receipts and its entries, one more at a time.
use Rattle.std.proofs.Common.{◌≡◌, ◌≢◌, ℕ, zero, suc, ◌+◌, ◌-◌, ◌<◌, ◌≤◌, List, [], ◌∷◌, ◌++◌, length, take, drop, get_or, Bool, true, false, cond, leb, ltb, eqb, refl, sym, ap, ◌∙◌, arith, Some, None, Option, option_map}
use Rattle.std.proofs.lemmas.List.{take_more, take_all, append-nil}
use Rattle.std.proofs.lemmas.List.Elements.{filter_more, filter-append}
use Rattle.std.proofs.lemmas.Bool.Decides.{nat_tests}
use Rattle.std.specs.Prelude.{slice_get, nat_le}
use Rattle.pid_types.specs.declared.entry.Entry.{Entry}
use Rattle.pid_types.specs.declared.entry.Receipt.{Receipt}
use Rattle.std.proofs.lemmas.Option.{slice_get_within, slice_get-get_or}
use Rattle.kept_table.specs.Chronicle.{Chronicle, kept_entry}
use Rattle.worker_jobs.specs.Receipts.{receipt, owed_from, owed, receipts_kept, DiffersAt}

owed_step : (n w : ℕ) (e : Entry) (rest tail : List Receipt) (b : Bool) → cond b (receipt n e ∷ (rest ++ tail)) (rest ++ tail) ≡ cond b (receipt n e ∷ rest) rest ++ tail
owed_step n w e rest tail true = refl
owed_step n w e rest tail false = refl

pub owed-append : (n w : ℕ) (xs ys : List Entry) → owed_from n w (xs ++ ys) ≡ owed_from n w xs ++ owed_from (n + length xs) w ys
owed-append n w [] ys = ap (λ k. owed_from k w ys) {x = n} {y = n + 0} (omega arith)
owed-append n w (e ∷ xs) ys =
    let rest : owed_from (n + 1) w (xs ++ ys) ≡ owed_from (n + 1) w xs ++ owed_from (n + length (e ∷ xs)) w ys =
    owed-append (n + 1) w xs ys ∙ ap (λ k. owed_from (n + 1) w xs ++ owed_from k w ys) {x = (n + 1) + length xs} {y = n + length (e ∷ xs)} (omega arith) in
    ap (λ l. cond (eqb e.worker w) (receipt n e ∷ l) l) rest ∙ owed_step n w e (owed_from (n + 1) w xs) (owed_from (n + length (e ∷ xs)) w ys) (eqb e.worker w)

split : (es : List Entry) (i : ℕ) (d : Entry) → i < length es → es ≡ take i es ++ (get_or es i d ∷ drop (suc i) es)
split [] i d h = absurd (omega arith)
split (e ∷ es) zero d h = refl
split (e ∷ es) (suc i) d h = ap (λ l. e ∷ l) (split es i d (omega arith))

take_len : (es : List Entry) (i : ℕ) → i < length es → length (take i es) ≡ i
take_len [] i h = absurd (omega arith)
take_len (e ∷ es) zero h = refl
take_len (e ∷ es) (suc i) h = omega (arith, take_len es i (omega arith))

yes : (a b : ℕ) → a ≡ b → eqb a b ≡ true
yes a b h = grind (arith, nat_tests)

no : (a b : ℕ) → a ≢ b → eqb a b ≡ false
no a b h = grind (arith, nat_tests)

-- what is owed, at an entry of the worker
pub owed_at : (n w i : ℕ) (es : List Entry) (d : Entry) → i < length es → (get_or es i d).worker ≡ w → owed_from n w es ≡ owed_from n w (take i es) ++ (receipt (n + i) (get_or es i d) ∷ owed_from (n + i + 1) w (drop (suc i) es))
owed_at n w i es d lt is =
    let e : Entry = get_or es i d in
    ap (owed_from n w) (split es i d lt)
    ∙ (owed-append n w (take i es) (e ∷ drop (suc i) es)
    ∙ (ap (λ k. owed_from n w (take i es) ++ owed_from (n + k) w (e ∷ drop (suc i) es)) (take_len es i lt)
    ∙ ap (λ (b : Bool). owed_from n w (take i es) ++ cond b (receipt (n + i) e ∷ owed_from (n + i + 1) w (drop (suc i) es)) (owed_from (n + i + 1) w (drop (suc i) es))) (yes e.worker w is)))

pub owed_more_yes : (n w i : ℕ) (es : List Entry) (d : Entry) → i < length es → (get_or es i d).worker ≡ w → owed_from n w (take (i + 1) es) ≡ owed_from n w (take i es) ++ receipt (n + i) (get_or es i d) ∷ []
owed_more_yes n w i es d lt is =
    let e : Entry = get_or es i d in
    ap (owed_from n w) (take_more es i d lt)
    ∙ (owed-append n w (take i es) (e ∷ [])
    ∙ (ap (λ k. owed_from n w (take i es) ++ owed_from (n + k) w (e ∷ [])) (take_len es i lt)
    ∙ ap (λ (b : Bool). owed_from n w (take i es) ++ cond b (receipt (n + i) e ∷ []) []) (yes e.worker w is)))

pub owed_more_no : (n w i : ℕ) (es : List Entry) (d : Entry) → i < length es → (get_or es i d).worker ≢ w → owed_from n w (take (i + 1) es) ≡ owed_from n w (take i es)
owed_more_no n w i es d lt is =
    let e : Entry = get_or es i d in
    ap (owed_from n w) (take_more es i d lt)
    ∙ (owed-append n w (take i es) (e ∷ [])
    ∙ (ap (λ k. owed_from n w (take i es) ++ owed_from (n + k) w (e ∷ [])) (take_len es i lt)
    ∙ (ap (λ (b : Bool). owed_from n w (take i es) ++ cond b (receipt (n + i) e ∷ []) []) (no e.worker w is) ∙ append-nil (owed_from n w (take i es)))))

split_r : (rs : List Receipt) (i : ℕ) (d : Receipt) → i < length rs → rs ≡ take i rs ++ (get_or rs i d ∷ drop (suc i) rs)
split_r [] i d h = absurd (omega arith)
split_r (e ∷ es) zero d h = refl
split_r (e ∷ es) (suc i) d h = ap (λ l. e ∷ l) (split_r es i d (omega arith))

at_least : (a b : ℕ) → a ≤ b → leb a b ≡ true
at_least a b h = grind (arith, nat_tests)

-- the kept receipts, at one that is kept
pub kept_at : (first i : ℕ) (rs : List Receipt) (d : Receipt) → i < length rs → first ≤ (get_or rs i d).ordinal → receipts_kept first rs ≡ receipts_kept first (take i rs) ++ (get_or rs i d ∷ receipts_kept first (drop (suc i) rs))
kept_at first i rs d lt le =
    let r : Receipt = get_or rs i d in
    ap (receipts_kept first) (split_r rs i d lt)
    ∙ (filter-append (λ (x : Receipt). nat_le first x.ordinal) (take i rs) (r ∷ drop (suc i) rs)
    ∙ ap (λ (b : Bool). receipts_kept first (take i rs) ++ cond b (r ∷ receipts_kept first (drop (suc i) rs)) (receipts_kept first (drop (suc i) rs))) (at_least first r.ordinal le))

pub kept_more : (first i : ℕ) (rs : List Receipt) (d : Receipt) → i < length rs → first ≤ (get_or rs i d).ordinal → receipts_kept first (take (i + 1) rs) ≡ receipts_kept first (take i rs) ++ get_or rs i d ∷ []
kept_more first i rs d lt le =
    filter_more (λ (x : Receipt). nat_le first x.ordinal) rs i d lt
    ∙ ap (λ (b : Bool). receipts_kept first (take i rs) ++ cond b (get_or rs i d ∷ []) []) (at_least first (get_or rs i d).ordinal le)

front : (m xs : List Receipt) (p : ℕ) → length m ≡ p → take p (m ++ xs) ≡ m
front [] xs p h = ap (λ k. take k xs) {x = p} {y = zero} (omega arith)
front (r ∷ m) xs zero h = absurd (omega arith)
front (r ∷ m) xs (suc p) h = ap (λ l. r ∷ l) (front m xs p (omega arith))

back : (m xs : List Receipt) (p : ℕ) → length m ≡ p → slice_get (m ++ xs) p ≡ slice_get xs 0
back [] xs p h = ap (slice_get xs) {x = p} {y = zero} (omega arith)
back (r ∷ m) xs zero h = absurd (omega arith)
back (r ∷ m) xs (suc p) h = back m xs p (omega arith)

-- two lists that begin alike, and then not
pub differs : (a b m xs ys : List Receipt) (p : ℕ) → length m ≡ p → a ≡ m ++ xs → b ≡ m ++ ys → slice_get xs 0 ≢ slice_get ys 0 → DiffersAt p a b
differs a b m xs ys p len eq_a eq_b not =
    ((ap (take p) eq_a ∙ front m xs p len) ∙ sym (ap (take p) eq_b ∙ front m ys p len), λ same. not (sym (ap (λ l. slice_get l p) eq_a ∙ back m xs p len) ∙ (same ∙ (ap (λ l. slice_get l p) eq_b ∙ back m ys p len))))

-- an entry that was found
pub entry_there : (t : Chronicle) (ordinal : ℕ) (e : Entry) → t.first_kept ≤ ordinal → Some e ≡ kept_entry t ordinal → ((ordinal - t.first_kept) < length t.entries) × (get_or t.entries (ordinal - t.first_kept) e ≡ e)
entry_there t ordinal e le is =
    let test : ltb ordinal t.first_kept ≡ false = grind (arith, nat_tests) in
    let here : Some e ≡ slice_get t.entries (ordinal - t.first_kept) = is ∙ ap (λ (b : Bool). cond b None (slice_get t.entries (ordinal - t.first_kept))) test in
    let lt : (ordinal - t.first_kept) < length t.entries = slice_get_within t.entries (ordinal - t.first_kept) e (sym here) in
    let same : Some (get_or t.entries (ordinal - t.first_kept) e) ≡ Some e = sym (slice_get-get_or t.entries (ordinal - t.first_kept) e lt) ∙ sym here in (lt, cc)

some_same : (a b : Receipt) → Some a ≡ Some b → a ≡ b
some_same a b h = cc

-- the receipts so far are those of the entries so far
abbrev pub Matches : Chronicle → ℕ → List Receipt → ℕ → ℕ → Type 0
Matches t w rs next i = receipts_kept t.first_kept (take next rs) ≡ owed_from t.first_kept w (take i t.entries)

one_more : (n ordinal : ℕ) → n ≤ ordinal → (ordinal + 1) - n ≡ (ordinal - n) + 1
one_more n ordinal h = omega arith

back_again : (n ordinal : ℕ) → n ≤ ordinal → n + (ordinal - n) ≡ ordinal
back_again n ordinal h = omega arith

-- past an entry of another worker
pub past_other : (t : Chronicle) (w ordinal next : ℕ) (rs : List Receipt) (e : Entry) → t.first_kept ≤ ordinal → Some e ≡ kept_entry t ordinal → e.worker ≢ w → Matches t w rs next (ordinal - t.first_kept) → Matches t w rs next (ordinal + 1 - t.first_kept)
past_other t w ordinal next rs e from found other m =
    let there = entry_there t ordinal e from found in
    m ∙ (sym (owed_more_no t.first_kept w (ordinal - t.first_kept) t.entries e there.0 (λ h. other (sym (ap (λ (x : Entry). x.worker) there.1) ∙ h)))
    ∙ ap (λ k. owed_from t.first_kept w (take k t.entries)) (sym (one_more t.first_kept ordinal from)))

-- past an entry of which the worker alone is known
pub past_worker : (t : Chronicle) (w ordinal next by : ℕ) (rs : List Receipt) → t.first_kept ≤ ordinal → Some by ≡ option_map (λ (e : Entry). e.worker) (kept_entry t ordinal) → by ≢ w
    → Matches t w rs next (ordinal - t.first_kept) → Matches t w rs next (ordinal + 1 - t.first_kept)
past_worker t w ordinal next by rs from found other m = entry_is (kept_entry t ordinal) refl found
  where
    entry_is : (o : Option Entry) → o ≡ kept_entry t ordinal → Some by ≡ option_map (λ (e : Entry). e.worker) o → Matches t w rs next (ordinal + 1 - t.first_kept)
    entry_is None is found = absurd (cc)
    entry_is (Some e) is found = past_other t w ordinal next rs e from is (λ same. let here : by ≡ e.worker = cc in other (here ∙ same)) m

-- the worker of an entry that was found
pub own_worker : (t : Chronicle) (ordinal by : ℕ) (e : Entry) → Some by ≡ option_map (λ (e : Entry). e.worker) (kept_entry t ordinal) → Some e ≡ kept_entry t ordinal → e.worker ≡ by
own_worker t ordinal by e found is = let same : Some by ≡ Some e.worker = found ∙ ap (option_map (λ (e : Entry). e.worker)) (sym is) in cc

-- past an entry with its receipt
pub past_both : (t : Chronicle) (w ordinal next : ℕ) (rs : List Receipt) (e : Entry) (d : Receipt) → t.first_kept ≤ ordinal → Some e ≡ kept_entry t ordinal → e.worker ≡ w → next < length rs → t.first_kept ≤ (get_or rs next d).ordinal → get_or rs next d ≡ receipt ordinal e
    → Matches t w rs next (ordinal - t.first_kept) → Matches t w rs (next + 1) (ordinal + 1 - t.first_kept)
past_both t w ordinal next rs e d from found own lt le is m =
    let there = entry_there t ordinal e from found in
    let n : ℕ = t.first_kept in
    let i : ℕ = ordinal - n in
    let same : receipt (n + i) (get_or t.entries i e) ≡ receipt ordinal e = ap (λ (x : Entry). receipt (n + i) x) there.1 ∙ ap (λ k. receipt k e) (back_again n ordinal from) in
    kept_more n next rs d lt le
    ∙ (ap (λ (l : List Receipt). l ++ get_or rs next d ∷ []) m
    ∙ (ap (λ (r : Receipt). owed_from n w (take i t.entries) ++ r ∷ []) (is ∙ sym same)
    ∙ (sym (owed_more_yes n w i t.entries e there.0 (ap (λ (x : Entry). x.worker) there.1 ∙ own))
    ∙ ap (λ k. owed_from n w (take k t.entries)) (sym (one_more n ordinal from)))))

-- no receipt is left for an entry of the worker
pub too_short : (t : Chronicle) (w ordinal next place : ℕ) (rs : List Receipt) (e : Entry) → t.first_kept ≤ ordinal → Some e ≡ kept_entry t ordinal → e.worker ≡ w → length rs ≤ next → length (receipts_kept t.first_kept (take next rs)) ≡ place → Matches t w rs next (ordinal - t.first_kept)
    → DiffersAt place (receipts_kept t.first_kept rs) (owed t w)
too_short t w ordinal next place rs e from found own le len m =
    let there = entry_there t ordinal e from found in
    let n : ℕ = t.first_kept in
    let i : ℕ = ordinal - n in
    differs (receipts_kept n rs) (owed t w) (receipts_kept n (take next rs)) [] (receipt (n + i) (get_or t.entries i e) ∷ owed_from (n + i + 1) w (drop (suc i) t.entries)) place len
    (ap (receipts_kept n) (sym (take_all next rs le)) ∙ sym (append-nil (receipts_kept n (take next rs))))
    (owed_at n w i t.entries e there.0 (ap (λ (x : Entry). x.worker) there.1 ∙ own) ∙ ap (λ (l : List Receipt). l ++ (receipt (n + i) (get_or t.entries i e) ∷ owed_from (n + i + 1) w (drop (suc i) t.entries))) (sym m))
    (λ h. cc)

-- the next receipt is of something else
pub another : (t : Chronicle) (w ordinal next place : ℕ) (rs : List Receipt) (e : Entry) (d : Receipt) → t.first_kept ≤ ordinal → Some e ≡ kept_entry t ordinal → e.worker ≡ w → next < length rs → t.first_kept ≤ (get_or rs next d).ordinal → get_or rs next d ≢ receipt ordinal e
    → length (receipts_kept t.first_kept (take next rs)) ≡ place → Matches t w rs next (ordinal - t.first_kept) → DiffersAt place (receipts_kept t.first_kept rs) (owed t w)
another t w ordinal next place rs e d from found own lt le not len m =
    let there = entry_there t ordinal e from found in
    let n : ℕ = t.first_kept in
    let i : ℕ = ordinal - n in
    let due : Receipt = receipt (n + i) (get_or t.entries i e) in
    let same : due ≡ receipt ordinal e = ap (λ (x : Entry). receipt (n + i) x) there.1 ∙ ap (λ k. receipt k e) (back_again n ordinal from) in
    differs (receipts_kept n rs) (owed t w) (receipts_kept n (take next rs)) (get_or rs next d ∷ receipts_kept n (drop (suc next) rs)) (due ∷ owed_from (n + i + 1) w (drop (suc i) t.entries)) place len
    (kept_at n next rs d lt le)
    (owed_at n w i t.entries e there.0 (ap (λ (x : Entry). x.worker) there.1 ∙ own) ∙ ap (λ (l : List Receipt). l ++ (due ∷ owed_from (n + i + 1) w (drop (suc i) t.entries))) (sym m))
    (λ h. not (some_same (get_or rs next d) due h ∙ same))

-- a receipt is left after the last entry
pub too_long : (t : Chronicle) (w next place : ℕ) (rs : List Receipt) (i : ℕ) (d : Receipt) → length t.entries ≤ i → next < length rs → t.first_kept ≤ (get_or rs next d).ordinal → length (receipts_kept t.first_kept (take next rs)) ≡ place → Matches t w rs next i → DiffersAt place (receipts_kept t.first_kept rs) (owed t w)
too_long t w next place rs i d last lt le len m =
    let n : ℕ = t.first_kept in
    differs (receipts_kept n rs) (owed t w) (receipts_kept n (take next rs)) (get_or rs next d ∷ receipts_kept n (drop (suc next) rs)) [] place len
    (kept_at n next rs d lt le)
    (ap (owed_from n w) (sym (take_all i t.entries last)) ∙ (sym m ∙ sym (append-nil (receipts_kept n (take next rs)))))
    (λ h. cc)

-- nothing is left
pub all_matched : (t : Chronicle) (w next : ℕ) (rs : List Receipt) (i : ℕ) → length t.entries ≤ i → length rs ≤ next → Matches t w rs next i → receipts_kept t.first_kept rs ≡ owed t w
all_matched t w next rs i last le m = ap (receipts_kept t.first_kept) (sym (take_all next rs le)) ∙ (m ∙ ap (owed_from t.first_kept w) (take_all i t.entries last))
