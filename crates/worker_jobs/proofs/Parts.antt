-- What a desk has served, and a list that is one element longer.
use Rattle.std.proofs.Common.{◌≡◌, ℕ, ◌+◌, List, [], ◌∷◌, ◌++◌, length, map, take, get_or, ◌<◌, refl, sym, ap, ◌∙◌, subst, arith, inl, inr, Ok, Err, append_assoc, append-nil, length-append}
use Rattle.std.specs.Prelude.{Result, All}
use Rattle.std.proofs.lemmas.List.{take_more, map-append, get_or_append_left}
use Rattle.std.proofs.lemmas.List.Elements.{All-nil, All-cons, All-head, All-tail, All-append}
use Rattle.std.proofs.lemmas.Grind.{flat_map-append}
use Rattle.std.proofs.lemmas.Bool.{cases_lt}
use Rattle.pid_types.specs.declared.call.Call.{Call}
use Rattle.pid_types.specs.declared.entry.Receipt.{Receipt}
use Rattle.pid_types.specs.declared.reply.CallFault.{CallFault}
use Rattle.worker_jobs.specs.Job.{IsPartOf, calls_received, Fulfils, Answered, receipt_in, receipts_given, IsOfCall, IsServed}

-- a part of calls is one of more calls
left_out : (xs ys : List Call) (y : Call) → IsPartOf xs ys → IsPartOf xs (y ∷ ys)
left_out [] ys y h = tt
left_out (x ∷ xs) ys y h = inr h

-- the receipts that were given are of a part of the calls
part_served : (answers : List Answered) → All IsOfCall answers → IsPartOf (calls_received (receipts_given answers)) (map (λ (a : Answered). a.0) answers)
part_served [] own = tt
part_served ((call, Ok receipt) ∷ answers) own = inl (All-head IsOfCall (call, Ok receipt) answers own, part_served answers (All-tail IsOfCall (call, Ok receipt) answers own))
part_served ((call, Err fault) ∷ answers) own =
    left_out (calls_received (receipts_given answers)) (map (λ (a : Answered). a.0) answers) call (part_served answers (All-tail IsOfCall (call, Err fault) answers own))

-- a desk that served the calls has fulfilled them
pub fulfilled : (calls : List Call) (answers : List Answered) (receipts : List Receipt) (refused : ℕ) → IsServed calls answers [] receipts refused → Fulfils calls receipts refused
fulfilled calls answers receipts refused h =
    subst (λ rs. Fulfils calls rs refused) (sym h.given)
    (subst (λ cs. Fulfils cs (receipts_given answers) refused) h.each (record { counted = h.counted ∙ ap length (sym h.each); in_order = part_served answers h.own }))

-- no call
pub served_none : (receipts : List Receipt) → IsServed [] [] receipts receipts 0
served_none receipts = record { each = refl; given = sym (append-nil receipts); counted = refl; own = All-nil IsOfCall }

-- one call, which has a receipt
pub served_one : (call : Call) (receipt : Receipt) (receipts : List Receipt) → receipt.call ≡ call → IsServed (call ∷ []) ((call, Ok receipt) ∷ []) receipts (receipts ++ receipt ∷ []) 0
served_one call receipt receipts is = record { each = refl; given = refl; counted = refl; own = All-cons IsOfCall (call, Ok receipt) [] is (All-nil IsOfCall) }

-- one call, which was refused
pub refused_one : (call : Call) (fault : CallFault) (receipts : List Receipt) → IsServed (call ∷ []) ((call, Err fault) ∷ []) receipts receipts 1
refused_one call fault receipts = record { each = refl; given = sym (append-nil receipts); counted = refl; own = All-cons IsOfCall (call, Err fault) [] tt (All-nil IsOfCall) }

-- calls, and then more
pub served_more : (xs ys : List Call) (told more : List Answered) (p q r : List Receipt) (m n : ℕ) → IsServed xs told p q m → IsServed ys more q r n → IsServed (xs ++ ys) (told ++ more) p r (m + n)
served_more xs ys told more p q r m n first second =
    let all : receipts_given (told ++ more) ≡ receipts_given told ++ receipts_given more = flat_map-append (λ (x : Answered). receipt_in x.1) told more in
    record {
      each = map-append (λ (a : Answered). a.0) told more ∙ (ap (λ (cs : List Call). cs ++ map (λ (a : Answered). a.0) more) first.each ∙ ap (λ (cs : List Call). xs ++ cs) second.each);
      given = second.given ∙ (ap (λ (rs : List Receipt). rs ++ receipts_given more) first.given ∙ (append_assoc p (receipts_given told) (receipts_given more) ∙ ap (λ (rs : List Receipt). p ++ rs) (sym all)));
      counted = omega (arith, first.counted, second.counted, ap length all, length-append (receipts_given told) (receipts_given more), length-append xs ys);
      own = All-append IsOfCall told more first.own second.own;
    }

-- one call more, with its answer
pub served_next : (calls : List Call) (i : ℕ) (d : Call) (answers : List Answered) (answer : Result Receipt CallFault) (p q r : List Receipt) (m n k : ℕ) → i < length calls → k ≡ m + n
    → IsServed (take i calls) answers p q m → IsServed (get_or calls i d ∷ []) ((get_or calls i d, answer) ∷ []) q r n
    → IsServed (take (i + 1) calls) (answers ++ (get_or calls i d, answer) ∷ []) p r k
served_next calls i d answers answer p q r m n k below sum first second =
    let one : List Call = get_or calls i d ∷ [] in
    let told : List Answered = (get_or calls i d, answer) ∷ [] in
    subst (λ c. IsServed (take (i + 1) calls) (answers ++ told) p r c) (sym sum)
    (subst (λ cs. IsServed cs (answers ++ told) p r (m + n)) (sym (take_more calls i d below)) (served_more (take i calls) one answers told p q r m n first second))

-- what holds below a number, and at it
pub below_more : (P : ℕ → Type 0) (n : ℕ) → ((k : ℕ) → k < n → P k) → P n → (k : ℕ) → k < n + 1 → P k
below_more P n old new k below =
    elim (cases_lt k n) [
      | inl lt ↦ old k lt
      | inr ge ↦ let at : k ≡ n = omega (arith, ge, below) in subst P (sym at) new
    ]

get_or_last : {X : Type 0} (xs : List X) (x d : X) → get_or (xs ++ x ∷ []) (length xs) d ≡ x
get_or_last [] x d = refl
get_or_last (y ∷ xs) x d = get_or_last xs x d

-- what holds at each place, with one element more
pub each_more : {X : Type 0} (P : ℕ → X → Type 0) (xs : List X) (x : X) (n : ℕ) → length xs ≡ n → ((k : ℕ) (d : X) → k < n → P k (get_or xs k d)) → P n x → (k : ℕ) (d : X) → k < n + 1 → P k (get_or (xs ++ x ∷ []) k d)
each_more {X} P xs x n len old new k d below =
    elim (cases_lt k n) [
      | inl lt ↦ subst (P k) (sym (get_or_append_left xs (x ∷ []) d k (omega (arith, lt)))) (old k d lt)
      | inr ge ↦
          let at : k ≡ n = omega (arith, ge) in
          let there : get_or (xs ++ x ∷ []) n d ≡ x = ap (λ j. get_or (xs ++ x ∷ []) j d) (sym len) ∙ get_or_last xs x d in
          subst (λ j. P j (get_or (xs ++ x ∷ []) j d)) (sym at) (subst (P n) (sym there) new)
    ]

-- some element of a list that has one
pub some_element : {X : Type 0} (xs : List X) → 0 < length xs → X
some_element [] h = absurd (omega arith)
some_element (x ∷ xs) h = x
