-- The lists of many numbers, which are in the order of their slots.
use Rattle.std.specs.Prelude.{MatchOption, option_map}
use Rattle.std.proofs.Common.{◌≡◌, ℕ, zero, suc, ◌+◌, ◌-◌, ◌<◌, ◌≤◌, List, [], ◌∷◌, ◌++◌, length, take, drop, get_or, slice_get, Option, Some, None, refl, sym, ap, ◌∙◌, subst, arith}
use Rattle.std.proofs.lemmas.List.{get_or_append_left, get_or_push, map-append}
use Rattle.std.proofs.lemmas.Option.{same_Some, slice_get-map, slice_get_read}
use Rattle.pid_types.specs.declared.entry.Entry.{Entry}
use Rattle.pid_types.specs.declared.reply.Reply.{Reply}
use Rattle.pid_types.specs.declared.reply.ShortReply.{ShortReply}
use Rattle.pid_types.specs.declared.reply.ShortReply.TheVariants as short
use Rattle.pid_types.specs.Short.{list_reply, reply_of}
use Rattle.kept_past.specs.declared.ring.Slot.{Slot}
use Rattle.kept_past.specs.declared.ring.SlotReply.{SlotReply}
use Rattle.kept_past.specs.declared.ring.SlotReply.TheVariants.{Short, Few, Many}
use Rattle.kept_past.specs.Stored.{ListsAreInOrder, IsListedNext, IsListedWithin, Lists, behind, entries_in, entry_in, kept_reply, list_at}

behind-le : (next : ℕ) (reply : SlotReply) → next ≤ behind next reply
behind-le next (Short short) = omega arith
behind-le next (Few few) = omega arith
behind-le next (Many place size) = omega arith

-- the end is not before the next place
pub in-order : (next end : ℕ) (slots : List Slot) → ListsAreInOrder next end slots → next ≤ end
in-order next end [] are = omega (arith, are)
in-order next end (slot ∷ slots) are = omega (arith, behind-le next slot.reply, in-order (behind next slot.reply) end slots are.1)

first-within : (next end : ℕ) (reply : SlotReply) → IsListedNext next reply → behind next reply ≤ end → IsListedWithin next end reply
first-within next end (Short short) at le = tt
first-within next end (Few few) at le = tt
first-within next end (Many place size) at le = (omega (arith, at), omega (arith, at, le))

sooner : (first next end : ℕ) (reply : SlotReply) → first ≤ next → IsListedWithin next end reply → IsListedWithin first end reply
sooner first next end (Short short) le is = tt
sooner first next end (Few few) le is = tt
sooner first next end (Many place size) le is = (omega (arith, le, is.0), is.1)

-- the list of each slot is between the next place and the end
pub within : (next end : ℕ) (slots : List Slot) (k : ℕ) (slot : Slot) → ListsAreInOrder next end slots → slice_get slots k ≡ Some slot → IsListedWithin next end slot.reply
within next end [] k slot are at = absurd (cc)
within next end (s ∷ slots) zero slot are at =
    subst (λ (x : Slot). IsListedWithin next end x.reply) (same_Some _ _ at) (first-within next end s.reply are.0 (in-order (behind next s.reply) end slots are.1))
within next end (s ∷ slots) (suc k) slot are at =
    sooner next (behind next s.reply) end slot.reply (behind-le next s.reply) (within (behind next s.reply) end slots k slot are.1 at)

pushed-last : (next end : ℕ) (reply : SlotReply) → next ≡ end → IsListedNext end reply → IsListedNext next reply × (behind next reply ≡ behind end reply)
pushed-last next end reply same at = (subst (λ n. IsListedNext n reply) (sym same) at, ap (λ n. behind n reply) same)

-- a slot more, whose list is at the end
pub pushed : (next end : ℕ) (slots : List Slot) (slot : Slot) → ListsAreInOrder next end slots → IsListedNext end slot.reply → ListsAreInOrder next (behind end slot.reply) (slots ++ slot ∷ [])
pushed next end [] slot are at = pushed-last next end slot.reply are at
pushed next end (s ∷ slots) slot are at = (are.0, pushed (behind next s.reply) end slots slot are.1 at)

kept-more : (lists : Lists) (list : List ℕ) (first end : ℕ) (reply : SlotReply) → IsListedWithin first end reply → end ≡ first + length lists → kept_reply (lists ++ list ∷ []) first reply ≡ kept_reply lists first reply
kept-more lists list first end (Short short) is at = refl
kept-more lists list first end (Few few) is at = refl
kept-more lists list first end (Many place size) is at =
    ap (λ (l : List ℕ). list_reply (take size l)) (get_or_append_left lists (list ∷ []) [] (place - first) (omega (arith, is.0, is.1, at)))

-- a list more at the end is none of theirs
pub one-more : (lists : Lists) (list : List ℕ) (first next end : ℕ) (slots : List Slot) → first ≤ next → ListsAreInOrder next end slots → end ≡ first + length lists
    → entries_in (lists ++ list ∷ []) first slots ≡ entries_in lists first slots
one-more lists list first next end [] le are at = refl
one-more lists list first next end (slot ∷ slots) le are at =
    let here : kept_reply (lists ++ list ∷ []) first slot.reply ≡ kept_reply lists first slot.reply =
    kept-more lists list first end slot.reply (sooner first next end slot.reply le (first-within next end slot.reply are.0 (in-order (behind next slot.reply) end slots are.1))) at in
    let rest : entries_in (lists ++ list ∷ []) first slots ≡ entries_in lists first slots =
    one-more lists list first (behind next slot.reply) end slots (omega (arith, le, behind-le next slot.reply)) are.1 at in
    ap (λ (r : Reply). let e : Entry = record { worker = slot.worker; call = slot.call; reply = r } in e ∷ entries_in (lists ++ list ∷ []) first slots) here
    ∙ ap (λ es. entry_in lists first slot ∷ es) rest

-- the list at the end
pub list-last : (lists : Lists) (list : List ℕ) (first place : ℕ) → place ≡ first + length lists → list_at (lists ++ list ∷ []) first place ≡ list
list-last lists list first place at = get_or_push lists list [] (place - first) (omega (arith, at))

-- an entry more, whose list is at the end
pub with-list : (lists : Lists) (list : List ℕ) (first place : ℕ) {size : ℕ} (slots : List Slot) (slot : Slot) → ListsAreInOrder first place slots → place ≡ first + length lists → slot.reply ≡ Many place size
    → entries_in (lists ++ list ∷ []) first (slots ++ slot ∷ []) ≡ entries_in lists first slots ++ record { worker = slot.worker; call = slot.call; reply = list_reply (take size list) } ∷ []
with-list lists list first place {size = size} slots slot are at many =
    let told : kept_reply (lists ++ list ∷ []) first slot.reply ≡ list_reply (take size list) =
    ap (kept_reply (lists ++ list ∷ []) first) many ∙ ap (λ l. list_reply (take size l)) (list-last lists list first place at) in
    map-append (entry_in (lists ++ list ∷ []) first) slots (slot ∷ [])
    ∙ (ap (λ es. es ++ entry_in (lists ++ list ∷ []) first slot ∷ []) (one-more lists list first first place slots (omega arith) are at)
    ∙ ap (λ (r : Reply). let e : Entry = record { worker = slot.worker; call = slot.call; reply = r } in entries_in lists first slots ++ e ∷ []) told)

shorter : (lists : Lists) (first place : ℕ) → first + 1 ≤ place → list_at lists first place ≡ list_at (drop 1 lists) (first + 1) place
shorter [] first place le = refl
shorter (list ∷ lists) first place le =
    let k : place - first ≡ suc (place - (first + 1)) = omega (arith, le) in
    ap (λ n. get_or (list ∷ lists) n []) k

kept-less : (lists : Lists) (first next : ℕ) (reply : SlotReply) → first + 1 ≤ next → IsListedNext next reply → kept_reply lists first reply ≡ kept_reply (drop 1 lists) (first + 1) reply
kept-less lists first next (Short short) le at = refl
kept-less lists first next (Few few) le at = refl
kept-less lists first next (Many place size) le at = ap (λ l. list_reply (take size l)) (shorter lists first place (omega (arith, le, at)))

-- the first list is none of theirs
pub one-less : (lists : Lists) (first next end : ℕ) (slots : List Slot) → first + 1 ≤ next → ListsAreInOrder next end slots → entries_in lists first slots ≡ entries_in (drop 1 lists) (first + 1) slots
one-less lists first next end [] le are = refl
one-less lists first next end (slot ∷ slots) le are =
    let here : kept_reply lists first slot.reply ≡ kept_reply (drop 1 lists) (first + 1) slot.reply = kept-less lists first next slot.reply le are.0 in
    let rest : entries_in lists first slots ≡ entries_in (drop 1 lists) (first + 1) slots =
    one-less lists first (behind next slot.reply) end slots (omega (arith, le, behind-le next slot.reply)) are.1 in
    ap (λ (r : Reply). let e : Entry = record { worker = slot.worker; call = slot.call; reply = r } in e ∷ entries_in lists first slots) here
    ∙ ap (λ es. entry_in (drop 1 lists) (first + 1) slot ∷ es) rest

-- the entry at a place
pub entry-read : (lists : Lists) (first all k : ℕ) (slots : List Slot) (slot : Slot) → all ≡ length slots → k < all → slot ≡ get_or slots k slot
    → slice_get (entries_in lists first slots) k ≡ Some (entry_in lists first slot)
entry-read lists first all k slots slot many lt at =
    slice_get-map (entry_in lists first) slots k ∙ ap (option_map (entry_in lists first)) (slice_get_read slots all k slot many lt at)

-- and where its list is
pub slot-within : (lists dropped all k : ℕ) (slots : List Slot) (slot : Slot) → ListsAreInOrder dropped (dropped + lists) slots → all ≡ length slots → k < all → slot ≡ get_or slots k slot
    → IsListedWithin dropped (dropped + lists) slot.reply
slot-within lists dropped all k slots slot are many lt at = within dropped (dropped + lists) slots k slot are (slice_get_read slots all k slot many lt at)

-- a slot more, which has no list of many
pub listed-more : (lists dropped : ℕ) (slots after : List Slot) (slot : Slot) → ListsAreInOrder dropped (dropped + lists) slots → after ≡ slots ++ slot ∷ [] → IsListedNext (dropped + lists) slot.reply
    → behind (dropped + lists) slot.reply ≡ dropped + lists → ListsAreInOrder dropped (dropped + lists) after
listed-more lists dropped slots after slot are is at same =
    subst (λ s. ListsAreInOrder dropped (dropped + lists) s) (sym is)
    (subst (λ n. ListsAreInOrder dropped n (slots ++ slot ∷ [])) same (pushed dropped (dropped + lists) slots slot are at))

-- a slot more, and its list
pub listed-both : (lists more dropped place : ℕ) {size : ℕ} (slots after : List Slot) (slot : Slot) → ListsAreInOrder dropped (dropped + lists) slots → after ≡ slots ++ slot ∷ [] → slot.reply ≡ Many place size → place ≡ dropped + lists
    → more ≡ lists + 1 → ListsAreInOrder dropped (dropped + more) after
listed-both lists more dropped place slots after slot are is many at one =
    subst (λ s. ListsAreInOrder dropped (dropped + more) s) (sym is)
    (subst (λ n. ListsAreInOrder dropped n (slots ++ slot ∷ [])) (ap (behind (dropped + lists)) many ∙ omega (arith, one))
    (pushed dropped (dropped + lists) slots slot are (subst (IsListedNext (dropped + lists)) (sym many) at)))

-- the places of the slots behind the first, which has a list
pub rest-listed : (dropped end place : ℕ) {size : ℕ} (slots rest : List Slot) (first : Slot) → ListsAreInOrder dropped end slots → slots ≡ first ∷ rest → first.reply ≡ Many place size → ListsAreInOrder (dropped + 1) end rest
rest-listed dropped end place slots rest first are is many =
    let all : ListsAreInOrder dropped end (first ∷ rest) = subst (ListsAreInOrder dropped end) is are in
    subst (λ (r : SlotReply). ListsAreInOrder (behind dropped r) end rest) many all.1

-- so there is a list to drop
pub list-there : (lists dropped place : ℕ) {size : ℕ} (slots rest : List Slot) (first : Slot) → ListsAreInOrder dropped (dropped + lists) slots → slots ≡ first ∷ rest → first.reply ≡ Many place size → 0 < lists
list-there lists dropped place slots rest first are is many =
    omega (arith, in-order (dropped + 1) (dropped + lists) rest (rest-listed dropped (dropped + lists) place slots rest first are is many))

pub one-fewer : {X : Type 0} (o : Option X) (old new : ℕ) → 0 < old → MatchOption o ((old ≡ 0) × (new ≡ 0)) (λ _. new + 1 ≡ old) → new + 1 ≡ old
one-fewer None old new some is = absurd (omega (arith, some, is.0))
one-fewer (Some x) old new some is = is

-- the first slot is gone, and its list
pub listed-less : (lists less dropped place : ℕ) {size : ℕ} (slots rest : List Slot) (first : Slot) → ListsAreInOrder dropped (dropped + lists) slots → slots ≡ first ∷ rest → first.reply ≡ Many place size → less + 1 ≡ lists
    → ListsAreInOrder (dropped + 1) (dropped + 1 + less) rest
listed-less lists less dropped place slots rest first are is many one =
    subst (λ n. ListsAreInOrder (dropped + 1) n rest) (omega (arith, one)) (rest-listed dropped (dropped + lists) place slots rest first are is many)

-- and their entries are those behind the first
pub entries-less : (lists after : Lists) (dropped count place : ℕ) {size : ℕ} (slots rest : List Slot) (first : Slot) → ListsAreInOrder dropped (dropped + count) slots → slots ≡ first ∷ rest → first.reply ≡ Many place size → after ≡ drop 1 lists
    → entries_in after (dropped + 1) rest ≡ drop 1 (entries_in lists dropped slots)
entries-less lists after dropped count place slots rest first are is many gone =
    ap (λ (ls : Lists). entries_in ls (dropped + 1) rest) gone
    ∙ (sym (one-less lists dropped (dropped + 1) (dropped + count) rest (omega arith) (rest-listed dropped (dropped + count) place slots rest first are is many))
    ∙ ap (λ ss. drop 1 (entries_in lists dropped ss)) (sym is))

-- a short reply is no list
pub no-list : (short : ShortReply) (numbers : List ℕ) → reply_of short ≡ list_reply numbers → ⊥
no-list (short.Forked child root) numbers e = absurd (cc)
no-list short.Done numbers e = absurd (cc)
no-list (short.Number number) numbers e = absurd (cc)
no-list (short.Reaped child ended) numbers e = absurd (cc)
no-list short.NoneYet numbers e = absurd (cc)
no-list (short.Counted count) numbers e = absurd (cc)
no-list (short.Control id) numbers e = absurd (cc)
no-list short.End numbers e = absurd (cc)
no-list (short.Refused refusal) numbers e = absurd (cc)
