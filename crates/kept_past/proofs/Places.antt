-- Where the kept entries are, and what the last of them is.
use Rattle.std.specs.Prelude.{option_map, IfSome}
use Rattle.std.proofs.Common.{◌≡◌, ℕ, zero, suc, ◌+◌, ◌-◌, ◌<◌, List, [], ◌∷◌, drop, length, get_or, slice_get, Option, Some, None, refl, sym, ap, ◌∙◌, arith}
use Rattle.std.proofs.lemmas.List.{length-drop, length-map}
use Rattle.std.proofs.lemmas.Option.{slice_get-map}
use Rattle.pid_types.specs.declared.entry.Entry.{Entry}
use Rattle.pid_types.specs.declared.reply.Reply.{Reply}
use Rattle.kept_past.specs.declared.ring.Slot.{Slot}
use Rattle.kept_past.specs.Stored.{Lists, entry_in, entries_in, kept_reply, replies_of}
use Rattle.kept_past.proofs.Lists.{entry-read}

-- a kept entry is behind those that wait
pub kept-at : (ring : List Entry) (lag place : ℕ) → slice_get (drop lag ring) place ≡ slice_get ring (lag + place)
kept-at ring zero place = let same : place ≡ 0 + place = omega arith in ap (slice_get ring) same
kept-at [] (suc lag) place = refl
kept-at (e ∷ ring) (suc lag) place = let same : suc (lag + place) ≡ suc lag + place = omega arith in kept-at ring lag place ∙ ap (slice_get (e ∷ ring)) same

abbrev reply : Entry → Reply
reply e = e.reply

-- the last kept reply is the last of all
pub kept-last : (ring : List Entry) (lag : ℕ) → 0 < length (drop lag ring)
    → slice_get (replies_of (drop lag ring)) (length (drop lag ring) - 1) ≡ slice_get (replies_of ring) (length ring - 1)
kept-last ring lag some =
    let place : lag + (length (drop lag ring) - 1) ≡ length ring - 1 = omega (arith, some, length-drop lag ring) in
    slice_get-map reply (drop lag ring) (length (drop lag ring) - 1)
    ∙ (ap (option_map reply) (kept-at ring lag (length (drop lag ring) - 1))
    ∙ (ap (λ n. option_map reply (slice_get ring n)) place
    ∙ sym (slice_get-map reply ring (length ring - 1))))

-- it is the one in the last slot
pub last-slot : (lists : Lists) (first : ℕ) (slots : List Slot) (slot : Slot) (all : ℕ) → all ≡ length slots → 0 < all → slot ≡ get_or slots (all - 1) slot
    → slice_get (replies_of (entries_in lists first slots)) (length (entries_in lists first slots) - 1) ≡ Some (kept_reply lists first slot.reply)
last-slot lists first slots slot all many some at =
    let place : length (entries_in lists first slots) - 1 ≡ all - 1 = ap (λ n. n - 1) (length-map slots (entry_in lists first) ∙ sym many) in
    ap (slice_get (replies_of (entries_in lists first slots))) place
    ∙ (slice_get-map reply (entries_in lists first slots) (all - 1)
    ∙ ap (option_map reply) (entry-read lists first all (all - 1) slots slot many (omega (arith, some)) at))

-- what follows of a value that may be there
pub if_some-then : {X : Type 0} {P Q : X → Type 0} (o : Option X) → ((x : X) → P x → Q x) → IfSome o P → IfSome o Q
if_some-then None then is = tt
if_some-then (Some x) then is = then x is
