-- Events that come one after another.
use Rattle.std.specs.Prelude.{ℕ, ◌≡◌, ◌<◌, Bool, List, [], ◌∷◌, ◌++◌, take, Option, Some, None, Result, Ok, Err, refl}
use Rattle.std.proofs.Common.{length, sym, ap, subst, ◌∙◌, append_assoc, append-nil, arith}
use Rattle.std.proofs.lemmas.List.Concat.{flat_map-append}
use Rattle.std.proofs.lemmas.List.Elements.{filter-append}
use Rattle.std.specs.Io.KnownBytes.{Appends, Consumes, Keeps, ReadConsumes, WriteAppends}
use Rattle.pid_types.specs.Devices.{Event, Reading, Writing, AreWell, heard_by, heard, said_by, said, is_reading, is_writing, readings, writings, Took, Gave}

-- what is read, one piece after another
pub Consumes-nothing : (a : Option (List ℕ)) → Consumes a a []
Consumes-nothing None = tt
Consumes-nothing (Some xs) = refl

pub Consumes-more : (a b c : Option (List ℕ)) (xs ys : List ℕ) → Consumes a b xs → Consumes b c ys → Consumes a c (xs ++ ys)
Consumes-more None b c xs ys first second = tt
Consumes-more (Some ls) None c xs ys first second = absurd first
Consumes-more (Some ls) (Some ms) None xs ys first second = second
Consumes-more (Some ls) (Some ms) (Some ns) xs ys first second = first ∙ ap (λ rest. xs ++ rest) second ∙ sym (append_assoc xs ys ns)

pub Consumes-keeps : (a b : Option (List ℕ)) → Keeps a b → Consumes a b []
Consumes-keeps None b keeps = tt
Consumes-keeps (Some xs) None keeps = keeps
Consumes-keeps (Some xs) (Some ys) keeps = sym keeps

-- what is appended, one piece after another
pub Appends-nothing : (a : Option (List ℕ)) → Appends a a []
Appends-nothing None = tt
Appends-nothing (Some xs) = sym (append-nil xs)

pub Appends-more : (a b c : Option (List ℕ)) (xs ys : List ℕ) → Appends a b xs → Appends b c ys → Appends a c (xs ++ ys)
Appends-more None b c xs ys first second = tt
Appends-more (Some ls) None c xs ys first second = absurd first
Appends-more (Some ls) (Some ms) None xs ys first second = second
Appends-more (Some ls) (Some ms) (Some ns) xs ys first second = second ∙ ap (λ front. front ++ ys) first ∙ append_assoc ls xs ys

pub Appends-keeps : (a b : Option (List ℕ)) → Keeps a b → Appends a b []
Appends-keeps None b keeps = tt
Appends-keeps (Some xs) None keeps = keeps
Appends-keeps (Some xs) (Some ys) keeps = keeps ∙ sym (append-nil xs)

-- a list with an element is not empty
pub some_is_none : {X : Type 0} (x : X) (xs : List X) → x ∷ xs ≡ [] → ⊥
some_is_none x xs none = omega (arith, ap length none)

-- where there are none, there are none at the front and none behind them
no_parts : (xs ys : List Event) → xs ++ ys ≡ [] → (xs ≡ []) × (ys ≡ [])
no_parts [] ys none = (refl, none)
no_parts (x ∷ xs) ys none = absurd (some_is_none x (xs ++ ys) none)

-- where all did their part, those at the front did, and those behind them
pub well_parts : (xs ys : List Event) → AreWell (xs ++ ys) → AreWell xs × AreWell ys
well_parts [] ys well = (tt, well)
well_parts (x ∷ xs) ys well = let rest = well_parts xs ys well.1 in ((well.0, rest.0), rest.1)

pub AreWell-more : (xs ys : List Event) → AreWell xs → AreWell ys → AreWell (xs ++ ys)
AreWell-more [] ys front back = back
AreWell-more (x ∷ xs) ys front back = (front.0, AreWell-more xs ys front.1 back)

-- events, and then others
pub Took-nothing : (a : Option (List ℕ)) (failed : Bool) → Took a a failed failed []
Took-nothing a failed = record { consumed = Consumes-nothing a; still = λ none. refl; kept = λ well. refl }

pub Took-more : (a b c : Option (List ℕ)) (f g h : Bool) (xs ys : List Event) → Took a b f g xs → Took b c g h ys → Took a c f h (xs ++ ys)
Took-more a b c f g h xs ys first second = record {
  consumed =
      subst (Consumes a c) (sym (flat_map-append heard_by xs ys))
      (Consumes-more a b c (heard xs) (heard ys) first.consumed second.consumed);
  still = λ none. let parts = no_parts xs ys none in second.still parts.1 ∙ first.still parts.0;
  kept = λ well. let parts = well_parts xs ys well in second.kept parts.1 ∙ first.kept parts.0;
}

pub Gave-nothing : (a : Option (List ℕ)) (failed full : Bool) → Gave a a failed failed full full []
Gave-nothing a failed full = record { appended = Appends-nothing a; kept = λ well. (refl, refl) }

pub Gave-more : (a b c : Option (List ℕ)) (f g h : Bool) (l m n : Bool) (xs ys : List Event) → Gave a b f g l m xs → Gave b c g h m n ys
    → Gave a c f h l n (xs ++ ys)
Gave-more a b c f g h l m n xs ys first second = record {
  appended =
      subst (Appends a c) (sym (flat_map-append said_by xs ys)) (Appends-more a b c (said xs) (said ys) first.appended second.appended);
  kept = λ well.
      let parts = well_parts xs ys well in
      let front = first.kept parts.0 in
      let back = second.kept parts.1 in
      (back.0 ∙ front.0, back.1 ∙ front.1);
}

-- a read that gave bytes, and one at which the source failed
pub Took-bytes : {E : Type 0} (a b : Option (List ℕ)) (failed : Bool) (asked n : ℕ) (r : Result ℕ E) (buffer : List ℕ) → r ≡ Ok n
    → ReadConsumes a b r buffer
    → Took a b failed failed (Reading asked (Some (take n buffer)) ∷ [])
Took-bytes a b failed asked n r buffer is reads =
    let read = subst (λ r. ReadConsumes a b r buffer) is reads in
    record {
      consumed = subst (Consumes a b) (sym (append-nil (take n buffer))) read.0;
      still = λ none. absurd (some_is_none _ _ none);
      kept = λ well. refl;
    }

pub Took-fault : {E : Type 0} (a b : Option (List ℕ)) (f g : Bool) (asked : ℕ) (e : E) (r : Result ℕ E) (buffer : List ℕ) → r ≡ Err e
    → ReadConsumes a b r buffer
    → Took a b f g (Reading asked None ∷ [])
Took-fault a b f g asked e r buffer is reads =
    record {
      consumed = Consumes-keeps a b (subst (λ r. ReadConsumes a b r buffer) is reads);
      still = λ none. absurd (some_is_none _ _ none);
      kept = λ well. absurd well.0;
    }

-- a write that took some of the bytes, or none, and one at which the sink failed
pub Gave-bytes : {E : Type 0} (a b : Option (List ℕ)) (failed full full' : Bool) (n : ℕ) (r : Result ℕ E) (offered : List ℕ) → r ≡ Ok n
    → WriteAppends a b r offered → (0 < n → full' ≡ full)
    → Gave a b failed failed full full' (Writing offered (Some n) ∷ [])
Gave-bytes a b failed full full' n r offered is writes kept =
    record {
      appended = subst (Appends a b) (sym (append-nil (take n offered))) (subst (λ r. WriteAppends a b r offered) is writes);
      kept = λ well. (refl, kept well.0);
    }

pub Gave-fault : {E : Type 0} (a b : Option (List ℕ)) (f g l m : Bool) (e : E) (r : Result ℕ E) (offered : List ℕ) → r ≡ Err e
    → WriteAppends a b r offered
    → Gave a b f g l m (Writing offered None ∷ [])
Gave-fault a b f g l m e r offered is writes =
    record { appended = Appends-keeps a b (subst (λ r. WriteAppends a b r offered) is writes); kept = λ well. absurd well.0 }

-- the reads and the writes of events, and of others
pub readings-more : (xs ys : List Event) → readings xs ++ readings ys ≡ readings (xs ++ ys)
readings-more xs ys = sym (filter-append is_reading xs ys)

pub writings-more : (xs ys : List Event) → writings xs ++ writings ys ≡ writings (xs ++ ys)
writings-more xs ys = sym (filter-append is_writing xs ys)

-- only reads hear, and only writes say
pub readings_heard : (es : List Event) → heard (readings es) ≡ heard es
readings_heard [] = refl
readings_heard (Reading asked None ∷ es) = readings_heard es
readings_heard (Reading asked (Some bytes) ∷ es) = ap (λ rest. bytes ++ rest) (readings_heard es)
readings_heard (Writing offered taken ∷ es) = readings_heard es

pub writings_said : (es : List Event) → said (writings es) ≡ said es
writings_said [] = refl
writings_said (Reading asked given ∷ es) = writings_said es
writings_said (Writing offered None ∷ es) = writings_said es
writings_said (Writing offered (Some n) ∷ es) = ap (λ rest. take n offered ++ rest) (writings_said es)

-- where all did their part, the reads did, and the writes
pub readings_well : (es : List Event) → AreWell es → AreWell (readings es)
readings_well [] well = tt
readings_well (Reading asked given ∷ es) well = (well.0, readings_well es well.1)
readings_well (Writing offered taken ∷ es) well = readings_well es well.1

pub writings_well : (es : List Event) → AreWell es → AreWell (writings es)
writings_well [] well = tt
writings_well (Reading asked given ∷ es) well = writings_well es well.1
writings_well (Writing offered taken ∷ es) well = (well.0, writings_well es well.1)

-- where neither has a read, there is none
pub no_readings : (xs ys : List Event) → readings xs ≡ [] → readings ys ≡ [] → readings (xs ++ ys) ≡ []
no_readings xs ys front back = sym (readings-more xs ys) ∙ (λ i. front i ++ back i)
