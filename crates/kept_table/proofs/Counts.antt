-- Counts of workers, of which one rises.
use Rattle.std.proofs.Common.{◌≡◌, ◌≢◌, ℕ, ◌+◌, ◌^◌, ◌<◌, ◌≤◌, List, [], ◌∷◌, ◌++◌, length, length-set, set, replicate, Option, Some, None, sum, cond, Bool, true, false, eqb, refl, sym, ap, ◌∙◌, subst, arith, inl, inr}
use Rattle.std.proofs.lemmas.Bool.Decides.{eqb_tells}
use Rattle.std.proofs.lemmas.List.Sums.{sum_by-set, sum_by_push}
use Rattle.std.proofs.lemmas.List.{get_or-set_same, get_or-set_other}
use Rattle.std.specs.Prelude.{slice_index, ◌==◌, ◌-◌}
use Rattle.pid_types.specs.declared.entry.Entry.{Entry}
use Rattle.pid_types.specs.Settings.{Settings, HasGoodPidMax}
use Rattle.pid_types.specs.State.{State, root_state}
use Rattle.pid_types.specs.Outcome.{Outcome}
use Rattle.pid_types.specs.Step.{step}
use Rattle.model_laws.specs.StepLaws.{BoundStays, RootStateIsSound, RunsKeepSoundness}
use Rattle.pid_types.specs.Sound.{IsSound, IsBelow}
use Rattle.kept_table.specs.Calls.{counted, resumed}
use Rattle.kept_table.specs.Chronicle.{Chronicle, IsKept, Memory, by_worker, next_stamp, total, recorded}
use Rattle.kept_past.specs.Past.{Past, Waiting, nobody_waits, opening_of}
use Rattle.kept_table.specs.Whole.{IsKeptCounted, IsKeptWhole, memory_of, one_of, room_of, told}
use Rattle.kept_table.proofs.Invariant.{kept-new, kept-resumed, kept-entry, kept-checkpoint}
use Rattle.kept_table.proofs.Totals.{sum_of_noughts}

one_yes : (i w : ℕ) → eqb i w ≡ true → one_of i w ≡ 1
one_yes i w h = ap (λ (b : Bool). cond {A = ℕ} b 1 0) h

one_no : (i w : ℕ) → eqb i w ≡ false → one_of i w ≡ 0
one_no i w h = ap (λ (b : Bool). cond {A = ℕ} b 1 0) h

-- the worker's count rises by one, and no other does
pub counted_one : (calls new : List ℕ) (i v : ℕ) → i < length calls → v ≡ slice_index calls i → new ≡ set calls i (v + 1) → (w : ℕ) → slice_index new w ≡ slice_index calls w + one_of i w
counted_one calls new i v lt is are w =
    let there : slice_index new w ≡ slice_index (set calls i (v + 1)) w = ap (λ xs. slice_index xs w) are in
    elim (eqb_tells i w) [
      | inl t ↦
          let here : slice_index (set calls i (v + 1)) w ≡ v + 1 = subst (λ j. slice_index (set calls i (v + 1)) j ≡ v + 1) t.1 (get_or-set_same calls i (v + 1) 0 lt) in
          let was : slice_index calls i ≡ slice_index calls w = ap (slice_index calls) t.1 in
          omega (arith, there, here, was, is, one_yes i w t.0)
      | inr t ↦
          let here : slice_index (set calls i (v + 1)) w ≡ slice_index calls w = get_or-set_other calls i w (v + 1) 0 (λ e. t.1 (sym e)) in
          omega (arith, there, here, one_no i w t.0)
    ]

pub summed_one : (calls new : List ℕ) (i v : ℕ) → i < length calls → v ≡ slice_index calls i → new ≡ set calls i (v + 1) → sum new ≡ sum calls + 1
summed_one calls new i v lt is are =
    let all : sum new ≡ sum (set calls i (v + 1)) = ap sum are in
    omega (arith, all, is, sum_by-set (λ x. x) calls i (v + 1) 0 lt)

pub length_one : (calls new : List ℕ) (i v : ℕ) → new ≡ set calls i (v + 1) → length new ≡ length calls
length_one calls new i v are = ap length are ∙ length-set calls i (v + 1)

-- an entry more is counted for its worker
pub by_worker_push : (w : ℕ) (entries : List Entry) (e : Entry) → by_worker w (entries ++ e ∷ []) ≡ by_worker w entries + one_of e.worker w
by_worker_push w entries e = sum_by_push (λ (x : Entry). cond (x.worker == w) 1 0) entries e

-- a new record
pub counted-new : RootStateIsSound → (workers : ℕ) (config : Settings) (opening present : State) (cut calls : List ℕ) (entries : List Entry) (memory : Memory) (steps : Bool) → HasGoodPidMax config.pid_max → 0 < config.first_stamp → config.first_stamp < 2 ^ 64 → opening ≡ root_state config.pid_max → present ≡ root_state config.pid_max → entries ≡ []
    → cut ≡ replicate workers 0 → calls ≡ replicate workers 0
    → IsKeptCounted calls (record { config = config; is_resumed = false; opening = opening; first_kept = 0; cut = cut; entries = entries; present = present; booked = sum calls; memory = memory; by_steps = steps })
counted-new law workers config opening present cut calls entries memory steps good some fits from is none cuts all =
    let zero_cut : sum cut ≡ 0 = ap sum cuts ∙ sum_of_noughts workers in
    let zero_all : sum calls ≡ 0 = ap sum all ∙ sum_of_noughts workers in
    let same : calls ≡ cut = all ∙ sym cuts in
    record {
      kept = kept-new law (length cut) config opening present cut entries (sum calls) memory steps good some fits from is none refl zero_cut zero_all;
      len = ap length same;
      each = λ w lt.
          let none_of : by_worker w entries ≡ 0 = ap (by_worker w) none in
          let equal : slice_index calls w ≡ slice_index cut w = ap (λ xs. slice_index xs w) same in
          omega (arith, none_of, equal);
    }

-- a record that goes on from a saved state, by its parts
pub resumed-is : (config : Settings) (state : State) (stamp first : ℕ) (counts cut calls : List ℕ) (past : Past) → config.pid_max ≡ state.pid_max → config.first_stamp ≡ stamp - first → first ≡ sum counts → cut ≡ counts → calls ≡ counts → past.opening ≡ None → past.entries ≡ [] → past.waits ≡ nobody_waits
    → told config true past first cut state calls ≡ resumed state stamp counts 0
resumed-is config state stamp first counts cut calls past bound starts at cuts all none empty nobody = rw (bound, starts, at, cuts, all, none, empty, nobody) refl

pub whole-resumed : (config : Settings) (state : State) (stamp first : ℕ) (counts cut calls : List ℕ) (past : Past) → IsSound state → IsBelow stamp state → sum counts < stamp → stamp < 2 ^ 64 → config.pid_max ≡ state.pid_max → config.first_stamp ≡ stamp - first → first ≡ sum counts → cut ≡ counts → calls ≡ counts
    → past ≡ record { opening = None; is_fixed = false; entries = []; stamp = stamp; waits = nobody_waits; room = past.room }
    → IsKeptWhole past calls (told config true past first cut state calls)
whole-resumed config state stamp first counts cut calls past sound below fewer fits bound starts at cuts all bare =
    subst (λ c. IsKeptWhole past calls c) (sym (resumed-is config state stamp first counts cut calls past bound starts at cuts all (ap (λ (p : Past). p.opening) bare) (ap (λ (p : Past). p.entries) bare) (ap (λ (p : Past). p.waits) bare))) (record {
      counted = record {
        kept = kept-resumed state stamp counts 0 sound below fewer fits;
        len = ap length all;
        each = λ w lt.
            let none_of : by_worker w [] ≡ 0 = refl in
            let equal : slice_index calls w ≡ slice_index counts w = ap (λ xs. slice_index xs w) all in
            omega (arith, none_of, equal);
      };
      bare = λ _. refl;
      at = omega (arith, fewer, ap (λ (p : Past). p.stamp) bare);
    })

-- one recorded call more
pub counted-push : (calls calls' : List ℕ) (c : Chronicle) (e : Entry) (entries : List Entry) (present : State) (memory : Memory) → IsKeptCounted calls c → c.booked ≡ sum calls → entries ≡ c.entries ++ e ∷ [] → e.worker < length c.cut → (next_stamp c + 1) < 2 ^ 64
    → (let o : Outcome = record { state = present; reply = e.reply } in o) ≡ step c.present (next_stamp c) e.call
    → ((w : ℕ) → slice_index calls' w ≡ slice_index calls w + one_of e.worker w) → sum calls' ≡ sum calls + 1 → length calls' ≡ length calls
    → IsKeptCounted calls' (record c { entries = entries; present = present; booked = sum calls'; memory = memory })
counted-push calls calls' c e entries present memory k books are known fits is each all len = record {
  kept = kept-entry (length c.cut) c e entries present (sum calls') memory k.kept are known fits is (omega (arith, all, books));
  len = len ∙ k.len;
  each = λ w lt.
      let more : by_worker w entries ≡ by_worker w c.entries + one_of e.worker w = ap (by_worker w) are ∙ by_worker_push w c.entries e in
      omega (arith, each w, k.each w lt, more);
}

-- the present state becomes the opening
pub counted-cut : RunsKeepSoundness → BoundStays → (calls cut : List ℕ) (c : Chronicle) (opening : State) (entries : List Entry) (first : ℕ) (memory : Memory) → IsKeptCounted calls c → c.booked ≡ sum calls → opening ≡ c.present → entries ≡ [] → first ≡ total c → cut ≡ calls
    → IsKeptCounted calls (record c { opening = opening; first_kept = first; cut = cut; entries = entries; memory = memory })
counted-cut law stays calls cut c opening entries first memory k books from none is same =
    let len : length cut ≡ length c.cut = ap length same ∙ k.len in
    let all : sum cut ≡ total c = ap sum same ∙ (sym books ∙ k.kept.counted.booked) in
    record {
      kept = subst (λ n. IsKept n (record c { opening = opening; first_kept = first; cut = cut; entries = entries; memory = memory })) (sym len) (kept-checkpoint law stays (length c.cut) c opening entries first cut memory k.kept from none is len all);
      len = ap length (sym same);
      each = λ w lt.
          let none_of : by_worker w entries ≡ 0 = ap (by_worker w) none in
          let equal : slice_index calls w ≡ slice_index cut w = ap (λ xs. slice_index xs w) (sym same) in
          omega (arith, none_of, equal);
    }

-- and each worker has as many recorded calls as before
pub recorded-cut : (calls cut : List ℕ) (c : Chronicle) (opening : State) (first : ℕ) (memory : Memory) → IsKeptCounted calls c → cut ≡ calls → (w : ℕ) → w < length c.cut
    → recorded (record c { opening = opening; first_kept = first; cut = cut; entries = []; memory = memory }) w ≡ recorded c w
recorded-cut calls cut c opening first memory k same w lt =
    let none_of : by_worker w [] ≡ 0 = refl in
    let equal : slice_index cut w ≡ slice_index calls w = ap (λ xs. slice_index xs w) same in
    omega (arith, none_of, equal, k.each w lt)

-- there is room only where a state is held
pub some_of_room : (held : Option State) (room : ℕ) → 0 < room_of held room → (held ≢ None) × (0 < room)
some_of_room None room some = absurd (omega (arith, some))
some_of_room (Some state) room some = (λ none. cc, some)

opening_stays : (held : Option State) (old new : State) → held ≢ None → opening_of held old ≡ opening_of held new
opening_stays None old new some = absurd (some refl)
opening_stays (Some state) old new some = refl

-- the same where a state is held
pub whole-push : (past next : Past) (config : Settings) (resumed : Bool) (first : ℕ) (waits : Waiting) (room : ℕ) (cut calls calls' : List ℕ) (old present : State) (e : Entry) → past.opening ≢ None
    → IsKeptWhole past calls (told config resumed past first cut old calls) → next ≡ record past { entries = past.entries ++ e ∷ []; waits = waits; room = room } → e.worker < length cut → (next_stamp (told config resumed past first cut old calls) + 1) < 2 ^ 64
    → (let o : Outcome = record { state = present; reply = e.reply } in o) ≡ step old (next_stamp (told config resumed past first cut old calls)) e.call
    → ((w : ℕ) → slice_index calls' w ≡ slice_index calls w + one_of e.worker w) → sum calls' ≡ sum calls + 1 → length calls' ≡ length calls
    → IsKeptWhole next calls' (told config resumed next first cut present calls')
whole-push past next config resumed first waits room cut calls calls' old present e some k are known fits is each all len =
    let entries : List Entry = past.entries ++ e ∷ [] in
    subst (λ (p : Past). IsKeptWhole p calls' (told config resumed p first cut present calls')) (sym are) (record {
      counted = subst (λ (o : State). IsKeptCounted calls' (record (told config resumed past first cut old calls) { opening = o; entries = entries; present = present; booked = sum calls'; memory = memory_of past.opening room waits }))
          (opening_stays past.opening old present some)
          (counted-push calls calls' (told config resumed past first cut old calls) e entries present (memory_of past.opening room waits) k.counted refl refl known fits is each all len);
      bare = λ none. absurd (some none);
      at = k.at;
    })

-- an entry more uses up one of the room
pub room-stays : (held held' : Option State) (room room' : ℕ) → held' ≡ held → room ≤ room' + 1 → room_of held room ≤ room_of held' room' + 1
room-stays None held' room room' is le = omega arith
room-stays (Some state) held' room room' is le = subst (λ (z : Option State). room ≤ room_of z room' + 1) (sym is) le

-- the record with one call more, which leaves the state
pub counted-query : (past next : Past) (config : Settings) (resumed : Bool) (first : ℕ) (waits : Waiting) (room : ℕ) (cut calls calls' : List ℕ) (present : State) (entries : List Entry) (c : Chronicle) (before : Memory)
    → next ≡ record past { entries = entries; waits = waits; room = room } → sum calls' ≡ sum calls + 1
    → told config resumed past first cut present calls ≡ record c { memory = before }
    → told config resumed next first cut present calls' ≡ counted c next.entries present (memory_of next.opening next.room next.waits)
counted-query past next config resumed first waits room cut calls calls' present entries c before are all seen =
    subst (λ (p : Past). told config resumed p first cut present calls' ≡ counted c p.entries present (memory_of p.opening p.room p.waits)) (sym are)
    (ap (λ n. record (told config resumed past first cut present calls) { entries = entries; booked = n; memory = memory_of past.opening room waits }) all
    ∙ ap (λ (t : Chronicle). counted t entries present (memory_of past.opening room waits)) seen)
