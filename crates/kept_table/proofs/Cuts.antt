-- Kept entries that are cut away.
use Rattle.std.proofs.Common.{◌≡◌, ◌≢◌, ℕ, ◌+◌, ◌^◌, ◌<◌, List, [], ◌∷◌, ◌++◌, length, length-append, Option, Some, None, sum, cond, Bool, true, false, not, inl, inr, refl, sym, ap, ◌∙◌, subst, arith}
use Rattle.std.proofs.lemmas.List.{append-nil, append_assoc}
use Rattle.std.proofs.lemmas.List.Elements.{All-head}
use Rattle.std.proofs.lemmas.List.Sums.{sum_by-cons}
use Rattle.std.specs.Prelude.{All, slice_index, ◌==◌, ◌⊎◌}
use Rattle.std.proofs.lemmas.Bool.{ne_eqb}
use Rattle.pid_types.specs.declared.call.Call.{Call}
use Rattle.pid_types.specs.declared.entry.Entry.{Entry}
use Rattle.pid_types.specs.Replay.{state_after, calls_of}
use Rattle.pid_types.specs.Settings.{Settings}
use Rattle.pid_types.specs.State.{State}
use Rattle.pid_types.specs.Step.{step}
use Rattle.model_laws.specs.StepLaws.{BoundStays, RunsKeepSoundness}
use Rattle.kept_table.specs.Calls.{after_recorded, counted, entry_of, nothing_spare, outcome, IsWithoutFirst}
use Rattle.kept_table.specs.Chronicle.{Chronicle, IsKept, Memory, by_worker, first_kept_stamp}
use Rattle.kept_table.specs.Whole.{IsKeptCounted, IsKeptWhole, is_fresh, memory_of, one_of, told}
use Rattle.kept_past.specs.Past.{IsCutOnce, Past, Waiting, moves_or, opening_of}
use Rattle.kept_past.proofs.Along.{state_after-append}
use Rattle.kept_table.proofs.Counts.{counted-cut, recorded-cut}
use Rattle.kept_table.proofs.Invariant.{kept-once}

by_worker_first : (w : ℕ) (e : Entry) (entries : List Entry) → by_worker w (e ∷ entries) ≡ one_of e.worker w + by_worker w entries
by_worker_first w e entries = sum_by-cons (λ (x : Entry). cond (x.worker == w) 1 0) e entries

-- what memory there is beside is of no account, nor whether the opening moves on by calls
freed : (calls : List ℕ) (c : Chronicle) (memory : Memory) (steps : Bool) → IsKeptCounted calls c → IsKeptCounted calls (record c { memory = memory; by_steps = steps })
freed calls c memory steps k = record {
  kept = record {
    replayed = record { run = k.kept.replayed.run; starts = k.kept.replayed.starts };
    counted = record { booked = k.kept.counted.booked; places = k.kept.counted.places; cut = k.kept.counted.cut; known = k.kept.counted.known; fits = k.kept.counted.fits };
    opened = record { sound = k.kept.opened.sound; below = k.kept.opened.below; bound = k.kept.opened.bound };
  };
  len = k.len;
  each = k.each;
}

-- the first entry is counted as cut away
counted-once : RunsKeepSoundness → BoundStays → (calls cut : List ℕ) (c : Chronicle) (e : Entry) (entries : List Entry) (memory : Memory) → IsKeptCounted calls c → c.entries ≡ e ∷ entries
    → ((w : ℕ) → slice_index cut w ≡ slice_index c.cut w + one_of e.worker w) → sum cut ≡ sum c.cut + 1 → length cut ≡ length c.cut
    → IsKeptCounted calls (record c { opening = (step c.opening (first_kept_stamp c) e.call).state; first_kept = c.first_kept + 1; cut = cut; entries = entries; memory = memory })
counted-once law stays calls cut c e entries memory k are each more len = record {
  kept = subst (λ n. IsKept n (record c { opening = (step c.opening (first_kept_stamp c) e.call).state; first_kept = c.first_kept + 1; cut = cut; entries = entries; memory = memory })) (sym len)
      (kept-once law stays (length c.cut) c e entries cut memory k.kept are len more);
  len = k.len ∙ sym len;
  each = λ w lt. omega (arith, k.each w (omega (arith, lt, len)), each w, ap (by_worker w) are, by_worker_first w e entries);
}

-- whose entry is cut is a worker, and there is one to be counted
pub first-known : (past next : Past) (worker : ℕ) (config : Settings) (resumed : Bool) (first : ℕ) (cut calls : List ℕ) (present : State) → IsKeptWhole past calls (told config resumed past first cut present calls) → IsCutOnce worker past next
    → (worker < length cut) × (sum cut + 1 < 2 ^ 64) × (first + 1 < 2 ^ 64)
first-known past next worker config resumed first cut calls present k once =
    let kept = k.counted.kept.counted in
    let known : once.first.worker < length cut = All-head (λ (e : Entry). e.worker < length cut) once.first next.entries (subst (λ (es : List Entry). All (λ (e : Entry). e.worker < length cut) es) once.were kept.known) in
    (omega (arith, once.by, known), omega (arith, kept.cut, kept.fits, ap length once.were), omega (arith, kept.fits, ap length once.were))

moved : (past next : Past) (worker : ℕ) (config : Settings) (resumed : Bool) (first : ℕ) (cut calls : List ℕ) (present : State) → IsKeptWhole past calls (told config resumed past first cut present calls) → (once : IsCutOnce worker past next)
    → (step once.opening past.stamp once.first.call).state ≡ (step (opening_of past.opening present) (config.first_stamp + first) once.first.call).state
moved past next worker config resumed first cut calls present k once =
    ap (λ (n : ℕ). (step once.opening n once.first.call).state) k.at
    ∙ ap (λ (s : State). (step s (config.first_stamp + first) once.first.call).state) (sym (ap (λ o. opening_of o present) once.was))

-- the first kept entry is cut away
pub whole-once : RunsKeepSoundness → BoundStays → (past next : Past) (worker : ℕ) (config : Settings) (resumed : Bool) (first : ℕ) (cut cut' calls : List ℕ) (present : State) → IsKeptWhole past calls (told config resumed past first cut present calls) → IsCutOnce worker past next
    → ((w : ℕ) → slice_index cut' w ≡ slice_index cut w + one_of worker w) → sum cut' ≡ sum cut + 1 → length cut' ≡ length cut
    → IsKeptWhole next calls (told config resumed next (first + 1) cut' present calls)
whole-once law stays past next worker config resumed first cut cut' calls present k once each more len =
    let c : Chronicle = told config resumed past first cut present calls in
    let counts : (w : ℕ) → slice_index cut' w ≡ slice_index cut w + one_of once.first.worker w = λ w. each w ∙ ap (λ n. slice_index cut w + one_of n w) once.by in
    subst (λ (p : Past). IsKeptWhole p calls (told config resumed p (first + 1) cut' present calls)) (sym once.left) (record {
      counted = freed calls (record c { opening = (step once.opening past.stamp once.first.call).state; first_kept = first + 1; cut = cut'; entries = next.entries }) (record { room = next.room; waits = next.waits }) (not past.is_fixed)
          (subst (λ (o : State). IsKeptCounted calls (record c { opening = o; first_kept = first + 1; cut = cut'; entries = next.entries; memory = c.memory })) (sym (moved past next worker config resumed first cut calls present k once))
          (counted-once law stays calls cut' c once.first next.entries c.memory k.counted once.were counts more len));
      bare = λ none. absurd (cc);
      at = omega (arith, k.at);
    })

chronicle-with : (d c : Chronicle) (o o' : State) (f f' : ℕ) → d ≡ record c { opening = o; first_kept = f; cut = d.cut; entries = d.entries; memory = d.memory } → o ≡ o' → f ≡ f'
    → d ≡ record c { opening = o'; first_kept = f'; cut = d.cut; entries = d.entries; memory = d.memory }
chronicle-with d c o o' f f' is a b =
    is ∙ (ap (λ (s : State). record c { opening = s; first_kept = f; cut = d.cut; entries = d.entries; memory = d.memory }) a
    ∙ ap (λ (n : ℕ). record c { opening = o'; first_kept = n; cut = d.cut; entries = d.entries; memory = d.memory }) b)

-- what is held goes on to move on by calls, or not
moves_as : (past next : Past) (worker : ℕ) (otherwise otherwise' : Bool) → (once : IsCutOnce worker past next) → moves_or next.opening next.is_fixed otherwise' ≡ moves_or past.opening past.is_fixed otherwise
moves_as past next worker otherwise otherwise' once =
    ap (λ (p : Past). moves_or p.opening p.is_fixed otherwise') once.left ∙ sym (ap (λ (o : Option State). moves_or o past.is_fixed otherwise) once.was)

opened-with : (past next : Past) (config : Settings) (resumed : Bool) (first : ℕ) (cut cut' calls : List ℕ) (present o : State) → next.opening ≡ Some o
    → moves_or next.opening next.is_fixed (is_fresh resumed (first + 1)) ≡ moves_or past.opening past.is_fixed (is_fresh resumed first)
    → told config resumed next (first + 1) cut' present calls ≡ record (told config resumed past first cut present calls) { opening = o; first_kept = first + 1; cut = cut'; entries = next.entries; memory = memory_of next.opening next.room next.waits }
opened-with past next config resumed first cut cut' calls present o is moves =
    ap (λ b. record (told config resumed next (first + 1) cut' present calls) { by_steps = b }) moves
    ∙ ap (λ x. record (told config resumed past first cut present calls) { opening = opening_of x present; first_kept = first + 1; cut = cut'; entries = next.entries; memory = memory_of next.opening next.room next.waits }) is

pub without-first : (past next : Past) (worker : ℕ) (config : Settings) (resumed : Bool) (first : ℕ) (cut cut' calls : List ℕ) (present : State) → IsKeptWhole past calls (told config resumed past first cut present calls) → IsCutOnce worker past next
    → ((w : ℕ) → slice_index cut' w ≡ slice_index cut w + one_of worker w) → length cut' ≡ length cut
    → IsWithoutFirst 1 (told config resumed past first cut present calls) (told config resumed next (first + 1) cut' present calls)
without-first past next worker config resumed first cut cut' calls present k once each len = record {
  gone = once.first ∷ [];
  many = refl;
  were = once.were;
  left = opened-with past next config resumed first cut cut' calls present _ (ap (λ (p : Past). p.opening) once.left ∙ ap (λ (s : State). Some s) (moved past next worker config resumed first cut calls present k once))
      (moves_as past next worker _ _ once);
  workers = len;
  counts = λ w lt. omega (arith, each w, ap (λ n. one_of n w) once.by, ap (by_worker w) once.were, by_worker_first w once.first next.entries);
}

-- where none is cut away
pub without-none : (c : Chronicle) → IsWithoutFirst 0 c c
without-none c = record {
  gone = [];
  many = refl;
  were = refl;
  left = chronicle-with c c c.opening c.opening c.first_kept (c.first_kept + 0) refl refl (omega arith);
  workers = refl;
  counts = λ w lt. refl;
}

-- some are cut away, and then others
pub without-then : (n m : ℕ) (c d e : Chronicle) → IsWithoutFirst n c d → IsWithoutFirst m d e → IsWithoutFirst (n + m) c e
without-then n m c d e a b =
    let opened : state_after d.opening (first_kept_stamp d) (calls_of b.gone) ≡ state_after c.opening (first_kept_stamp c) (calls_of (a.gone ++ b.gone)) =
    ap (λ (x : Chronicle). state_after x.opening (first_kept_stamp x) (calls_of b.gone)) a.left
    ∙ (ap (λ (k : ℕ). state_after (state_after c.opening (first_kept_stamp c) (calls_of a.gone)) k (calls_of b.gone)) (omega (arith, a.many))
    ∙ sym (state_after-append c.opening (first_kept_stamp c) a.gone b.gone)) in
    record {
      gone = a.gone ++ b.gone;
      many = omega (arith, length-append a.gone b.gone, a.many, b.many);
      were = a.were ∙ (ap (λ (es : List Entry). a.gone ++ es) b.were ∙ sym (append_assoc a.gone b.gone e.entries));
      left = chronicle-with e c _ _ _ _
          (b.left ∙ ap (λ (x : Chronicle). record x { opening = state_after d.opening (first_kept_stamp d) (calls_of b.gone); first_kept = d.first_kept + m; cut = e.cut; entries = e.entries; memory = e.memory }) a.left)
          opened
          (omega (arith, ap (λ (x : Chronicle). x.first_kept) a.left));
      workers = b.workers ∙ a.workers;
      counts = λ w lt. b.counts w (omega (arith, lt, a.workers)) ∙ a.counts w lt;
    }

-- what memory there is beside is of no account
pub without-memory : (n : ℕ) (memory : Memory) (c d : Chronicle) → IsWithoutFirst n c d → IsWithoutFirst n (record c { memory = memory }) d
without-memory n memory c d w = record { gone = w.gone; many = w.many; were = w.were; left = w.left; workers = w.workers; counts = w.counts }

-- all are cut away: the present state is the opening
pub whole-all : RunsKeepSoundness → BoundStays → (past next : Past) (config : Settings) (resumed fixed : Bool) (first first' stamp : ℕ) (waits : Waiting) (room : ℕ) (cut cut' calls : List ℕ) (present : State) → IsKeptWhole past calls (told config resumed past first cut present calls)
    → next ≡ record { opening = Some present; is_fixed = fixed; entries = []; stamp = stamp; waits = waits; room = room } → first' ≡ first + length past.entries → stamp ≡ past.stamp + length past.entries → cut' ≡ calls
    → IsKeptWhole next calls (told config resumed next first' cut' present calls)
whole-all law stays past next config resumed fixed first first' stamp waits room cut cut' calls present k left firsts stamps same =
    subst (λ (p : Past). IsKeptWhole p calls (told config resumed p first' cut' present calls)) (sym left) (record {
      counted = freed calls (record (told config resumed past first cut present calls) { opening = present; first_kept = first'; cut = cut'; entries = [] }) (record { room = room; waits = waits }) (not fixed)
          (counted-cut law stays calls cut' (told config resumed past first cut present calls) present [] first' _ k.counted refl refl refl firsts same);
      bare = λ none. absurd (cc);
      at = omega (arith, stamps, k.at, firsts);
    })

-- the same where no state is held then
pub whole-bare : RunsKeepSoundness → BoundStays → (past next : Past) (config : Settings) (resumed : Bool) (first first' stamp : ℕ) (waits : Waiting) (room : ℕ) (cut cut' calls : List ℕ) (present : State) → IsKeptWhole past calls (told config resumed past first cut present calls)
    → next ≡ record { opening = None; is_fixed = false; entries = []; stamp = stamp; waits = waits; room = room } → first' ≡ first + length past.entries → stamp ≡ config.first_stamp + first' → cut' ≡ calls
    → IsKeptWhole next calls (told config resumed next first' cut' present calls)
whole-bare law stays past next config resumed first first' stamp waits room cut cut' calls present k left firsts stamps same =
    subst (λ (p : Past). IsKeptWhole p calls (told config resumed p first' cut' present calls)) (sym left) (record {
      counted = freed calls (record (told config resumed past first cut present calls) { opening = present; first_kept = first'; cut = cut'; entries = [] }) (record { room = 0; waits = waits }) (is_fresh resumed first')
          (counted-cut law stays calls cut' (told config resumed past first cut present calls) present [] first' _ k.counted refl refl refl firsts same);
      bare = λ _. refl;
      at = stamps;
    })

-- behind a call that was cut away the opening is no more the root init's state
pub not_fresh : (resumed : Bool) (first : ℕ) → 0 < first → is_fresh resumed first ≡ false
not_fresh true first some = refl
not_fresh false first some = ne_eqb first 0 (λ e. absurd (omega (arith, e, some)))

-- and so all kept entries are gone
pub without-all : (past next : Past) (config : Settings) (resumed : Bool) (first first' : ℕ) (cut cut' calls : List ℕ) (present : State) → IsKeptWhole past calls (told config resumed past first cut present calls)
    → next.opening ≡ None → next.entries ≡ [] → first' ≡ first + length past.entries → cut' ≡ calls → 0 < first' → (told config resumed past first cut present calls).by_steps ≡ false
    → IsWithoutFirst (length past.entries) (told config resumed past first cut present calls) (told config resumed next first' cut' present calls)
without-all past next config resumed first first' cut cut' calls present k bare none firsts same some fixed =
    let c : Chronicle = told config resumed past first cut present calls in
    record {
      gone = past.entries;
      many = refl;
      were = sym (append-nil past.entries) ∙ ap (λ (es : List Entry). past.entries ++ es) (sym none);
      left = chronicle-with (told config resumed next first' cut' present calls) c _ _ _ _
          (ap (λ b. record (told config resumed next first' cut' present calls) { by_steps = b }) (ap (λ o. moves_or o next.is_fixed (is_fresh resumed first')) bare ∙ (not_fresh resumed first' some ∙ sym fixed)))
          (ap (λ o. opening_of o present) bare ∙ k.counted.kept.replayed.run.ends)
          firsts;
      workers = ap length same ∙ k.counted.len;
      counts = λ w lt. ap (λ (es : List Entry). slice_index cut' w + by_worker w es) none ∙ recorded-cut calls cut' c present first' c.memory k.counted same w lt;
    }

-- a run ends in the present state
pub ends-of : (past : Past) (config : Settings) (resumed : Bool) (first : ℕ) (cut calls : List ℕ) (present : State) → IsKeptWhole past calls (told config resumed past first cut present calls)
    → (opening : State) → past.opening ≡ Some opening → present ≡ state_after opening past.stamp (calls_of past.entries)
ends-of past config resumed first cut calls present k opening is =
    k.counted.kept.replayed.run.ends
    ∙ (ap (λ o. state_after (opening_of o present) (config.first_stamp + first) (calls_of past.entries)) is
    ∙ ap (λ n. state_after opening n (calls_of past.entries)) (sym k.at))

-- some are cut away behind a call
pub without-after : (n : ℕ) (old made d : Chronicle) (worker : ℕ) (call : Call) → made ≡ counted old made.entries made.present made.memory → made.entries ≡ old.entries ++ entry_of old worker call ∷ [] → made.present ≡ (outcome old call).state
    → IsWithoutFirst n made d → IsWithoutFirst n (after_recorded old worker call) d
without-after n old made d worker call is entries present w =
    let same : record made { memory = nothing_spare } ≡ after_recorded old worker call =
    ap (λ (c : Chronicle). record c { memory = nothing_spare }) is
    ∙ (ap (λ (es : List Entry). counted old es made.present nothing_spare) entries
    ∙ ap (λ (s : State). counted old (old.entries ++ entry_of old worker call ∷ []) s nothing_spare) present) in
    subst (λ (c : Chronicle). IsWithoutFirst n c d) same (without-memory n nothing_spare made d w)

-- a table of the opening is held
pub whole-given : (past next : Past) (config : Settings) (resumed : Bool) (first : ℕ) (cut calls : List ℕ) (present table : State) → IsKeptWhole past calls (told config resumed past first cut present calls)
    → table ≡ opening_of past.opening present → next ≡ record past { opening = Some table; is_fixed = false }
    → IsKeptWhole next calls (told config resumed next first cut present calls)
    × (told config resumed next first cut present calls ≡ record (told config resumed past first cut present calls) { memory = memory_of next.opening next.room next.waits; by_steps = true })
whole-given past next config resumed first cut calls present table k stays left =
    let opened : (memory : Memory) → record (told config resumed past first cut present calls) { opening = table; memory = memory; by_steps = true } ≡ record (told config resumed past first cut present calls) { memory = memory; by_steps = true } =
    λ memory. ap (λ (s : State). record (told config resumed past first cut present calls) { opening = s; memory = memory; by_steps = true }) stays in (
      subst (λ (p : Past). IsKeptWhole p calls (told config resumed p first cut present calls)) (sym left) (record {
        counted = subst (λ (c : Chronicle). IsKeptCounted calls c) (sym (opened (record { room = past.room; waits = past.waits }))) (freed calls (told config resumed past first cut present calls) (record { room = past.room; waits = past.waits }) true k.counted);
        bare = λ e. absurd (cc);
        at = k.at;
      }),
      ap (λ (p : Past). record (told config resumed p first cut present calls) { memory = memory_of next.opening next.room next.waits }) left ∙ opened (memory_of next.opening next.room next.waits),
    )

-- nothing is held, or what is to be given
pub none_or_same : (held : Option State) (present table : State) → table ≡ opening_of held present → (held ≡ None) ⊎ (held ≡ Some table)
none_or_same None present table is = inl refl
none_or_same (Some state) present table is = inr (ap (λ s. Some s) (sym is))

-- what is held moves on by calls unless it is fixed
pub moves_held : (held : Option State) (fixed otherwise : Bool) → held ≢ None → moves_or held fixed otherwise ≡ not fixed
moves_held None fixed otherwise some = absurd (some refl)
moves_held (Some state) fixed otherwise some = refl
