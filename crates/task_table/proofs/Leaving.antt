-- A first thread that leaves, and the end of a process whose first thread has left.
use Rattle.std.proofs.Common.{◌≡◌, ◌≢◌, ◌⊎◌, inl, inr, ℕ, ◌+◌, ◌-◌, ◌<◌, ◌==◌, ◌&&◌, not, Bool, true, false, length, is_some, Option, None, Some, option_map, option_and_then, if◌then◌else◌, refl, sym, ap, ◌∙◌, arith}
use Rattle.std.specs.Prelude.{slice_set, slice_index_or}
use Rattle.std.proofs.lemmas.List.{get_or-set_same, get_or-set_other, set-get_or}
use Rattle.std.proofs.lemmas.Bool.{cases_eq, eq-eqb}
use Rattle.pid_types.proofs.General.{apart}
use Rattle.pid_numbers.specs.Numbering.{Numbering}
use Rattle.pid_types.specs.declared.plain.Life.TheVariants.{Live, Zombie}
use Rattle.pid_types.specs.declared.plain.Ended.TheVariants.{Killed}
use Rattle.process_threads.specs.Threads.{ThreadsByKey, left_at}
use Rattle.task_tree.specs.declared.Task.{Task}
use Rattle.task_tree.specs.Tree.{TreeOfTasks, task_at, lives}
use Rattle.pids_charge.specs.Charges.{Charges, Home, home_at, live_at, zombies_at, all_tasks, stands, kept, ChangesHome}
use Rattle.task_table.specs.Store.{Store, IsStore, IsThreaded, ReturnsCharge, one_if, lives_in, waits_in, with_live, after_return}
use Rattle.task_table.proofs.Less.{AreRanks}
use Rattle.task_table.proofs.Changes as changes
use Rattle.task_table.proofs.Groups.{one_of, none_of}
use Rattle.task_table.proofs.HomeCounts as homes
use Rattle.task_table.proofs.Marks as marks

-- one home changed as where a live task is charged as one that has ended, and as where one came and where a zombie went
abbrev pub Demotes : Charges → Charges → ℕ → Type 0
Demotes old new c = ChangesHome old new c (option_map (λ (h : Home). record h { live = h.live - 1; zombies = h.zombies + 1 }) (home_at old c))

abbrev pub Adds : Charges → Charges → ℕ → Type 0
Adds old new c = ChangesHome old new c (option_map (λ (h : Home). record h { live = h.live + 1 }) (home_at old c))

abbrev pub Drops : Charges → Charges → ℕ → Type 0
Drops old new c = ChangesHome old new c (option_and_then (λ (h : Home). kept (record h { zombies = h.zombies - 1 })) (home_at old c))

-- how a live task counts, and one that has ended
live-in : (t : Task) → lives t ≡ true → (c : ℕ) → (one_if (lives_in c (Some t)) ≡ one_if (t.home == c)) × (one_if (waits_in c (Some t)) ≡ 0)
live-in t live c =
    (ap (λ b. one_if ((t.home == c) && b)) live ∙ one_of (t.home == c), ap (λ b. one_if ((t.home == c) && not b)) live ∙ none_of (t.home == c))

ended-in : (t : Task) → lives t ≡ false → (c : ℕ) → (one_if (lives_in c (Some t)) ≡ 0) × (one_if (waits_in c (Some t)) ≡ one_if (t.home == c))
ended-in t ended c =
    (ap (λ b. one_if ((t.home == c) && b)) ended ∙ none_of (t.home == c), ap (λ b. one_if ((t.home == c) && not b)) ended ∙ one_of (t.home == c))

-- a live task is charged as one that has ended
demoted : (old new : Charges) (t : Task) → Demotes old new t.home → lives t ≡ true
    → 0 < live_at old t.home → (c : ℕ) → (live_at new c + one_if (t.home == c) ≡ live_at old c) × (zombies_at new c ≡ zombies_at old c + one_if (t.home == c))
demoted old new t change live some c =
    let dead : Task = record t { life = Zombie Killed } in
    let a = homes.live-died old new t dead change live refl refl some c in
    let b = homes.zombies-died old new t dead change live refl refl some c in
    let before = live-in t live c in
    let after = ended-in dead refl c in
    let p = before.0 in
    let q = before.1 in
    let r = after.0 in
    let s = after.1 in
    (omega (arith, a, p, r), omega (arith, b, q, s))

-- the threads beside first ones are the same
pub threads-kept : (b : Numbering) (old new : ThreadsByKey) → IsThreaded b old → new.threads ≡ old.threads → IsThreaded b new
threads-kept b old new w same = record { held = λ i. w.held i ∙ sym (ap (λ l. is_some (slice_index_or l i None)) same) }

-- the first thread of a live process left, and all parts agree
pub left : (s : Store) (charges : Charges) (threads : ThreadsByKey) → IsStore s → (key : ℕ) (t : Task) → task_at s.tree key ≡ Some t → lives t ≡ true
    → left_at s.threads key ≡ false → key < length s.threads.left → threads.left ≡ slice_set s.threads.left key true → threads.threads ≡ s.threads.threads
    → Demotes s.charges charges t.home → all_tasks charges ≡ all_tasks s.charges
    → IsStore (record s { charges = charges; threads = threads })
left s charges threads w key t there live stays room set same charged all =
    changes.remarked s (record s { charges = charges; threads = threads }) w key t t there refl refl same
    (sym (set-get_or s.tree.tasks key None) ∙ ap (slice_set s.tree.tasks key) there)
    (λ p differs. ap (λ l. slice_index_or l p false) set ∙ get_or-set_other s.threads.left key p true false differs) (λ e. live)
    (λ c. let a = (counts c).0 in let b = (live-in t live c).0 in let m = on c in let n = off c in omega (arith, a, b, m, n))
    (λ c. let a = (counts c).1 in let b = (live-in t live c).0 in let m = on c in let n = off c in omega (arith, a, b, m, n))
    all w.ranks
  where
    counts : (c : ℕ) → (live_at charges c + one_if (t.home == c) ≡ live_at s.charges c) × (zombies_at charges c ≡ zombies_at s.charges c + one_if (t.home == c))
    counts = demoted s.charges charges t charged live (changes.live_some s w key t there live stays)

    marked : left_at threads key ≡ true
    marked = ap (λ l. slice_index_or l key false) set ∙ get_or-set_same s.threads.left key true false room

    on : (c : ℕ) → one_if (left_at threads key && lives_in c (Some t)) ≡ one_if (lives_in c (Some t))
    on c = ap (λ m. one_if (m && lives_in c (Some t))) marked

    off : (c : ℕ) → one_if (left_at s.threads key && lives_in c (Some t)) ≡ 0
    off c = ap (λ m. one_if (m && lives_in c (Some t))) stays

-- a process ended whose first thread had left, and all parts agree
pub ended : (s : Store) (tree : TreeOfTasks) (threads : ThreadsByKey) → IsStore s → (key : ℕ) (t dead : Task) → task_at s.tree key ≡ Some t
    → lives t ≡ true → left_at s.threads key ≡ true → lives dead ≡ false → dead.home ≡ t.home → tree.tasks ≡ slice_set s.tree.tasks key (Some dead)
    → left_at threads key ≡ false → ((p : ℕ) → p ≢ key → left_at threads p ≡ left_at s.threads p)
    → threads.threads ≡ s.threads.threads → AreRanks s.numbering tree → IsStore (record s { tree = tree; threads = threads })
ended s tree threads w key t dead there live gone over home set back others same ranks =
    changes.remarked s (record s { tree = tree; threads = threads }) w key t dead there refl refl same set others (marks.not-marked (left_at threads key) back)
    (λ c. let a = (live-in t live c).0 in let b = (ended-in dead over c).0 in let m = was c in let n = is c in omega (arith, a, b, m, n))
    (λ c.
    let a = live-in t live c in
    let x = a.0 in
    let y = a.1 in
    let b = (ended-in dead over c).1 in
    let h = ap (λ h. one_if (h == c)) home in
    let m = was c in
    let n = is c in
    omega (arith, x, y, b, h, m, n))
    refl ranks
  where
    was : (c : ℕ) → one_if (left_at s.threads key && lives_in c (Some t)) ≡ one_if (lives_in c (Some t))
    was c = ap (λ m. one_if (m && lives_in c (Some t))) gone

    is : (c : ℕ) → one_if (left_at threads key && lives_in c (Some dead)) ≡ 0
    is c = ap (λ m. one_if (m && lives_in c (Some dead))) back

-- where a live task came there are as many zombies
zombies-stay : (old mid : Charges) (to : ℕ) → Adds old mid to → stands old to ≡ true
    → (c : ℕ) → zombies_at mid c ≡ zombies_at old c
zombies-stay old mid to came up c =
    let living : Task = record { children_space = 0; home = to; executed = false; subreaper = false; life = Live } in
    let a = (homes.one-came old mid living came refl up c).1 in
    let p = (live-in living refl c).1 in
    omega (arith, a, p)

-- so a process whose first thread has left is still charged as one
pub still-zombie : (s : Store) (mid : Charges) → IsStore s → (key : ℕ) (t : Task) (to : ℕ) → task_at s.tree key ≡ Some t → left_at s.threads key ≡ true
    → Adds s.charges mid to → stands s.charges to ≡ true → 0 < zombies_at mid t.home
still-zombie s mid w key t to there gone came up =
    let was = changes.left_some s w key t there gone in
    let same = zombies-stay s.charges mid to came up t.home in
    omega (arith, was, same)

-- how the charges of a process count whose first thread is there again: one live task more, and then one zombie less
pub counts-returned : (old mid new : Charges) (from to : ℕ) → Adds old mid to
    → Drops mid new from → stands old to ≡ true → 0 < zombies_at mid from
    → (c : ℕ) → (live_at new c ≡ live_at old c + one_if (to == c)) × (zombies_at new c + one_if (from == c) ≡ zombies_at old c)
counts-returned old mid new from to came went up some c =
    let living : Task = record { children_space = 0; home = to; executed = false; subreaper = false; life = Live } in
    let dead : Task = record living { home = from; life = Zombie Killed } in
    let a = homes.one-came old mid living came refl up c in
    let b = homes.zombie-left mid new dead went refl some c in
    let p = live-in living refl c in
    let q = ended-in dead refl c in
    let a0 = a.0 in
    let a1 = a.1 in
    let b0 = b.0 in
    let b1 = b.1 in
    let p0 = p.0 in
    let p1 = p.1 in
    let q0 = q.0 in
    let q1 = q.1 in
    (omega (arith, a0, b0, p0, q0), omega (arith, a1, b1, p1, q1))

-- and what is at each key
pub homes-returned : (old mid new : Charges) (from to : ℕ) → Adds old mid to
    → Drops mid new from → ReturnsCharge old new from to
homes-returned old mid new from to came went = record { controls = went.controls ∙ came.controls; homes = λ k. last k (cases_eq k from) }
  where
    live : (k : ℕ) (b : Bool) → (k == to) ≡ b → (o : Option Home)
        → option_map (λ (h : Home). record h { live = h.live + one_if b }) o ≡ option_map (with_live to k) o
    live k b is None = refl
    live k b is (Some h) = ap (λ t. Some (record h { live = h.live + one_if t })) (sym is)

    same : (o : Option Home) → o ≡ option_map (λ (h : Home). record h { live = h.live + 0 }) o
    same None = refl
    same (Some h) = ap (λ n. Some (record h { live = n })) (omega arith)

    first : (k : ℕ) → (k ≡ to) ⊎ (k ≢ to) → home_at mid k ≡ option_map (with_live to k) (home_at old k)
    first k (inl e) =
        ap (home_at mid) e ∙ came.here ∙ ap (λ j. option_map (λ (h : Home). record h { live = h.live + 1 }) (home_at old j)) (sym e)
        ∙ live k true (eq-eqb k to e) (home_at old k)
    first k (inr differs) = came.others k differs ∙ same (home_at old k) ∙ live k false (apart k to differs) (home_at old k)

    gone : (k : ℕ) (b : Bool) → (k == from) ≡ b → (o : Option Home)
        → option_and_then (λ (h : Home). if b then kept (record h { zombies = h.zombies - 1 }) else Some h) (option_map (with_live to k) o)
        ≡ option_and_then (after_return from to k) o
    gone k b is None = refl
    gone k b is (Some h) = ap (λ t. if t then kept (record (with_live to k h) { zombies = h.zombies - 1 }) else Some (with_live to k h)) (sym is)

    all : (o : Option Home) → o ≡ option_and_then (λ (h : Home). Some h) o
    all None = refl
    all (Some h) = refl

    last : (k : ℕ) → (k ≡ from) ⊎ (k ≢ from) → home_at new k ≡ option_and_then (after_return from to k) (home_at old k)
    last k (inl e) =
        ap (home_at new) e ∙ went.here ∙ ap (λ j. option_and_then (λ (h : Home). kept (record h { zombies = h.zombies - 1 })) (home_at mid j)) (sym e)
        ∙ ap (option_and_then (λ (h : Home). kept (record h { zombies = h.zombies - 1 }))) (first k (cases_eq k to))
        ∙ gone k true (eq-eqb k from e) (home_at old k)
    last k (inr differs) =
        went.others k differs ∙ first k (cases_eq k to) ∙ all (option_map (with_live to k) (home_at old k))
        ∙ gone k false (apart k from differs) (home_at old k)

-- the first thread of a process is there again, and all parts agree
pub returned : (s : Store) (tree : TreeOfTasks) (charges : Charges) (threads : ThreadsByKey) → IsStore s → (key : ℕ) (t : Task) (to : ℕ)
    → task_at s.tree key ≡ Some t → lives t ≡ true → left_at s.threads key ≡ true → tree.tasks ≡ slice_set s.tree.tasks key (Some (record t { home = to }))
    → left_at threads key ≡ false → ((p : ℕ) → p ≢ key → left_at threads p ≡ left_at s.threads p) → threads.threads ≡ s.threads.threads
    → ((c : ℕ) → (live_at charges c ≡ live_at s.charges c + one_if (to == c)) × (zombies_at charges c + one_if (t.home == c) ≡ zombies_at s.charges c))
    → all_tasks charges ≡ all_tasks s.charges → AreRanks s.numbering tree → IsStore (record s { tree = tree; charges = charges; threads = threads })
returned s tree charges threads w key t to there live gone set back others same counts all ranks =
    changes.remarked s (record s { tree = tree; charges = charges; threads = threads }) w key t there_again there refl refl same set others
    (marks.not-marked (left_at threads key) back)
    (λ c.
    let a = (counts c).0 in
    let x = (live-in t live c).0 in
    let y = (live-in there_again live c).0 in
    let m = was c in
    let n = is c in
    omega (arith, a, x, y, m, n))
    (λ c.
    let a = (counts c).1 in
    let x = live-in t live c in
    let x0 = x.0 in
    let x1 = x.1 in
    let y = (live-in there_again live c).1 in
    let m = was c in
    let n = is c in
    omega (arith, a, x0, x1, y, m, n))
    all ranks
  where
    there_again : Task
    there_again = record t { home = to }

    was : (c : ℕ) → one_if (left_at s.threads key && lives_in c (Some t)) ≡ one_if (lives_in c (Some t))
    was c = ap (λ m. one_if (m && lives_in c (Some t))) gone

    is : (c : ℕ) → one_if (left_at threads key && lives_in c (Some there_again)) ≡ 0
    is c = ap (λ m. one_if (m && lives_in c (Some there_again))) back
