-- The lists of residents go with the tasks and the control groups.
use Rattle.std.proofs.Common.{◌≡◌, ◌≢◌, ◌⊎◌, inl, inr, ◌<◌, ◌≤◌, ◌^◌, ℕ, ◌==◌, ◌||◌, nat_lt, ◌+◌, ◌-◌, Bool, true, false, List, [], length, Result, Ok, Err, Option, Some, None, option_map, option_and_then, is_some, if◌then◌else◌, refl, sym, ap, subst, ◌∙◌, arith}
use Rattle.std.specs.Prelude.{slice_set, slice_index_or, OnOk, OnErr, IfOk}
use Rattle.std.specs.Option.{option_map_or}
use Rattle.std.specs.Result.{result_err}
use Rattle.std.proofs.lemmas.List.{get_or-set_same, get_or-set_other, set-get_or, length-set}
use Rattle.std.proofs.lemmas.Bool.{cases_eq}
use Rattle.member_lists.specs.Owners.{owner_of, HasMoreRoom}
use Rattle.pid_types.specs.Controls.{parent_control}
use Rattle.pid_types.specs.declared.reply.Refusal.{Refusal}
use Rattle.pid_types.specs.declared.reply.Refusal.TheVariants.{ControlBusy, RootControl}
use Rattle.pids_charge.specs.Charges.{Charges, Home, home_at, stands, home_id, is_occupied, kept, handed_on, after_move, remove_refusal, ChangesHome}
use Rattle.task_tree.specs.declared.Task.{Task}
use Rattle.task_tree.specs.Tree.{lives}
use Rattle.task_table.specs.Store.{home_without}
use Rattle.task_table.specs.Residents.{live_home, AreHoused}

-- whether a home stands
abbrev pub is_up : Option Home → Bool
is_up home = option_map_or (λ h. h.stands) home false

-- no control group stands that did not
abbrev pub StandsLess : Charges → Charges → Type 0
StandsLess old new = (c : ℕ) → stands new c ≡ true → stands old c ≡ true

up-map : (f : Home → Home) → ((h : Home) → (f h).stands ≡ true → h.stands ≡ true) → (o : Option Home) → is_up (option_map f o) ≡ true → is_up o ≡ true
up-map f same None e = e
up-map f same (Some h) e = same h e

up-then : (f : Home → Option Home) → ((h : Home) → is_up (f h) ≡ true → h.stands ≡ true) → (o : Option Home) → is_up (option_and_then f o) ≡ true → is_up o ≡ true
up-then f same None e = e
up-then f same (Some h) e = same h e

up-kept : (h : Home) → is_up (kept h) ≡ true → h.stands ≡ true
up-kept h = go (h.stands || nat_lt 0 (h.live + h.zombies))
  where
    go : (b : Bool) → is_up (if b then Some h else None) ≡ true → h.stands ≡ true
    go true e = e
    go false e = absurd (cc)

-- one home changed
less-changed : (old new : Charges) (key : ℕ) (home : Option Home) → ChangesHome old new key home → (is_up home ≡ true → stands old key ≡ true) → StandsLess old new
less-changed old new key home change here c up = go (cases_eq c key)
  where
    go : (c ≡ key) ⊎ (c ≢ key) → stands old c ≡ true
    go (inl same) = subst (λ k. stands old k ≡ true) (sym same) (here (sym (ap is_up change.here) ∙ sym (ap (stands new) same) ∙ up))
    go (inr differs) = sym (ap is_up (change.others c differs)) ∙ up

pub less-mapped : (old new : Charges) (key : ℕ) (f : Home → Home) → ((h : Home) → (f h).stands ≡ true → h.stands ≡ true) → ChangesHome old new key (option_map f (home_at old key)) → StandsLess old new
less-mapped old new key f same change = less-changed old new key (option_map f (home_at old key)) change (up-map f same (home_at old key))

pub less-left : (old new : Charges) (t : Task) → ChangesHome old new t.home (option_and_then (λ (h : Home). kept (home_without t h)) (home_at old t.home)) → StandsLess old new
less-left old new t change =
    less-changed old new t.home (option_and_then (λ (h : Home). kept (home_without t h)) (home_at old t.home)) change
    (up-then (λ (h : Home). kept (home_without t h)) (λ h e. without h (up-kept (home_without t h) e)) (home_at old t.home))
  where
    without : (h : Home) → (home_without t h).stands ≡ true → h.stands ≡ true
    without h = go (lives t)
      where
        go : (b : Bool) → (if b then record h { live = h.live - 1 } else record h { zombies = h.zombies - 1 }).stands ≡ true → h.stands ≡ true
        go true e = e
        go false e = e

pub less-moved : (old new : Charges) (from to : ℕ) → ((k : ℕ) → home_at new k ≡ option_map (after_move from to k) (home_at old k)) → StandsLess old new
less-moved old new from to homes c up = up-map (after_move from to c) (λ h e. e) (home_at old c) (sym (ap is_up (homes c)) ∙ up)

pub less-same : (old new : Charges) → ((k : ℕ) → home_at new k ≡ home_at old k) → StandsLess old new
less-same old new homes c up = sym (ap is_up (homes c)) ∙ up

pub less-handed : (old new : Charges) (from to : ℕ) → ((k : ℕ) → home_at new k ≡ option_and_then (handed_on from to) (home_at old k)) → StandsLess old new
less-handed old new from to homes c up = up-then (handed_on from to) one (home_at old c) (sym (ap is_up (homes c)) ∙ up)
  where
    one : (h : Home) → is_up (handed_on from to h) ≡ true → h.stands ≡ true
    one h = go (h.id == from)
      where
        go : (b : Bool) → is_up (if b then kept (record h { id = to; stands = false }) else Some h) ≡ true → h.stands ≡ true
        go true e = absurd (let z = up-kept (record h { id = to; stands = false }) e in cc)
        go false e = e

-- a removal that was refused changed nothing
pub less-removed : {X : Type 0} (old new : Charges) (c : ℕ) (result : Result X Refusal) → result_err result ≡ remove_refusal old c
    → OnOk result ((parent : ℕ) → parent_control old.controls (home_id old c) ≡ Some parent → (k : ℕ) → home_at new k ≡ option_and_then (handed_on (home_id old c) parent) (home_at old k))
    → OnErr result (new ≡ old) → StandsLess old new
less-removed old new c (Err r) refusal homes same = less-same old new (λ k. ap (λ v. home_at v k) same)
less-removed old new c (Ok x) refusal homes same = go (parent_control old.controls (home_id old c)) refl refusal
  where
    go : (o : Option ℕ) → parent_control old.controls (home_id old c) ≡ o → None ≡ (if is_some o then (if is_occupied old c then Some ControlBusy else None) else Some RootControl) → StandsLess old new
    go None e z = absurd (cc)
    go (Some parent) e z = less-handed old new (home_id old c) parent (homes parent e)

-- the tasks are the same
pub kept-tasks : (tasks : List (Option Task)) (old new : Charges) (r : List (Option ℕ)) → AreHoused tasks old r → StandsLess old new → AreHoused tasks new r
kept-tasks tasks old new r h less = record { same = h.same; within = h.within; controls = λ c up. h.controls c (less c up); few = h.few }

-- another task, or none, is at one key
pub changed : (old new : Charges) (tasks tasks' : List (Option Task)) (r r' : List (Option ℕ)) → AreHoused tasks old r → (key : ℕ) (t : Option Task) → tasks' ≡ slice_set tasks key t → key < length tasks
    → r' ≡ slice_set r key (live_home t) → StandsLess old new → AreHoused tasks' new r'
changed old new tasks tasks' r r' h key t is room lists less = record {
  same = λ k. same k (cases_eq k key);
  within = let a = h.within in let b = length-set tasks key t in let c = length-set r key (live_home t) in let d = ap length is in let e = ap length lists in omega (arith, a, b, c, d, e);
  controls = λ k up. (let a = h.controls k (less k up) in let c = length-set r key (live_home t) in let e = ap length lists in omega (arith, a, c, e));
  few = let a = h.few in let c = length-set r key (live_home t) in let e = ap length lists in omega (arith, a, c, e);
}
  where
    same : (k : ℕ) → (k ≡ key) ⊎ (k ≢ key) → owner_of r' k ≡ live_home (slice_index_or tasks' k None)
    same k (inl e) =
        let a = h.within in
        ap (owner_of r') e ∙ ap (λ l. owner_of l key) lists ∙ get_or-set_same r key (live_home t) None (omega (arith, a, room))
        ∙ sym (ap (λ j. live_home (slice_index_or tasks' j None)) e ∙ ap (λ l. live_home (slice_index_or l key None)) is ∙ ap live_home (get_or-set_same tasks key t None room))
    same k (inr differs) =
        ap (λ l. owner_of l k) lists ∙ get_or-set_other r key k (live_home t) None differs ∙ h.same k
        ∙ sym (ap (λ l. live_home (slice_index_or l k None)) is ∙ ap live_home (get_or-set_other tasks key k t None differs))

-- where the home and the life stay, so does the list
pub stays : (charges : Charges) (tasks : List (Option Task)) (r : List (Option ℕ)) → AreHoused tasks charges r → (key : ℕ) (o : Option ℕ) → live_home (slice_index_or tasks key None) ≡ o → r ≡ slice_set r key o
stays charges tasks r h key o is = sym (ap (slice_set r key) (sym is ∙ sym (h.same key)) ∙ set-get_or r key None)

-- a task with the same home and life is as much in it
pub home_same : (s t : Task) → s.home ≡ t.home → s.life ≡ t.life → live_home (Some s) ≡ live_home (Some t)
home_same s t home life = ap (λ h. if lives s then Some h else None) home ∙ ap (λ l. if lives (record s { life = l }) then Some t.home else None) life

-- a task left the list that it was in, if it was in one
pub left : (charges : Charges) (tasks : List (Option Task)) (r : List (Option ℕ)) → AreHoused tasks charges r → (key : ℕ) (t : Task) → slice_index_or tasks key None ≡ Some t
    → (if lives t then slice_set r key None else r) ≡ slice_set r key None
left charges tasks r h key t there = go (lives t) refl
  where
    go : (b : Bool) → lives t ≡ b → (if b then slice_set r key None else r) ≡ slice_set r key None
    go true e = refl
    go false e = stays charges tasks r h key None (ap live_home there ∙ ap (λ b. if b then Some t.home else None) e)

-- there is more room
pub roomier : (charges : Charges) (tasks tasks' : List (Option Task)) (r r' : List (Option ℕ)) → AreHoused tasks charges r → HasMoreRoom r r' → length tasks' ≤ length r'
    → ((k : ℕ) → slice_index_or tasks' k None ≡ slice_index_or tasks k None) → AreHoused tasks' charges r'
roomier charges tasks tasks' r r' h more within same = record {
  same = λ k. more.same k ∙ h.same k ∙ sym (ap live_home (same k));
  within = within;
  controls = λ c up. (let a = h.controls c up in let b = more.longer in omega (arith, a, b));
  few = more.few h.few;
}

-- a control group came
pub made : {E : Type 0} (old new : Charges) (tasks : List (Option Task)) (r r' : List (Option ℕ)) → AreHoused tasks old r → HasMoreRoom r r' → (result : Result ℕ E)
    → IfOk result (λ key. key < length r') → IfOk result (λ key. (k : ℕ) → k ≢ key → home_at new k ≡ home_at old k) → OnErr result (new ≡ old) → AreHoused tasks new r'
made old new tasks r r' h more (Err e) room others same = kept-tasks tasks old new r' (roomier old tasks tasks r r' h more (let a = h.within in let b = more.longer in omega (arith, a, b)) (λ k. refl)) (less-same old new (λ k. ap (λ v. home_at v k) same))
made old new tasks r r' h more (Ok key) room others same = record {
  same = λ k. more.same k ∙ h.same k;
  within = let a = h.within in let b = more.longer in omega (arith, a, b);
  controls = λ c up. go c up (cases_eq c key);
  few = more.few h.few;
}
  where
    go : (c : ℕ) → stands new c ≡ true → (c ≡ key) ⊎ (c ≢ key) → c < length r'
    go c up (inl e) = omega (arith, e, room)
    go c up (inr differs) = let a = h.controls c (sym (ap is_up (others c differs)) ∙ up) in let b = more.longer in omega (arith, a, b)

-- no task and the root control group
pub begun : (charges : Charges) (tasks : List (Option Task)) (r : List (Option ℕ)) → tasks ≡ [] → ((k : ℕ) → stands charges k ≡ true → k ≡ 0) → ((k : ℕ) → owner_of r k ≡ None) → 0 < length r → length r ≤ 2 ^ 30
    → AreHoused tasks charges r
begun charges tasks r none root lists some few = record {
  same = λ k. lists k ∙ sym (ap (λ l. live_home (slice_index_or l k None)) none);
  within = let a = ap length none in omega (arith, a);
  controls = λ c up. (let e = root c up in omega (arith, e, some));
  few = few;
}
