-- A child in a new namespace.
use Rattle.std.proofs.Common.{◌≡◌, inl, inr, ℕ, ◌-◌, ◌<◌, ◌≤◌, true, false, nat_le, nat_lt, List, [], ◌∷◌, length, map, find, Option, Some, None, is_none, if◌then◌else◌, refl, sym, ap, ◌∙◌, arith, option_map, option_and_then, unwrap_or}
use Rattle.std.specs.Option.{option_map_or}
use Rattle.std.specs.List.{AllByRecursion}
use Rattle.std.proofs.lemmas.List.{length-map}
use Rattle.id_slab.specs.Ids.{AreBelow}
use Rattle.pid_types.specs.declared.plain.Space.{Space}
use Rattle.pid_types.specs.declared.plain.Row.{Row}
use Rattle.pid_types.specs.declared.reply.Refusal.TheVariants.{NoNumber, PidsLimit}
use Rattle.pid_types.specs.Bounds.{deepest_space}
use Rattle.pid_types.specs.Settings.{HasGoodPidMax}
use Rattle.pid_types.specs.Chains.{climb}
use Rattle.pid_types.specs.Membership.{IsIn}
use Rattle.pid_types.specs.State.{State}
use Rattle.pid_types.specs.Names.{path_up, level, parent_space, taken}
use Rattle.pid_types.specs.Controls.{passed_limit, count}
use Rattle.pid_types.specs.Draw.{draw, cyclic_draw, least_free}
use Rattle.pid_types.specs.Fork.{drawn, no_room, is_gone, with_space}
use Rattle.pid_types.specs.Sound.{IsCoherent, IsBelow}
use Rattle.model_laws.proofs.Lists.{find-Some}
use Rattle.model_laws.proofs.Forests.{at-push_new}
use Rattle.model_laws.proofs.Chains.{climb_short}
use Rattle.model_laws.proofs.ForkKept as kept
use Rattle.pid_numbers.specs.Numbering.{Namespace, namespace_at, id_at, path_at, draw_in}
use Rattle.task_table.specs.Store.{Store}
use Rattle.task_table.specs.View.{name_at, space_of, state_of}
use Rattle.task_table.specs.Lawful.{IsLawful}
use Rattle.task_table.specs.Whole.{IsWhole}
use Rattle.task_table.proofs.Keys.{id_for, path-is, path-there, space_at-key, number-is_key}
use Rattle.task_table.proofs.InUse.{named-alone, used-in}
use Rattle.fork_calls.proofs.Draws.{IsPlanned, find-draws, map-draws}

-- the first number of a new namespace
pub first_draw : (pid_max : ℕ) → HasGoodPidMax pid_max → cyclic_draw pid_max 0 [] ≡ Some 1
unfolding cyclic_draw least_free
first_draw pid_max good = let some = good.0 in let lt : nat_lt 1 pid_max ≡ true = grind (arith, some) in ap (λ b. if b then Some 1 else (if b then Some 1 else None)) lt

module _ (s : Store) (l : IsLawful s) (w : IsWhole s) (stamp : ℕ) (below : IsBelow stamp (state_of s)) (own p : ℕ) (id : id_at s.numbering own ≡ Some p)
    (stands : is_gone (state_of s) p ≡ false) (shallow : nat_le 32 (level (state_of s).spaces p) ≡ false) where
  abbrev planned : State
  planned = with_space (state_of s) p stamp

  -- the namespace around it is there, and stands
  pub outer : option_map_or (λ t. t.fallen) (namespace_at s.numbering own) true ≡ false
  outer = go (namespace_at s.numbering own) refl id (sym (ap (λ o. option_map_or (λ (t : Space). t.fallen) o true) (space_at-key s.numbering l.numbering own p id)) ∙ stands)
    where
      go : (o : Option Namespace) → namespace_at s.numbering own ≡ o → option_map (λ t. t.id) o ≡ Some p → option_map_or (λ t. t.fallen) (namespace_at s.numbering own) false ≡ false → option_map_or (λ t. t.fallen) o true ≡ false
      go None is e f = absurd (cc)
      go (Some t) is e f = sym (ap (λ o. option_map_or (λ t. t.fallen) o false) is) ∙ f

  -- it is shallow
  short : length (path_up (state_of s).spaces p) ≤ 32
  unfolding level
  short = le (length (path_up (state_of s).spaces p)) shallow
    where
      le : (n : ℕ) → nat_le 32 (n - 1) ≡ false → n ≤ 32
      le n h = grind (arith, h)

  pub path-short : length (path_at s.numbering own) ≤ deepest_space
  path-short =
      let same : length (path_up (state_of s).spaces p) ≡ length (path_at s.numbering own) = ap length (path-is s.numbering l.numbering own p 0 id (l.numbering.some own p id)) ∙ length-map (path_at s.numbering own) (id_for s.numbering l.numbering 0) in
      let h = short in omega (arith, same, h)

  pub ids-below : AreBelow s.numbering.order stamp
  ids-below = from s.numbering.order (λ x i. below.spaces x i)
    where
      from : (ps : List (ℕ × ℕ)) → ((x : Space) → IsIn x (map (space_of s.numbering) ps) → x.id < stamp) → AllByRecursion (λ q. q.0 < stamp) ps
      from [] h = tt
      from (q ∷ ps) h = (h (space_of s.numbering q) (inl refl), from ps (λ x i. h x (inr i)))

  coherent : IsCoherent (state_of s)
  coherent = w.sound.coherent

  -- what the planned state has
  pub IsPlanned-new : IsPlanned s planned
  IsPlanned-new = record {
    named = named-alone s l w.alone planned refl refl;
    bound = refl;
    numbers = λ k sp i u e at.
        kept.number_old (state_of s) coherent stamp below p stands shallow (name_at s.numbering k) (used-in s l w.alone k u e) i
        ∙ number-is_key s.numbering l.numbering sp i k u at e;
    cursors = λ sp i t e at.
        ap (λ o. unwrap_or (option_map (λ (x : Space). x.cursor) o) 0) (kept.at_old (state_of s) coherent stamp below p stands shallow i (space_of s.numbering (i, sp)) (space_at-key s.numbering l.numbering sp i at))
        ∙ ap (λ o. option_map_or (λ t. t.cursor) o 0) e;
  }

  -- the new namespace's path
  pub path-new : path_up planned.spaces stamp ≡ stamp ∷ path_up (state_of s).spaces p
  unfolding path_up climb
  path-new =
      let at : parent_space planned.spaces stamp ≡ Some p = ap (option_and_then (λ (x : Space). x.parent)) (at-push_new Space (λ t. t.id) (λ t. t.parent) (state_of s).spaces (record { id = stamp; parent = Some p; cursor = 0; fallen = false }) below.spaces) in
      let long : climb (parent_space planned.spaces) 33 p ≡ path_up (state_of s).spaces p = kept.path_old (state_of s) coherent stamp below p stands shallow p (kept.on_parent (state_of s) coherent stamp below p stands shallow) in
      let few : length (climb (parent_space planned.spaces) 33 p) ≤ 32 = (let h = short in let e : length (climb (parent_space planned.spaces) 33 p) ≡ length (path_up (state_of s).spaces p) = ap length long in omega (arith, h, e)) in
      ap (λ o. stamp ∷ option_map_or (climb (parent_space planned.spaces) 32) o []) at ∙ ap (λ xs. stamp ∷ xs) (climb_short (parent_space planned.spaces) 32 p few ∙ long)

  pub path-ids : (j : ℕ) → path_up planned.spaces stamp ≡ stamp ∷ map (id_for s.numbering l.numbering j) (path_at s.numbering own)
  path-ids j = path-new ∙ ap (λ xs. stamp ∷ xs) (path-is s.numbering l.numbering own p j id (l.numbering.some own p id))

  -- it gives 1
  pub first-drawn : draw planned stamp ≡ Some 1
  unfolding draw
  first-drawn =
      ap (λ k. cyclic_draw s.numbering.pid_max k (taken planned stamp)) (kept.new_cursor (state_of s) coherent stamp below p stands shallow)
      ∙ ap (cyclic_draw s.numbering.pid_max 0) (kept.nothing_taken (state_of s) coherent stamp below p stands shallow)
      ∙ first_draw s.numbering.pid_max l.numbering.good

  pub drew-new : map (drawn planned) (path_up planned.spaces stamp) ≡ 1 ∷ map (λ q. unwrap_or (draw_in s.numbering q) 0) (path_at s.numbering own)
  unfolding drawn
  drew-new = ap (map (drawn planned)) (path-ids 0) ∙ (λ i. unwrap_or (first-drawn i) 0 ∷ map-draws s l planned IsPlanned-new 0 own i)

  full-new : find (λ i. is_none (draw planned i)) (path_up planned.spaces stamp) ≡ option_map (id_for s.numbering l.numbering 0) (find (λ q. is_none (draw_in s.numbering q)) (path_at s.numbering own))
  full-new =
      ap (find (λ i. is_none (draw planned i))) (path-ids 0)
      ∙ ap (λ o. if is_none o then Some stamp else find (λ i. is_none (draw planned i)) (map (id_for s.numbering l.numbering 0) (path_at s.numbering own))) first-drawn
      ∙ find-draws s l planned IsPlanned-new 0 own

  same_limit : (home : ℕ) → passed_limit planned home ≡ passed_limit (state_of s) home
  unfolding passed_limit count
  same_limit home = refl

  module _ (caller : Row) where
    pub room-ok_new : find (λ q. is_none (draw_in s.numbering q)) (path_at s.numbering own) ≡ None → no_room planned caller stamp ≡ option_map PidsLimit (passed_limit (state_of s) caller.home)
    unfolding no_room
    room-ok_new none = ap (λ o. option_map_or (λ i. Some (NoNumber i)) o (option_map PidsLimit (passed_limit planned caller.home))) (full-new ∙ ap (option_map (id_for s.numbering l.numbering 0)) none) ∙ ap (option_map PidsLimit) (same_limit caller.home)

    pub room-full_new : (q i : ℕ) → find (λ q. is_none (draw_in s.numbering q)) (path_at s.numbering own) ≡ Some q → id_at s.numbering q ≡ Some i → no_room planned caller stamp ≡ Some (NoNumber i)
    unfolding no_room
    room-full_new q i full at =
        let z : Some (id_for s.numbering l.numbering 0 q) ≡ Some i = sym (path-there s.numbering l.numbering own 0 q (find-Some (λ q. is_none (draw_in s.numbering q)) (path_at s.numbering own) q full).0) ∙ at in
        ap (λ o. option_map_or (λ i. Some (NoNumber i)) o (option_map PidsLimit (passed_limit planned caller.home))) (full-new ∙ ap (option_map (id_for s.numbering l.numbering 0)) full)
        ∙ ap (λ o. option_map NoNumber o) z
