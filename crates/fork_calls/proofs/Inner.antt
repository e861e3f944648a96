-- The state with a child in a new namespace.
use Rattle.std.proofs.Common.{◌≡◌, ◌≢◌, ℕ, ◌+◌, ◌<◌, false, ◌||◌, nat_le, List, [], ◌∷◌, ◌++◌, length, map, drop, slice_get, Option, Some, None, if◌then◌else◌, refl, sym, ap, ◌∙◌, arith, option_map, option_and_then, unwrap_or}
use Rattle.std.specs.Prelude.{slice_index_or}
use Rattle.std.specs.Option.{option_map_or}
use Rattle.std.specs.List.{AllByRecursion}
use Rattle.std.proofs.lemmas.Bool.{eq-eqb}
use Rattle.pid_types.proofs.General.{apart}
use Rattle.pid_types.specs.declared.plain.Life.TheVariants.{Live}
use Rattle.pid_types.specs.declared.reply.Reply.TheVariants.{Forked}
use Rattle.pid_types.specs.Chains.{contains}
use Rattle.pid_types.specs.State.{State}
use Rattle.pid_types.specs.Names.{path_up, level, number_or_zero, root_number}
use Rattle.pid_types.specs.Outcome.{unless_found}
use Rattle.pid_types.specs.Fork.{drawn, child_of, forked, no_room, is_gone, with_space, with_cursors, moved_cursor}
use Rattle.pid_types.specs.Sound.{IsBelow}
use Rattle.pid_numbers.specs.Numbering.{Namespace, namespace_at, id_at, path_at, draw_in, moved, new_namespace, new_identifier}
use Rattle.task_tree.specs.declared.Task.{Task}
use Rattle.task_tree.specs.Tree.{task_at}
use Rattle.task_table.specs.Store.{Store, Begins}
use Rattle.task_table.specs.View.{name_at, row_of, parent_id, space_of, spaces_of, state_of}
use Rattle.task_table.specs.Lawful.{IsLawful}
use Rattle.task_table.specs.Whole.{IsWhole}
use Rattle.task_table.proofs.Keys.{id_for}
use Rattle.fork_calls.specs.Outcomes.{forked_into}
use Rattle.fork_calls.proofs.Draws.{draw-key}
use Rattle.task_table.proofs.Newborn.{KeepsNamespaces}
use Rattle.fork_calls.proofs.Born.{state-born, reply-born}
use Rattle.fork_calls.proofs.Cursors.{contains-ids, space-moved, gives}
use Rattle.fork_calls.proofs.Inside as inside

-- nothing is not something
none_some : {X : Type 0} {x : X} → None ≡ Some x → ⊥
none_some e = cc

map-over : {X Y : Type 0} (f : X → Y) (xs ys : List X) → map f (xs ++ ys) ≡ map f xs ++ map f ys
map-over f [] ys = refl
map-over f (x ∷ xs) ys = ap (λ l. f x ∷ l) (map-over f xs ys)

module _ (s : Store) (l : IsLawful s) (w : IsWhole s) (stamp : ℕ) (below : IsBelow stamp (state_of s)) (own p : ℕ) (id : id_at s.numbering own ≡ Some p)
    (stands : is_gone (state_of s) p ≡ false) (shallow : nat_le 32 (level (state_of s).spaces p) ≡ false)
    (s' : Store) (l' : IsLawful s') (key from : ℕ) (task caller : Task) (at : task_at s.tree from ≡ Some caller) (space : ℕ) (numbers : List ℕ)
    (begun : Begins s s' key (Some from) task (new_identifier space numbers)) (fresh : namespace_at s.numbering space ≡ None)
    (new : namespace_at s'.numbering space ≡ Some (record (new_namespace stamp (space ∷ path_at s.numbering own)) { cursor = 2 }))
    (now : (q : ℕ) → q ≢ space → namespace_at s'.numbering q ≡ option_map (moved (path_at s.numbering own) (drop 1 numbers) q) (namespace_at s.numbering q))
    (order : s'.numbering.order ≡ s.numbering.order ++ (stamp, space) ∷ [])
    (planned : numbers ≡ 1 ∷ map (λ q. unwrap_or (draw_in s.numbering q) 0) (path_at s.numbering own))
    (made : task ≡ record { children_space = stamp; home = caller.home; executed = false; subreaper = false; life = Live })
    (room : no_room (with_space (state_of s) p stamp) (row_of s from caller) stamp ≡ None) where
  abbrev plan : State
  plan = with_space (state_of s) p stamp

  away : (q : ℕ) (n : Namespace) → namespace_at s.numbering q ≡ Some n → q ≢ space
  away q n e same = none_some (sym fresh ∙ ap (namespace_at s.numbering) (sym same) ∙ e)

  after : (q : ℕ) (n : Namespace) → namespace_at s.numbering q ≡ Some n → namespace_at s'.numbering q ≡ Some (moved (path_at s.numbering own) (drop 1 numbers) q n)
  after q n e = now q (away q n e) ∙ ap (option_map (moved (path_at s.numbering own) (drop 1 numbers) q)) e

  keeps : KeepsNamespaces s.numbering s'.numbering
  keeps q n e = (ap (option_map (λ t. t.id)) (after q n e) ∙ sym (ap (option_map (λ t. t.id)) e), ap (λ o. option_map_or (λ t. t.path) o []) (after q n e) ∙ sym (ap (λ o. option_map_or (λ t. t.path) o []) e))

  pub id-after : (q i : ℕ) → id_at s.numbering q ≡ Some i → id_at s'.numbering q ≡ Some i
  id-after q i e = go (namespace_at s.numbering q) refl e
    where
      go : (o : Option Namespace) → namespace_at s.numbering q ≡ o → option_map (λ t. t.id) o ≡ Some i → id_at s'.numbering q ≡ Some i
      go None is e = absurd (none_some e)
      go (Some n) is e = (keeps q n is).0 ∙ ap (option_map (λ t. t.id)) is ∙ e

  id_new : id_at s'.numbering space ≡ Some stamp
  id_new = ap (option_map (λ t. t.id)) new

  drew : numbers ≡ map (drawn plan) (path_up plan.spaces stamp)
  drew = planned ∙ sym (inside.drew-new s l w stamp below own p id stands shallow)

  first : drawn plan stamp ≡ 1
  unfolding drawn
  first = ap (λ o. unwrap_or o 0) (inside.first-drawn s l w stamp below own p id stands shallow)

  -- the namespaces from before
  old_space : (q : ℕ × ℕ) → id_at s.numbering q.1 ≡ Some q.0 → q.0 < stamp → moved_cursor plan (path_up plan.spaces stamp) (space_of s.numbering q) ≡ space_of s'.numbering q
  unfolding drawn
  old_space q e less = go (namespace_at s.numbering q.1) refl e
    where
      go : (o : Option Namespace) → namespace_at s.numbering q.1 ≡ o → option_map (λ t. t.id) o ≡ Some q.0 → moved_cursor plan (path_up plan.spaces stamp) (space_of s.numbering q) ≡ space_of s'.numbering q
      go None is f = absurd (none_some f)
      go (Some n) is f =
          space-moved s.numbering s'.numbering l.numbering keeps plan (path_at s.numbering own) (path_up plan.spaces stamp) (gives s.numbering) q e
          (now q.1 (away q.1 n is) ∙ ap (λ ns. option_map (moved (path_at s.numbering own) (drop 1 ns) q.1) (namespace_at s.numbering q.1)) planned)
          (ap (λ ids. contains ids q.0) (inside.path-ids s l w stamp below own p id stands shallow q.0)
          ∙ ap (λ b. b || contains (map (id_for s.numbering l.numbering q.0) (path_at s.numbering own)) q.0) (apart stamp q.0 (λ z. omega (arith, z, less)))
          ∙ contains-ids s.numbering l.numbering q.0 q.1 e (path_at s.numbering own))
          (λ on. ap (λ o. unwrap_or o 0) (draw-key s l plan (inside.IsPlanned-new s l w stamp below own p id stands shallow) q.1 q.0 e))

  -- and the new one
  new_space : moved_cursor plan (path_up plan.spaces stamp) (record { id = stamp; parent = Some p; cursor = 0; fallen = false }) ≡ space_of s'.numbering (stamp, space)
  new_space = λ i. record { id = stamp; parent = parent i; cursor = cursor i; fallen = fallen i }
    where
      up : (path : List ℕ) → path_at s.numbering own ≡ path → 0 < length path → option_and_then (id_at s'.numbering) (slice_get (space ∷ path) 1) ≡ Some p
      up [] e some = absurd (omega (arith, some))
      up (q ∷ qs) e some =
          let some' : 0 < length (path_at s.numbering own) = rw e some in
          let same : q ≡ own = sym (ap (λ l. slice_index_or l 0 0) e) ∙ l.numbering.own own some' in
          ap (id_at s'.numbering) same ∙ id-after own p id

      parent : Some p ≡ parent_id s'.numbering space
      parent = sym (ap (λ path. option_and_then (id_at s'.numbering) (slice_get path 1)) (ap (λ o. option_map_or (λ t. t.path) o []) new) ∙ up (path_at s.numbering own) refl (l.numbering.some own p id))

      cursor : (if contains (path_up plan.spaces stamp) stamp then drawn plan stamp + 1 else 0) ≡ option_map_or (λ t. t.cursor) (namespace_at s'.numbering space) 0
      cursor =
          ap (λ ids. if contains ids stamp then drawn plan stamp + 1 else 0) (inside.path-new s l w stamp below own p id stands shallow)
          ∙ ap (λ b. if b || contains (path_up (state_of s).spaces p) stamp then drawn plan stamp + 1 else 0) (eq-eqb stamp stamp refl)
          ∙ ap (λ n. n + 1) first ∙ sym (ap (λ o. option_map_or (λ t. t.cursor) o 0) new)

      fallen : false ≡ option_map_or (λ t. t.fallen) (namespace_at s'.numbering space) false
      fallen = sym (ap (λ o. option_map_or (λ t. t.fallen) o false) new)

  cursors : with_cursors plan (path_up plan.spaces stamp) ≡ spaces_of s'.numbering
  unfolding with_cursors
  cursors =
      map-over (moved_cursor plan (path_up plan.spaces stamp)) (spaces_of s.numbering) (record { id = stamp; parent = Some p; cursor = 0; fallen = false } ∷ [])
      ∙ (λ i. each_space s.numbering.order l.numbering.each (inside.ids-below s l w stamp below own p id stands shallow) i ++ (new_space i ∷ []))
      ∙ sym (ap (map (space_of s'.numbering)) order ∙ map-over (space_of s'.numbering) s.numbering.order ((stamp, space) ∷ []))
    where
      each_space : (ps : List (ℕ × ℕ)) → AllByRecursion (λ q. id_at s.numbering q.1 ≡ Some q.0) ps → AllByRecursion (λ q. q.0 < stamp) ps
          → map (moved_cursor plan (path_up plan.spaces stamp)) (map (space_of s.numbering) ps) ≡ map (space_of s'.numbering) ps
      each_space [] all less = refl
      each_space (q ∷ ps) all less = λ i. old_space q all.0 less.0 i ∷ each_space ps all.1 less.1 i

  pub inner-state : state_of s' ≡ (forked_into (state_of s) plan (row_of s from caller) stamp).state
  inner-state = sym (ap (λ o. (unless_found (state_of s) o (λ r. r) (forked plan (row_of s from caller) stamp)).state) room
      ∙ state-born s s' l l' w.parents key from task space numbers begun keeps caller at stamp id_new plan drew made w.alone refl refl refl refl refl cursors)

  pub inner-reply : (i : ℕ) → i ≡ (row_of s from caller).name.space
      → Forked (number_or_zero (spaces_of s'.numbering) (name_at s'.numbering key) i) (root_number (name_at s'.numbering key)) ≡ (forked_into (state_of s) plan (row_of s from caller) stamp).reply
  inner-reply i same =
      reply-born s s' l l' w.parents key from task space numbers begun keeps caller at stamp id_new plan drew made cursors i
      ∙ ap (λ j. Forked (number_or_zero plan.spaces (child_of plan (row_of s from caller) stamp).name j) (root_number (child_of plan (row_of s from caller) stamp).name)) same
      ∙ sym (ap (λ o. (unless_found (state_of s) o (λ r. r) (forked plan (row_of s from caller) stamp)).reply) room)
