-- What a fork and a new thread draw, and the states that they make.
use Rattle.std.proofs.Common.{◌≡◌, ℕ, ◌+◌, ◌<◌, Bool, true, false, List, [], ◌∷◌, ◌++◌, length, map, take, drop, get_or, Some, None, refl, sym, ap, ◌∙◌, inl, inr, drop-cons}
use Rattle.std.specs.Prelude.{find, is_none, unwrap_or, ◌==◌, if◌then◌else◌}
use Rattle.std.proofs.Math.Path.{fun_ext}
use Rattle.std.proofs.lemmas.Bool.{cases_Bool, eqb-true}
use Rattle.std.proofs.lemmas.List.{take-append-drop, take_more, map-append}
use Rattle.std.proofs.lemmas.List.Folds.{find-append}
use Rattle.pid_types.specs.declared.plain.Row.{Row}
use Rattle.pid_types.specs.declared.plain.Thread.{Thread}
use Rattle.pid_types.specs.declared.plain.Space.{Space}
use Rattle.pid_types.specs.declared.reply.Reply.TheVariants.{Forked}
use Rattle.pid_types.specs.declared.reply.Refusal.TheVariants.{NoNumber, PidsLimit}
use Rattle.pid_types.specs.Chains.{contains}
use Rattle.pid_types.specs.State.{State}
use Rattle.pid_types.specs.Names.{path_up, beside, number_or_zero, root_number}
use Rattle.pid_types.specs.Draw.{draw}
use Rattle.pid_types.specs.Controls.{passed_limit}
use Rattle.pid_types.specs.Outcome.{changed}
use Rattle.pid_types.specs.Fork.{drawn, with_cursors, insert_row, child_of, no_room, forked}
use Rattle.pid_types.specs.Clone.{insert_thread, thread_of, threaded}
use Rattle.plain_table.specs.Moved.{moved_by}

-- where nothing before it passes, what passes is found
pub find-here : (p : ℕ → Bool) (xs : List ℕ) (i : ℕ) → i < length xs → find p (take i xs) ≡ None → p (get_or xs i 0) ≡ true → find p xs ≡ Some (get_or xs i 0)
find-here p xs i below before passes =
    ap (find p) (sym (take-append-drop i xs)) ∙ find-append p (take i xs) (drop i xs) ∙ rw (before, drop-cons xs i 0, passes) refl

-- nothing is found among one more that does not pass
pub find-further : (p : ℕ → Bool) (xs : List ℕ) (i : ℕ) → i < length xs → find p (take i xs) ≡ None → p (get_or xs i 0) ≡ false → find p (take (i + 1) xs) ≡ None
find-further p xs i below before fails = rw (take_more xs i 0 below, find-append, before, fails) refl

-- one more value is pushed
pub map-further : (f : ℕ → ℕ) (xs : List ℕ) (i : ℕ) (ys : List ℕ) (y : ℕ) → i < length xs → ys ≡ map f (take i xs) → y ≡ f (get_or xs i 0) → ys ++ y ∷ [] ≡ map f (take (i + 1) xs)
map-further f xs i ys y below before is = rw (before, is, take_more xs i 0 below, map-append) refl

-- the number that a namespace gives is the one drawn
pub drawn-Some : (state : State) (s n : ℕ) → draw state s ≡ Some n → n ≡ drawn state s
unfolding drawn
drawn-Some state s n h = rw h refl

-- a namespace without a number
pub no_room-full : (state : State) (caller : Row) (t s : ℕ) → find (λ s. is_none (draw state s)) (path_up state.spaces t) ≡ Some s
    → no_room state caller t ≡ Some (NoNumber s)
unfolding no_room
no_room-full state caller t s full = rw full refl

-- a control group at its limit
pub no_room-limited : (state : State) (caller : Row) (t c : ℕ) → find (λ s. is_none (draw state s)) (path_up state.spaces t) ≡ None → passed_limit state caller.home ≡ Some c
    → no_room state caller t ≡ Some (PidsLimit c)
unfolding no_room
no_room-limited state caller t c given limited = rw (given, limited) refl

-- there is room
pub no_room-None : (state : State) (caller : Row) (t : ℕ) → find (λ s. is_none (draw state s)) (path_up state.spaces t) ≡ None → passed_limit state caller.home ≡ None
    → no_room state caller t ≡ None
unfolding no_room
no_room-None state caller t given limited = rw (given, limited) refl

-- what stands beside an id of the path is its value
beside-values : (d : ℕ → ℕ) (path : List ℕ) (s k : ℕ) → unwrap_or (beside s path (map d path)) k ≡ (if contains path s then d s else k)
beside-values d [] s k = refl
beside-values d (t ∷ path) s k = elim (cases_Bool (t == s)) [
  | inl e ↦ rw e (ap d (eqb-true t s e))
  | inr e ↦ rw e (beside-values d path s k)
]

-- the cursors beside the path are those behind the numbers drawn
with_cursors-moved : (state : State) (path : List ℕ) → with_cursors state path ≡ map (moved_by path (map (λ s. drawn state s + 1) path)) state.spaces
unfolding with_cursors
with_cursors-moved state path = ap (λ f. map f state.spaces) (fun_ext (λ s. let same : (if contains path s.id then drawn state s.id + 1 else s.cursor) ≡ unwrap_or (beside s.id path (map (λ s. drawn state s + 1) path)) s.cursor = sym (beside-values (λ s. drawn state s + 1) path s.id s.cursor) in let build : ℕ → Space = λ n. record s { cursor = n } in ap build same))

-- the child is there, and the cursors have moved
pub forked-planned : (state : State) (caller : Row) (t : ℕ) (path cursors : List ℕ) (child : Row) (inner root : ℕ)
    → path ≡ path_up state.spaces t → cursors ≡ map (λ s. drawn state s + 1) path → child ≡ child_of state caller t
    → inner ≡ number_or_zero state.spaces child.name caller.name.space → root ≡ root_number child.name
    → forked state caller t ≡ changed (record state { rows = insert_row child state.rows; spaces = map (moved_by path cursors) state.spaces }) (Forked inner root)
forked-planned state caller t path cursors child inner root is_path is_cursors is_child is_inner is_root =
    rw (is_inner, is_root, is_child, is_cursors, is_path, with_cursors-moved) refl

-- the thread is there, and the cursors have moved
pub threaded-planned : (state : State) (caller : Row) (path cursors : List ℕ) (new : Thread) (inner root : ℕ)
    → path ≡ path_up state.spaces caller.name.space → cursors ≡ map (λ s. drawn state s + 1) path → new ≡ thread_of state caller
    → inner ≡ number_or_zero state.spaces new.name caller.name.space → root ≡ root_number new.name
    → threaded state caller ≡ changed (record state { threads = insert_thread new state.threads; spaces = map (moved_by path cursors) state.spaces }) (Forked inner root)
threaded-planned state caller path cursors new inner root is_path is_cursors is_new is_inner is_root =
    rw (is_inner, is_root, is_new, is_cursors, is_path, with_cursors-moved) refl
