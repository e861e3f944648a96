-- What is gathered before a call is all that it may change.
use Rattle.std.proofs.Common.{◌≡◌, ◌≤◌, ℕ, List, [], flat_map, length, map, is_some, true, Option, Some, None, option_map, refl, sym, ap, subst, ◌∙◌, arith}
use Rattle.std.proofs.lemmas.List.{length-map}
use Rattle.pid_types.specs.declared.call.Kind.TheVariants.{Group, Session}
use Rattle.pid_types.specs.declared.plain.Row.{Row}
use Rattle.pid_types.specs.declared.plain.Space.{Space}
use Rattle.pid_types.specs.Membership.{IsIn}
use Rattle.pid_types.specs.Names.{root_number, row_at, space_at}
use Rattle.pid_types.specs.Sound.{IsRising, IsSound}
use Rattle.pid_types.specs.State.{State}
use Rattle.model_laws.proofs.Lists.{IsIn-map}
use Rattle.model_laws.proofs.Trees.{row_at-Some, space_at-Some}
use Rattle.translate.specs.Pages.{AreListedFrom}
use Rattle.translate.specs.Relations.{relations_of, relations_at}
use Rattle.call_effects.specs.declared.spaces.WatchedSpace.{WatchedSpace}
use Rattle.call_effects.specs.declared.tasks.Watched.{Watched}
use Rattle.call_effects.specs.Belonging.{owner_by}
use Rattle.call_effects.specs.Effects.{is_space}
use Rattle.call_effects.specs.Spaces.{inner_path, watched_spaces}
use Rattle.call_effects.specs.Touched.{most_in, most_of, AreWatched, AreWatchedSpaces, KeepsParents, Touches, Watches, Watching}
use Rattle.call_effects.proofs.Lists.{few_of}
use Rattle.call_effects.proofs.Members.{members_may_end}
use Rattle.call_effects.proofs.Standing.{listed_there, spaces_may_end, stands_still}

pub watches : (old new : State) (w : Watching) (numbers own ids : List ℕ) → IsSound old → old.threads ≡ [] → IsSound new → Touches old new numbers → KeepsParents old new
    → AreWatched old numbers w.tasks → AreListedFrom (map (owner_by Group) w.tasks) 0 w.groups → AreListedFrom (map (owner_by Session) w.tasks) 0 w.sessions
    → AreListedFrom (flat_map watched_spaces w.tasks) 0 own → AreListedFrom (flat_map (inner_path old) own) 0 ids → AreWatchedSpaces old ids w.spaces → Watches old new w
watches old new w numbers own ids sound alone sound_new touches keeps watched groups sessions owns listed spaces = record {
  numbers = numbers;
  touches = touches;
  watched = watched;
  groups = members_may_end old new sound.coherent.rows_rise numbers w.tasks watched touches Group w.groups groups;
  sessions = members_may_end old new sound.coherent.rows_rise numbers w.tasks watched touches Session w.sessions sessions;
  ids = ids;
  spaces = spaces_may_end old new sound sound_new keeps numbers w.tasks touches watched own ids owns listed alone;
  standing = stands_still old new sound sound_new keeps numbers w.tasks touches watched own ids owns listed alone;
  watched_spaces = spaces;
}

-- no more tasks are watched than there are
pub few_tasks : (state : State) → IsSound state → (numbers : List ℕ) → IsRising numbers → ((n : ℕ) → IsIn n numbers → is_some (relations_at state.rows n) ≡ true) → length numbers ≤ length state.rows
few_tasks state sound numbers rise there =
    let le = few_of numbers (map (λ (r : Row). root_number r.name) state.rows) rise sound.coherent.rows_rise one in
    let e = length-map state.rows (λ (r : Row). root_number r.name) in
    omega (arith, le, e)
  where
    one : (n : ℕ) → IsIn n numbers → IsIn n (map (λ (r : Row). root_number r.name) state.rows)
    one n i = go (row_at state.rows n) refl (there n i)
      where
        go : (o : Option Row) → row_at state.rows n ≡ o → is_some (option_map relations_of o) ≡ true → IsIn n (map (λ (r : Row). root_number r.name) state.rows)
        go None is some = absurd (cc)
        go (Some row) is some =
            let at = row_at-Some state.rows n row is in
            subst (λ m. IsIn m (map (λ (r : Row). root_number r.name) state.rows)) at.1 (IsIn-map (λ (r : Row). root_number r.name) row state.rows at.0)

-- and no more namespaces
pub few_spaces : (state : State) → IsSound state → (ids : List ℕ) → IsRising ids → ((id : ℕ) → IsIn id ids → is_space state id ≡ true) → length ids ≤ length state.spaces
few_spaces state sound ids rise there =
    let le = few_of ids (map (λ (s : Space). s.id) state.spaces) rise sound.coherent.spaces.rising one in
    let e = length-map state.spaces (λ (s : Space). s.id) in
    omega (arith, le, e)
  where
    one : (id : ℕ) → IsIn id ids → IsIn id (map (λ (s : Space). s.id) state.spaces)
    one id i = go (space_at state.spaces id) refl (there id i)
      where
        go : (o : Option Space) → space_at state.spaces id ≡ o → is_some o ≡ true → IsIn id (map (λ (s : Space). s.id) state.spaces)
        go None is some = absurd (cc)
        go (Some s) is some =
            let at = space_at-Some state.spaces id s is in subst (λ m. IsIn m (map (λ (t : Space). t.id) state.spaces)) at.1 (IsIn-map (λ (t : Space). t.id) s state.spaces at.0)

-- so there are no more effects than on all that there is
pub few : (state : State) (w : Watching) (numbers own ids : List ℕ) → IsSound state → IsRising numbers → ((n : ℕ) → IsIn n numbers → is_some (relations_at state.rows n) ≡ true)
    → AreWatched state numbers w.tasks → length w.groups ≤ length w.tasks → length w.sessions ≤ length w.tasks → AreListedFrom (flat_map watched_spaces w.tasks) 0 own
    → AreListedFrom (flat_map (inner_path state) own) 0 ids → AreWatchedSpaces state ids w.spaces → most_of w ≤ most_in state
few state w numbers own ids sound rise there watched groups sessions owns listed spaces =
    let tasks = few_tasks state sound numbers rise there in
    let around = few_spaces state sound ids listed.rising (listed_there state sound numbers w.tasks watched own ids owns listed) in
    let a : length w.tasks ≡ length numbers = sym (length-map w.tasks (λ (v : Watched). v.number)) ∙ ap length watched.numbered in
    let b : length w.spaces ≡ length ids = sym (length-map w.spaces (λ (v : WatchedSpace). v.id)) ∙ ap length spaces.numbered in
    omega (arith, tasks, around, a, b, groups, sessions)

-- where no task is touched nothing is watched
pub watches_none : (old new : State) → IsSound old → old.threads ≡ [] → IsSound new → Touches old new [] → KeepsParents old new
    → Watches old new (record { tasks = []; groups = []; sessions = []; spaces = [] })
watches_none old new sound alone sound_new touches keeps =
    watches old new (record { tasks = []; groups = []; sessions = []; spaces = [] }) [] [] [] sound alone sound_new touches keeps
    (record { numbered = refl; before = λ w on. absurd on }) nobody nobody nobody nobody (record { numbered = refl; before = λ w on. absurd on })
  where
    nobody : AreListedFrom [] 0 []
    nobody = record { rising = tt; each = λ m. (λ on. absurd on, λ h. absurd h.1) }
