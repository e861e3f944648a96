-- Every call leaves a sound state, and the root namespace stands.
use Rattle.model_laws.proofs.Words.{◌≡◌, ℕ, suc, ◌+◌, ◌<◌, true, false, List, [], ◌∷◌, length, Some, refl, sym, ap, ◌∙◌, subst, inl, inr, arith, IfSome, option_map_or, Call, Row, Space, Control, HasGoodPidMax, climb, State, root_state, root_init, root_name, IsIn, Name, path_up, number, in_use, control_at, control_path, is_gone, step, makes_id, state_after, IsSound, IsBelow, IsWellNumbered, HasGoodParents, space_at, Outcome, start_session, set_mark, HasGoodChildrenSpace, HasLiveInit, IsEmptied, HasGoodLimit, ThreadCall, AnyCall, of_table, of_threads, any_step, state_after_any}
use Rattle.model_laws.proofs.Ground.{only, space_at-Some, caller_of-Some, is_numbered-true}
use Rattle.model_laws.specs.Script.{EndsSound, AnyEndsSound}
use Rattle.model_laws.proofs.Kept.{IsBelow-next, swept, swept_below, row_leaves, placed_leaves, join_leaves, grouped_leaves, IsOpen-new}
use Rattle.model_laws.proofs.Survivors.{settled}
use Rattle.model_laws.specs.StepLaws.{StaysSound, ThreadCallsKeepSoundness, AnyRunsKeepSoundness}
use Rattle.model_laws.specs.StepLaws.{PlainCallsMakeNoId}
use Rattle.model_laws.proofs.ControlsKept.{make_control_keeps, remove_control_leaves, set_limit_leaves}
use Rattle.model_laws.proofs.EndsKept.{reaped_row, wait_leaves, fall_leaves}
use Rattle.model_laws.proofs.ExitKept.{handed_on_leaves}
use Rattle.model_laws.proofs.ForkKept.{forked_leaves, forked_first_keeps}
use Rattle.model_laws.proofs.ThreadKept.{left_first_leaves, left_other_leaves, exec_leaves, join_other_leaves, move_leaves, thread_leaves}
use Rattle.model_laws.proofs.Calls.{Comes, still, born, born_first, fell, handed_on, waits, reaped, grouped, led, executed, control_made, control_removed, limit_set, moved, joined, joined_other, marked, ComesOfThreads, still_threads, thread_made, fell_last, handed_on_last, left_first, left_other}
use Rattle.model_laws.proofs.Refusals.{step_comes, thread_step_comes}

-- a call that makes nothing with an id leaves a sound state, with ids below each stamp that they were below
pub plain_keeps : (state : State) (stamp : ℕ) (call : Call) (o : Outcome) → Comes state stamp call o → makes_id call ≡ false → IsSound state
    → StaysSound state o.state
plain_keeps state stamp call o (still _ reply answer) plain sound = (sound, λ n below. below)
plain_keeps state stamp call o (waits n which caller found none) plain sound = (sound, λ m below. below)
plain_keeps state stamp call o (born n new_space caller _ found stands may) plain sound =
    swept state _ (forked_leaves state n caller sound.coherent found stands may)
plain_keeps state stamp call o (executed n caller found) plain sound = swept state _ (exec_leaves state n caller sound.coherent found)
plain_keeps state stamp call o (fell n status caller found deep one) plain sound =
    let c = caller_of-Some state n caller found in
    swept state _ (fall_leaves state sound.coherent caller status c.0 (is_numbered-true state.spaces caller.name caller.name.space 1 one) deep)
plain_keeps state stamp call o (handed_on n status caller found none) plain sound =
    let c = caller_of-Some state n caller found in swept state _ (handed_on_leaves state status caller sound.coherent c.0 c.1 none)
plain_keeps state stamp call o (reaped n which caller row found least) plain sound =
    let r = reaped_row state caller row which least in swept state _ (wait_leaves state sound.coherent row r.0 r.1)
plain_keeps state stamp call o (grouped n pid pgid caller target group found aimed first same own there) plain sound =
    swept state _ (grouped_leaves state caller target pid pgid group sound.coherent (caller_of-Some state n caller found).0 aimed same own there)
plain_keeps state stamp call o (led n caller found none) plain sound =
    let i : IsIn caller state.rows = (caller_of-Some state n caller found).0 in
    swept state _ (placed_leaves state sound.coherent caller i start_session (λ r. refl) (IsOpen-new state caller i none))
plain_keeps state stamp call o (control_removed id parent c found under idle) plain sound =
    swept state _ (remove_control_leaves state id parent c sound.coherent found under idle)
plain_keeps state stamp call o (limit_set id parent limit c found under good) plain sound =
    swept state _ (set_limit_leaves state id parent limit c sound.coherent found under good)
plain_keeps state stamp call o (moved n id task c found there) plain sound =
    swept state _ (move_leaves state id task c sound.coherent there)
plain_keeps state stamp call o (joined n target caller row found there live none) plain sound =
    swept state _ (join_leaves state target caller row sound.coherent there)
plain_keeps state stamp call o (joined_other n target caller row t found there live at) plain sound =
    swept state _ (join_other_leaves state n target caller row t sound.coherent found there at)
plain_keeps state stamp call o (marked n on caller found) plain sound =
    swept state _ (row_leaves state caller.name (set_mark on) sound.coherent (λ r. refl) (λ r i e. settled state sound.coherent r i))
plain_keeps state stamp call o _ plain sound = absurd (cc)

-- so does a call about threads
thread_keeps : (state : State) (call : ThreadCall) (o : Outcome) → ComesOfThreads state call o → IsSound state → StaysSound state o.state
thread_keeps state call o (still_threads _ reply answer) sound = (sound, λ n below. below)
thread_keeps state call o (thread_made n caller found here may) sound = swept state _ (thread_leaves state n caller sound.coherent found here may)
thread_keeps state call o (fell_last n status caller found deep one) sound =
    let c = caller_of-Some state n caller found in
    swept state _ (fall_leaves state sound.coherent caller status c.0 (is_numbered-true state.spaces caller.name caller.name.space 1 one) deep)
thread_keeps state call o (handed_on_last n status caller found none) sound =
    let c = caller_of-Some state n caller found in swept state _ (handed_on_leaves state status caller sound.coherent c.0 c.1 none)
thread_keeps state call o (left_first n status caller found none more) sound =
    swept state _ (left_first_leaves state n caller sound.coherent found none more)
thread_keeps state call o (left_other n status caller t found at more) sound =
    swept state _ (left_other_leaves state n caller t sound.coherent found at more)

pub thread_calls_keep : ThreadCallsKeepSoundness
thread_calls_keep state call sound = thread_keeps state call _ (thread_step_comes state call) sound

-- every call leaves a sound state, whose ids are below the next stamp
comes_keeps : (state : State) (stamp : ℕ) (call : Call) (o : Outcome) → Comes state stamp call o → IsSound state → IsBelow stamp state
    → IsSound o.state × IsBelow (stamp + 1) o.state
comes_keeps state stamp call o (still _ reply answer) sound below = (sound, IsBelow-next stamp state below)
comes_keeps state stamp call o (born_first n caller found stands shallow here may) sound below =
    swept_below _ (stamp + 1) (forked_first_keeps state stamp n caller sound.coherent below found stands shallow here may)
comes_keeps state stamp call o (control_made parent c found shallow) sound below =
    swept_below _ (stamp + 1) (make_control_keeps state stamp parent c sound.coherent below found shallow)
comes_keeps state stamp call o (born n new_space caller plain found stands may) sound below =
    let k = plain_keeps state stamp _ _ (born n new_space caller plain found stands may) plain sound in (k.0, k.1 (stamp + 1) (IsBelow-next stamp state below))
comes_keeps state stamp call o m sound below =
    let k = plain_keeps state stamp _ _ m refl sound in (k.0, k.1 (stamp + 1) (IsBelow-next stamp state below))

-- so does a step
pub step_keeps : (state : State) (stamp : ℕ) (call : Call) → IsSound state → IsBelow stamp state
    → IsSound (step state stamp call).state × IsBelow (stamp + 1) (step state stamp call).state
step_keeps state stamp call sound below = comes_keeps state stamp call _ (step_comes state stamp call) sound below

-- a call that makes nothing with an id leaves all ids below its stamp
pub plain_calls_make_no_id : PlainCallsMakeNoId
plain_calls_make_no_id state stamp call plain sound = (plain_keeps state stamp call _ (step_comes state stamp call) plain sound).1 stamp

-- every run of calls does
pub run_keeps : (opening : State) (first : ℕ) (calls : List Call) → IsSound opening → IsBelow first opening
    → IsSound (state_after opening first calls) × IsBelow (first + length calls) (state_after opening first calls)
run_keeps opening first [] sound below = (sound, subst (λ n. IsBelow n opening) (omega arith) below)
run_keeps opening first (call ∷ calls) sound below =
    let k = step_keeps opening first call sound below in
    let r = run_keeps (step opening first call).state (first + 1) calls k.0 k.1 in
    let n : first + 1 + length calls ≡ first + suc (length calls) = omega arith in
    (r.0, subst (λ m. IsBelow m (state_after (step opening first call).state (first + 1) calls)) n r.1)

-- one call of either kind
any_step_keeps : (state : State) (stamp : ℕ) (call : AnyCall) → IsSound state → IsBelow stamp state
    → IsSound (any_step state stamp call).state × IsBelow (stamp + 1) (any_step state stamp call).state
any_step_keeps state stamp (of_table call) sound below = step_keeps state stamp call sound below
any_step_keeps state stamp (of_threads call) sound below =
    let k = thread_calls_keep state call sound in (k.0, k.1 (stamp + 1) (IsBelow-next stamp state below))

-- every run of them leaves a sound state
pub any_run_keeps : AnyRunsKeepSoundness
any_run_keeps opening first [] sound below = (sound, subst (λ n. IsBelow n opening) (omega arith) below)
any_run_keeps opening first (call ∷ calls) sound below =
    let k = any_step_keeps opening first call sound below in
    let r = any_run_keeps (any_step opening first call).state (first + 1) calls k.0 k.1 in
    let n : first + 1 + length calls ≡ first + suc (length calls) = omega arith in
    (r.0, subst (λ m. IsBelow m (state_after_any (any_step opening first call).state (first + 1) calls)) n r.1)

-- ---- the state that a table begins with

-- the names in use are all the root init's
only_name : (pid_max : ℕ) (a : Name) → IsIn a (in_use (root_state pid_max)) → a ≡ root_name
only_name pid_max a i = grind arith

-- the state that a table begins with is sound
pub root_state_sound : (pid_max : ℕ) → HasGoodPidMax pid_max → IsSound (root_state pid_max)
unfolding climb path_up number control_path
root_state_sound pid_max good = record {
  coherent = record {
    distinct = λ a b i j s n x y. only_name pid_max a i ∙ sym (only_name pid_max b j);
    numbered = λ a i. subst (IsWellNumbered spaces pid_max) (sym (only_name pid_max a i)) (record {
      listed = only 0 (λ x. (s : Space) × (space_at spaces x ≡ Some s)) (_, refl);
      one_each = refl;
      in_range = only 1 (λ n. (0 < n) × (n < pid_max)) (omega arith, omega (arith, good.0));
    });
    parents = only root_init (HasGoodParents rows spaces) (record { first = λ none. refl; good = λ parent some. absurd (cc); chain = inl refl });
    children = only root_init (HasGoodChildrenSpace spaces) (inr (inl refl));
    root = only _ (λ (s : Space). s.id ≡ 0 → s.fallen ≡ false) (λ zero. refl);
    standing = only _ (λ (s : Space). s.fallen ≡ false → HasLiveInit rows spaces s.id) (λ up. (root_init, inl refl, refl, refl, refl));
    fallen = only _ (λ (s : Space). s.fallen ≡ true → IsEmptied rows spaces s.id) (λ down. absurd (cc));
    groups = record { together = λ a b i j same. one_session a b i j; leader = λ a b i j same. one_session a b i j };
    rows_rise = (λ m none. elim none [ ], tt);
    spaces = record {
      rising = (λ m none. elim none [ ], tt);
      older = only _ (λ (s : Space). IfSome s.parent (λ p. p < s.id)) tt;
      root = (_, refl, refl);
      chains = only _ (λ (s : Space). IsIn 0 (path_up spaces s.id)) (inl refl);
    };
    controls = record {
      rising = (λ m none. elim none [ ], tt);
      older = only _ (λ (c : Control). IfSome c.parent (λ p. p < c.id)) tt;
      root = (_, refl, refl);
      chains = only _ (λ (c : Control). IsIn 0 (control_path controls c.id)) (inl refl);
    };
    limits = only _ HasGoodLimit (record { root = λ zero. refl; bounded = λ limit some. absurd (cc) });
    homes = only root_init (λ r. (c : Control) × (control_at controls r.home ≡ Some c)) (_, refl);
    threads = λ t none. elim none [ ];
    threads_rise = tt;
    left = λ name none. elim none [ ];
    left_rise = tt;
  };
  named = only _ (λ (s : Space). s.fallen ≡ true → (a : Name) × (n : ℕ) × IsIn a (in_use (root_state pid_max)) × (number spaces a s.id ≡ Some n))
      (λ down. absurd (cc));
}
  where
    rows : List Row
    rows = (root_state pid_max).rows

    spaces : List Space
    spaces = (root_state pid_max).spaces

    controls : List Control
    controls = (root_state pid_max).controls

    one_session : (a b : Row) → IsIn a rows → IsIn b rows → a.session ≡ b.session
    one_session a b i j =
        ap (λ (r : Row). r.session) (only root_init (λ r. r ≡ root_init) refl a i ∙ sym (only root_init (λ r. r ≡ root_init) refl b j))

-- and its ids are below the first stamp
pub root_state_below : (pid_max first : ℕ) → 0 < first → IsBelow first (root_state pid_max)
root_state_below pid_max first l = record {
  spaces = only _ (λ (s : Space). s.id < first) l;
  controls = only _ (λ (c : Control). c.id < first) l;
  children = only root_init (λ r. r.children_space < first) l;
  thread_children = λ t none. elim none [ ];
}

-- a script that ends in a state leaves a sound one
pub ends_sound : (pid_max : ℕ) → HasGoodPidMax pid_max → (calls : List Call) (end : State) → state_after (root_state pid_max) 1 calls ≡ end → EndsSound pid_max calls end
ends_sound pid_max good calls end is = record {
  ends = is;
  sound = subst IsSound is (run_keeps (root_state pid_max) 1 calls (root_state_sound pid_max good) (root_state_below pid_max 1 (omega arith))).0;
}

-- so does one with calls about threads
pub any_ends_sound : (pid_max : ℕ) → HasGoodPidMax pid_max → (calls : List AnyCall) (end : State) → state_after_any (root_state pid_max) 1 calls ≡ end
    → AnyEndsSound pid_max calls end
any_ends_sound pid_max good calls end is = record {
  ends = is;
  sound = subst IsSound is (any_run_keeps (root_state pid_max) 1 calls (root_state_sound pid_max good) (root_state_below pid_max 1 (omega arith))).0;
}

-- ---- the root namespace stands

-- in a sound state the root namespace is there and has not fallen
pub root_never_falls : (state : State) → IsSound state → is_gone state 0 ≡ false
root_never_falls state sound =
    let r = sound.coherent.spaces.root in
    let at = space_at-Some state.spaces 0 r.0 r.1 in
    ap (λ t. option_map_or (λ (s : Space). s.fallen) t true) r.1 ∙ sound.coherent.root r.0 at.0 at.1
