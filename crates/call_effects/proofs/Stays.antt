-- Who stays as he was: each row that a call does not touch.
use Rattle.model_laws.proofs.Words.{◌≡◌, ◌==◌, ◌&&◌, ℕ, true, false, List, map, Option, Some, refl, ap, ◌∙◌, subst, option_map, option_map_or, if◌then◌else◌, cond_both, and_from, and_parts, eq-eqb, eqb-true, false_from_ne_true, Call, Row, Name, Zombie, Exited, IsIn, State, Outcome, sweep, with_row, on_row, root_number, is_live, is_parent, same_name, row_at, live_row, row_after_exit, rows_after_exit, new_parent, rehome, without_control, with_control, with_limit, set_children_space, set_mark, IsSound, IsCoherent}
use Rattle.pid_types.specs.Changes.{after_exec, set_executed, set_home, with_home}
use Rattle.model_laws.proofs.Ground.{IsIn-map, row_at-listed, find-only, unique_key, same_name-true}
use Rattle.model_laws.proofs.Ancestry.{root_init_row}
use Rattle.model_laws.proofs.Inserts.{IsIn-insert_old}
use Rattle.model_laws.proofs.Calls.{Comes, still, born, born_first, executed, control_made, control_removed, limit_set, moved, joined, joined_other, marked}
use Rattle.translate.specs.Relations.{relations_of, relations_at}
use Rattle.call_effects.specs.Touched.{is_touching}

-- a row is there with the name and the relations of the other
pub record Stays (rows : List Row) (row : Row) : Type 0 where
  pub now : Row
  pub there : IsIn now rows
  pub name : now.name ≡ row.name
  pub same : relations_of now ≡ relations_of row

-- and is found with them
pub found : (new : State) → IsSound new → (row : Row) → Stays new.rows row → relations_at new.rows (root_number row.name) ≡ Some (relations_of row)
found new sound row s =
    ap (option_map relations_of) (subst (λ a. row_at new.rows (root_number a) ≡ Some s.now) s.name (row_at-listed new.rows sound.coherent.rows_rise s.now s.there))
    ∙ ap Some s.same

-- a row that is there itself
pub itself : (rows : List Row) (row : Row) → IsIn row rows → Stays rows row
itself rows row i = record { now = row; there = i; name = refl; same = refl }

-- a row that is changed in what no relation tells
aside : (name : Name) (change : Row → Row) → ((r : Row) → (change r).name ≡ r.name) → ((r : Row) → relations_of (change r) ≡ relations_of r)
    → (rows : List Row) (row : Row) → IsIn row rows → Stays (map (on_row name change) rows) row
aside name change names same rows row i = record {
  now = on_row name change row;
  there = IsIn-map (on_row name change) row rows i;
  name = cond_both (same_name row.name name) (change row) row (λ r. r.name ≡ row.name) (λ e. names row) (λ e. refl);
  same = cond_both (same_name row.name name) (change row) row (λ r. relations_of r ≡ relations_of row) (λ e. same row) (λ e. refl);
}

-- a row of another number than that of the row that is changed
pub other : (task : Row) (change : Row → Row) (rows : List Row) (row : Row) → IsIn row rows → (root_number row.name ≡ root_number task.name → ⊥)
    → Stays (map (on_row task.name change) rows) row
other task change rows row i differs = record {
  now = row;
  there = subst (λ r. IsIn r (map (on_row task.name change) rows)) (ap (λ b. if b then change row else row) apart) (IsIn-map (on_row task.name change) row rows i);
  name = refl;
  same = refl;
}
  where
    apart : same_name row.name task.name ≡ false
    apart = false_from_ne_true (same_name row.name task.name) (λ e. differs (ap root_number (same_name-true row.name task.name e)))

-- where the call touches nobody, all rows stay
pub all_stay : (state : State) (stamp : ℕ) (call : Call) (o : Outcome) → Comes state stamp call o → is_touching call ≡ false → (row : Row) → IsIn row state.rows
    → Stays o.state.rows row
unfolding sweep with_row with_control without_control with_limit after_exec with_home
all_stay state stamp call o (still _ reply answer) plain row i = itself state.rows row i
all_stay state stamp call o (born n new_space caller _ found stands may) plain row i = itself _ row (IsIn-insert_old _ state.rows row i)
all_stay state stamp call o (born_first n caller found stands shallow here may) plain row i = itself _ row (IsIn-insert_old _ state.rows row i)
all_stay state stamp call o (executed n caller found) plain row i = aside caller.name (set_executed state n) (λ r. refl) (λ r. refl) state.rows row i
all_stay state stamp call o (control_made parent c found shallow) plain row i = itself state.rows row i
all_stay state stamp call o (control_removed id parent c found under idle) plain row i =
    record { now = rehome id parent row; there = IsIn-map (rehome id parent) row state.rows i; name = refl; same = refl }
all_stay state stamp call o (limit_set id parent limit c found under good) plain row i = itself state.rows row i
all_stay state stamp call o (moved n id task c found there) plain row i = aside task.name (set_home state id) (λ r. refl) (λ r. refl) state.rows row i
all_stay state stamp call o (joined_other n target caller row_of t found there live some) plain row i = itself state.rows row i
all_stay state stamp call o (joined n target caller row_of found there live none) plain row i =
    aside caller.name (set_children_space row_of.name.space) (λ r. refl) (λ r. refl) state.rows row i
all_stay state stamp call o (marked n on caller found) plain row i = aside caller.name (set_mark on) (λ r. refl) (λ r. refl) state.rows row i
all_stay state stamp call o _ plain row i = absurd (cc)

-- behind an exit, who is neither the task nor its child
pub bystander : (state : State) (task : Row) (status : ℕ) (row : Row) → IsIn row state.rows → (root_number row.name ≡ root_number task.name → ⊥)
    → is_parent task.name row ≡ false → Stays (rows_after_exit state task status) row
unfolding rows_after_exit
bystander state task status row i differs none = record {
  now = row_after_exit task heir (Exited status) row;
  there = IsIn-map (row_after_exit task heir (Exited status)) row state.rows i;
  name = refl;
  same = λ j. record {
    parent = ap (λ b. option_map_or root_number (if b then heir else row.parent) 0) none j;
    life = ap (λ b. if b then Zombie (Exited status) else row.life) apart j;
    group = root_number row.group;
    session = root_number row.session;
    space = row.name.space;
    group_space = row.group.space;
    session_space = row.session.space;
  };
}
  where
    heir : Option Name
    heir = new_parent state task

    apart : same_name row.name task.name ≡ false
    apart = false_from_ne_true (same_name row.name task.name) (λ e. differs (ap root_number (same_name-true row.name task.name e)))

-- the live task with a number
pub live_row-listed : (state : State) → IsCoherent state → (row : Row) → IsIn row state.rows → is_live row ≡ true → live_row state.rows (root_number row.name) ≡ Some row
live_row-listed state sound row i live =
    find-only (λ r. (root_number r.name == root_number row.name) && is_live r) state.rows row i
    (and_from (root_number row.name == root_number row.name) (is_live row) (eq-eqb (root_number row.name) (root_number row.name) refl) live)
    (λ r j e. unique_key (λ (x : Row). root_number x.name) state.rows sound.rows_rise r row j i
    (eqb-true (root_number r.name) (root_number row.name) (and_parts (root_number r.name == root_number row.name) (is_live r) e).0))

-- the root init is a live caller
pub root_calls : (state : State) → IsSound state → (root : Row) × (live_row state.rows 1 ≡ Some root)
root_calls state sound =
    let r = root_init_row state sound.coherent in
    (r.0, subst (λ m. live_row state.rows m ≡ Some r.0) r.4 (live_row-listed state sound.coherent r.0 r.1 r.2))
