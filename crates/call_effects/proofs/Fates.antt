-- What is told of the tasks that a call may touch is what became of all.
use Rattle.std.proofs.Common.{◌≡◌, ◌⊎◌, inl, inr, ℕ, Bool, true, false, not, ◌&&◌, ◌==◌, List, [], ◌∷◌, ◌++◌, map, flat_map, Option, Some, None, option_map, if◌then◌else◌, refl, sym, ap, subst, ◌∙◌}
use Rattle.std.proofs.lemmas.Bool.{eq-eqb}
use Rattle.pid_types.specs.declared.call.Kind.{Kind}
use Rattle.pid_types.specs.declared.call.Kind.TheVariants.{Group, Session}
use Rattle.pid_types.specs.declared.plain.Row.{Row}
use Rattle.pid_types.specs.declared.plain.Ended.TheVariants.{Killed}
use Rattle.pid_types.specs.declared.plain.Life.{Life}
use Rattle.pid_types.specs.declared.plain.Life.TheVariants.{Live, Zombie}
use Rattle.pid_types.specs.Chains.{contains}
use Rattle.pid_types.specs.Membership.{IsIn}
use Rattle.pid_types.specs.Names.{is_live, row_at}
use Rattle.pid_types.specs.Sound.{IsRising}
use Rattle.pid_types.specs.State.{State}
use Rattle.pid_types.specs.Wait.{end_of}
use Rattle.model_laws.proofs.Lists.{IsIn-from_contains, IsIn-map, contains-from_IsIn}
use Rattle.model_laws.proofs.Trees.{row_at-Some}
use Rattle.translate.specs.Relations.{relations_of, relations_at, parent_in}
use Rattle.translate.specs.Stat.{still_lives}
use Rattle.translate.specs.declared.relations.Relations.{Relations}
use Rattle.call_effects.specs.declared.effect.Effect.{Effect}
use Rattle.call_effects.specs.declared.effect.Effect.TheVariants.{Ended as HasEnded, Adopted, Gone, SpaceFell, SpaceGone}
use Rattle.call_effects.specs.declared.spaces.WatchedSpace.{WatchedSpace}
use Rattle.call_effects.specs.declared.tasks.Watched.{Watched}
use Rattle.call_effects.specs.Changes.{as_list, changes, changes_in, end_with}
use Rattle.call_effects.specs.Belonging.{gone_in}
use Rattle.call_effects.specs.Effects.{fate, fate_of_members, fate_of_space, gone_as, has_members_as, is_space, takes_tasks, where_lost, where_so, AreEffects, Collects}
use Rattle.call_effects.specs.Spaces.{changes_of_space}
use Rattle.call_effects.specs.Touched.{AreWatched, AreWatchedSpaces, MayEnd, Touches, Watches, Watching}
use Rattle.call_effects.proofs.Rows.{row_of}

-- one effect or none, by a test
as_where : (b : Bool) (e : Effect) → as_list (if b then Some e else None) ≡ where_so b e
as_where true e = refl
as_where false e = refl

as_unless : (b : Bool) (e : Effect) → as_list (if b then None else Some e) ≡ where_so (not b) e ++ []
as_unless true e = refl
as_unless false e = refl

as_not : (b : Bool) (e : Effect) → as_list (if b then None else Some e) ≡ where_so (not b) e
as_not true e = refl
as_not false e = refl

-- a life says whether the row lives, and how it ended
pub lives-is : (l : Life) (row : Row) → row.life ≡ l → still_lives row.life ≡ is_live row
lives-is Live row e = rw e refl
lives-is (Zombie ended) row e = rw e refl

end-is : (l : Life) (row : Row) → row.life ≡ l → end_with row.life ≡ end_of row
end-is Live row e = rw e refl
end-is (Zombie ended) row e = rw e refl

-- what is read off the relations is what became of the task
fate-is : (old new : State) (w : Watched) (row : Row) → row_at old.rows w.number ≡ Some row → w.before ≡ relations_of row → changes_in new w ≡ fate old new w.number
fate-is old new w row at before = go (row_at new.rows w.number) refl
  where
    live : still_lives w.before.life ≡ is_live row
    live = ap (λ (r : Relations). still_lives r.life) before ∙ lives-is row.life row refl

    go : (o : Option Row) → row_at new.rows w.number ≡ o → changes w (option_map relations_of (row_at new.rows w.number)) ≡ fate old new w.number
    go None is = rw (is, at, live) (ap (λ es. es ++ Gone w.number ∷ []) (as_where (is_live row && true) (HasEnded w.number Killed)))
    go (Some now) is =
        let l = lives-is now.life now refl in
        let e = end-is now.life now refl in
        let p : w.before.parent ≡ parent_in row = ap (λ (r : Relations). r.parent) before in
        rw (is, at, live, l, e, p)
        (ap (λ es. es ++ as_list (if parent_in now == parent_in row then None else Some (Adopted w.number (parent_in now)))) (as_where (is_live row && not (is_live now)) _)
        ∙ ap (λ es. where_so (is_live row && not (is_live now)) (HasEnded w.number (end_of now)) ++ es) (as_unless (parent_in now == parent_in row) _))

-- nothing became of a task with the relations of before
nothing : (b : Bool) (e : Effect) → as_list (if b && not b then Some e else None) ≡ []
nothing true e = refl
nothing false e = refl

same_fate : (w : Watched) → changes w (Some w.before) ≡ []
same_fate w = rw (eq-eqb w.before.parent w.before.parent refl) (ap (λ es. es ++ []) (nothing (still_lives w.before.life) _))

-- what is told of numbers is all, where nothing became of any other
collected : (fates : ℕ → List Effect) (numbers : List ℕ) → IsRising numbers → ((n : ℕ) → (IsIn n numbers → ⊥) → fates n ≡ []) → (effects : List Effect)
    → effects ≡ flat_map fates numbers → Collects fates effects
collected fates numbers rise none effects e = record { numbers = numbers; rising = rise; whole = λ n. one n (contains numbers n) refl; is = e }
  where
    one : (n : ℕ) (b : Bool) → contains numbers n ≡ b → IsIn n numbers ⊎ (fates n ≡ [])
    one n true is = inl (IsIn-from_contains numbers n is)
    one n false is = inr (none n (λ on. let z : true ≡ false = sym (contains-from_IsIn numbers n on) ∙ is in absurd (cc)))

-- ---- tasks

module _ (old new : State) (tasks : List Watched) (numbers : List ℕ) (touches : Touches old new numbers) (watched : AreWatched old numbers tasks) where
  all_told : (ts : List Watched) → ((t : Watched) → IsIn t ts → relations_at old.rows t.number ≡ Some t.before)
      → flat_map (changes_in new) ts ≡ flat_map (fate old new) (map (λ (t : Watched). t.number) ts)
  all_told [] before = refl
  all_told (t ∷ ts) before =
      let r = row_of old.rows t.number t.before (before t (inl refl)) in
      λ i. fate-is old new t r.0 r.1 r.2 i ++ all_told ts (λ u on. before u (inr on)) i

  -- nothing became of who is not watched
  others : (n : ℕ) → (IsIn n numbers → ⊥) → fate old new n ≡ []
  others n off = go (row_at old.rows n) refl
    where
      go : (o : Option Row) → row_at old.rows n ≡ o → fate old new n ≡ []
      go None is = rw is refl
      go (Some row) is =
          let at = row_at-Some old.rows n row is in
          let t : Watched = record { number = n; before = relations_of row } in
          let stays = subst (λ m. relations_at new.rows m ≡ Some (relations_of row)) at.1 (touches.rest row at.0 (λ on. off (subst (λ m. IsIn m numbers) at.1 on))) in
          sym (fate-is old new t row is refl) ∙ ap (changes t) stays ∙ same_fate t

  -- so all is told
  pub tasks_told : Collects (fate old new) (flat_map (changes_in new) tasks)
  tasks_told =
      collected (fate old new) numbers touches.rising others (flat_map (changes_in new) tasks)
      (all_told tasks watched.before ∙ ap (flat_map (fate old new)) watched.numbered)

-- ---- process groups, sessions and namespaces

-- what is not so, or stays so, is not lost
not_lost : (so : State → ℕ → Bool) (old new : State) (numbers : List ℕ) → MayEnd so old new numbers → (n : ℕ) → (IsIn n numbers → ⊥) → (e : Effect) → where_lost so old new n e ≡ []
not_lost so old new numbers ends n off e = go (so old n) refl
  where
    go : (b : Bool) → so old n ≡ b → where_lost so old new n e ≡ []
    go false is = rw is refl
    go true is = let stays = ends.rest n is off in rw (is, stays) refl

module _ (kind : Kind) (old new : State) (numbers : List ℕ) (ends : MayEnd (has_members_as kind) old new numbers) where
  gone-is : (ns : List ℕ) → ((n : ℕ) → IsIn n ns → has_members_as kind old n ≡ true) → flat_map (gone_in kind new) ns ≡ flat_map (fate_of_members kind old new) ns
  gone-is [] before = refl
  gone-is (n ∷ ns) before =
      let so = before n (inl refl) in
      λ i. ap (λ b. where_so (b && not (has_members_as kind new n)) (gone_as kind n)) (sym so) i ++ gone-is ns (λ m on. before m (inr on)) i

  pub members_told : Collects (fate_of_members kind old new) (flat_map (gone_in kind new) numbers)
  members_told =
      collected (fate_of_members kind old new) numbers ends.rising (λ n off. not_lost (has_members_as kind) old new numbers ends n off (gone_as kind n)) (flat_map (gone_in kind new) numbers)
      (gone-is numbers ends.before)

module _ (old new : State) (ids : List ℕ) (ends : MayEnd is_space old new ids) (standing : (id : ℕ) → takes_tasks old id ≡ true → (IsIn id ids → ⊥) → takes_tasks new id ≡ true)
    (spaces : List WatchedSpace) (watched : AreWatchedSpaces old ids spaces) where
  -- what is read of a namespace is what became of it
  space-is : (w : WatchedSpace) → takes_tasks old w.id ≡ w.stood → is_space old w.id ≡ true → changes_of_space new w ≡ fate_of_space old new w.id
  space-is w stood there = λ i.
      (as_where (w.stood && not (takes_tasks new w.id)) (SpaceFell w.id) ∙ ap (λ b. where_so (b && not (takes_tasks new w.id)) (SpaceFell w.id)) (sym stood)) i
      ++ (as_not (is_space new w.id) (SpaceGone w.id) ∙ ap (λ b. where_so (b && not (is_space new w.id)) (SpaceGone w.id)) (sym there)) i

  spaces-are : (ws : List WatchedSpace) → ((w : WatchedSpace) → IsIn w ws → (takes_tasks old w.id ≡ w.stood) × (is_space old w.id ≡ true))
      → flat_map (changes_of_space new) ws ≡ flat_map (fate_of_space old new) (map (λ (w : WatchedSpace). w.id) ws)
  spaces-are [] all = refl
  spaces-are (w ∷ ws) all = let h = all w (inl refl) in λ i. space-is w h.0 h.1 i ++ spaces-are ws (λ v on. all v (inr on)) i

  pub spaces_told : Collects (fate_of_space old new) (flat_map (changes_of_space new) spaces)
  spaces_told =
      collected (fate_of_space old new) ids ends.rising nothing_else (flat_map (changes_of_space new) spaces)
      (spaces-are spaces (λ w on. (watched.before w on, ends.before w.id (subst (IsIn w.id) watched.numbered (IsIn-map (λ (v : WatchedSpace). v.id) w spaces on))))
      ∙ ap (flat_map (fate_of_space old new)) watched.numbered)
    where
      nothing_else : (n : ℕ) → (IsIn n ids → ⊥) → fate_of_space old new n ≡ []
      nothing_else n off = fell (takes_tasks old n) refl
        where
          gone : where_lost is_space old new n (SpaceGone n) ≡ []
          gone = not_lost is_space old new ids ends n off (SpaceGone n)

          fell : (b : Bool) → takes_tasks old n ≡ b → fate_of_space old new n ≡ []
          fell false is = ap (λ es. where_lost takes_tasks old new n (SpaceFell n) ++ es) gone ∙ rw is refl
          fell true is = let stays = standing n is off in ap (λ es. where_lost takes_tasks old new n (SpaceFell n) ++ es) gone ∙ rw (is, stays) refl

-- what is told of all that is watched are the effects
pub told : (old new : State) (w : Watching) → Watches old new w → (effects : List Effect)
    → effects ≡ flat_map (changes_in new) w.tasks ++ flat_map (gone_in Group new) w.groups ++ flat_map (gone_in Session new) w.sessions ++ flat_map (changes_of_space new) w.spaces
    → AreEffects old new effects
told old new w watches effects e = record {
  tasks = flat_map (changes_in new) w.tasks;
  groups = flat_map (gone_in Group new) w.groups;
  sessions = flat_map (gone_in Session new) w.sessions;
  spaces = flat_map (changes_of_space new) w.spaces;
  of_tasks = tasks_told old new w.tasks watches.numbers watches.touches watches.watched;
  of_groups = members_told Group old new w.groups watches.groups;
  of_sessions = members_told Session old new w.sessions watches.sessions;
  of_spaces = spaces_told old new watches.ids watches.spaces watches.standing w.spaces watches.watched_spaces;
  is = e;
}
