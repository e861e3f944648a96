use Rattle.std.proofs.Common.{◌≡◌, ◌≢◌, ◌+◌, ◌≤◌, None, length, Some, ap, sym, ◌∙◌, arith, refl, Option, option_map, slice_get, ◌-◌, subst, true≢false}
use Rattle.pid_types.specs.declared.plain.Name.{Name}
use Rattle.pid_types.specs.declared.plain.Row.{Row}
use Rattle.table_build.specs.Lines.{IsRowAt, stage}
use Rattle.table_build.specs.Stages.{seated}
use Rattle.task_tree.specs.Tree.{parent_of}
use Rattle.table_build.proofs.Steps.{bearers-both, bears-kept, grouping-both, places-both, recent-kept}
use Rattle.table_build.proofs.LineSteps.{get-found, group-at, groups-kept, line-at, line-set, lines-set, lines-shown, set-twice, stage-end, stage-here, stage-others, stage-todo}
use Rattle.model_laws.proofs.Names.{own_name_in_use}
use Rattle.table_text.specs.Reading.{saved_state}
use Rattle.table_build.specs.Lines.{is_held}
use Rattle.task_table.proofs.Results.{on_err}
use Rattle.table_build.proofs.PartSteps.{all-borne, group-in, part-set, seated-kept, stage-names}
use Rattle.table_build.proofs.Places.{at_place}
use Rattle.table_build.proofs.settle.settle_tasks.Goals as goal

pub settle_task-requires : goal.settle_task-requires
settle_task-requires c =
    let rows = c.args.saved.now.rows in
    let i = c.loop-index.invariant in
    let row_here : slice_get rows c.loop-index.index ≡ Some c.write_next.new.row = c.write_next.ensures in
    let key_here : slice_get c.args.placed.now.keys.items c.loop-index.index ≡ Some c.in-Some-Some.key.now =
    get-found c.args.placed.now.keys.items c.deref.result.now c.loop-index.index c.in-Some-Some.key.now c.deref.ensures.value c.in-Some-Some.ensures.lookup.3.0 c.in-Some-Some.ensures.lookup.1 in
    let line : IsRowAt c.loop-index.store c.args.placed.now c.in-Some-Some.key.now (seated c.write_next.new.row) =
    line-at c.loop-index.store c.args.placed.now (stage (λ r. r) seated rows c.loop-index.index) c.loop-index.index c.in-Some-Some.key.now (seated c.write_next.new.row) i.lines key_here
    (stage-todo (λ r. r) seated rows c.loop-index.index c.write_next.new.row row_here) in
    let group_here : slice_get c.args.placed.now.groups.items c.loop-index.index ≡ Some c.in-Some-Some.group.now =
    get-found c.args.placed.now.groups.items c.deref-in-loop-index.result.now c.loop-index.index c.in-Some-Some.group.now c.deref-in-loop-index.ensures.value c.in-Some-Some.ensures'.lookup.3.0 c.in-Some-Some.ensures'.lookup.1 in
    let j = c.in_ok-join_group.ensures in
    record {
      grouping = j.joined.keeps.grouping;
      recent = recent-kept c.loop-index.store c.join_group.new.store c.loop-index.last j.joined.keeps.names i.recent;
      joined =
          (j.joined.sets (seated c.write_next.new.row) line.shown).here
          ∙ ap (λ (n : Name). Some (record (seated c.write_next.new.row) { group = n }))
          (group-at c.loop-index.store c.args.placed.now rows c.loop-index.index c.in-Some-Some.group.now c.write_next.new.row i.groups group_here row_here);
      real = λ k q e. i.real k q (ap (λ t. parent_of t k) (sym j.tree) ∙ e);
    }

pub write_next-requires-clause-before : goal.write_next-requires-clause-before
write_next-requires-clause-before c = grind arith

pub loop-index-preserved : goal.loop-index-preserved
loop-index-preserved c =
    let rows = c.args.saved.now.rows in
    let i = c.loop-index.invariant in
    let row_here : slice_get rows c.loop-index.index ≡ Some c.write_next.new.row = c.write_next.ensures in
    let key_here : slice_get c.args.placed.now.keys.items c.loop-index.index ≡ Some c.in-Some-Some.key.now =
    get-found c.args.placed.now.keys.items c.deref.result.now c.loop-index.index c.in-Some-Some.key.now c.deref.ensures.value c.in-Some-Some.ensures.lookup.3.0 c.in-Some-Some.ensures.lookup.1 in
    let line : IsRowAt c.loop-index.store c.args.placed.now c.in-Some-Some.key.now (seated c.write_next.new.row) =
    line-at c.loop-index.store c.args.placed.now (stage (λ r. r) seated rows c.loop-index.index) c.loop-index.index c.in-Some-Some.key.now (seated c.write_next.new.row) i.lines key_here
    (stage-todo (λ r. r) seated rows c.loop-index.index c.write_next.new.row row_here) in
    let j = c.in_ok-join_group.ensures in
    let e = c.in_ok-settle_task.ensures in
    let set = set-twice c.loop-index.store c.join_group.new.store c.settle_task.new.store c.in-Some-Some.key.now _ c.write_next.new.row (j.joined.sets (seated c.write_next.new.row) line.shown) e.settled in
    record {
      rowed = λ _. subst (λ n. slice_get c.args.saved.now.rows n ≡ Some c.write_next.new.row) (let e : c.loop-index.index ≡ c.loop-index.index + 1 - 1 = omega arith in e) c.write_next.ensures;
      keeps = grouping-both c.args.store.now c.loop-index.store c.settle_task.new.store i.keeps (grouping-both c.loop-index.store c.join_group.new.store c.settle_task.new.store j.joined.keeps e.keeps.keeps);
      recent = e.keeps.recent;
      lines = lines-set c.loop-index.store c.settle_task.new.store c.args.placed.now c.args.placed.now (stage (λ r. r) seated rows c.loop-index.index) (stage (λ r. r) seated rows (c.loop-index.index + 1))
          c.loop-index.index c.in-Some-Some.key.now c.write_next.new.row i.lines (line-set c.loop-index.store c.settle_task.new.store c.args.placed.now c.in-Some-Some.key.now c.write_next.new.row set line.real) refl key_here
          (stage-here (λ r. r) seated rows c.loop-index.index c.write_next.new.row row_here) (λ k not. stage-others (λ r. r) seated rows c.loop-index.index k not);
      groups = groups-kept c.loop-index.store c.settle_task.new.store c.args.placed.now rows i.groups (bearers-both c.loop-index.store c.join_group.new.store c.settle_task.new.store j.joined.keeps.names e.keeps.keeps.names);
      part = λ had.
          let name = own_name_in_use rows c.write_next.new.row (at_place rows c.loop-index.index c.write_next.new.row row_here) in
          part-set c.loop-index.store c.settle_task.new.store (saved_state c.args.saved.now)
          (places-both c.loop-index.store c.join_group.new.store c.settle_task.new.store j.joined.keeps.places e.keeps.keeps.places) (i.part had) c.in-Some-Some.key.now c.write_next.new.row set name;
      held = λ k held.
          let not : k ≢ c.in-Some-Some.key.now = (λ same. true≢false (sym held ∙ ap (is_held c.args.placed.now) same ∙ line.real)) in
          set.others k not ∙ i.held k held;
      real = e.keeps.real;
    }

id_map : (o : Option Row) → option_map (λ (r : Row). r) o ≡ o
id_map None = refl
id_map (Some r) = refl

pub returns-clause-lines : goal.returns-clause-lines
returns-clause-lines c =
    let i = c.loop-index.invariant in
    let rows = c.args.saved.now.rows in
    let all : length rows ≤ c.loop-index.index = (let a = c.loop-index-test.false in let b = c.len-index-end.ensures in omega (arith, a, b)) in
    lines-shown c.loop-index.store c.args.placed.now (stage (λ r. r) seated rows c.loop-index.index) (slice_get rows) i.lines
    (λ j k e. sym (stage-end (λ r. r) seated rows c.loop-index.index all j ∙ id_map (slice_get rows j)))

pub returns-in_err-join_group-clause-refused : goal.returns-in_err-join_group-clause-refused
returns-in_err-join_group-clause-refused c =
    let rows = c.args.saved.now.rows in
    let s = c.loop-index.store in
    let p = c.args.placed.now in
    let i = c.loop-index.invariant in
    let row = c.write_next.new.row in
    let key = c.in-Some-Some.key.now in
    let row_here : slice_get rows c.loop-index.index ≡ Some row = c.write_next.ensures in
    let key_here : slice_get p.keys.items c.loop-index.index ≡ Some key =
    get-found p.keys.items c.deref.result.now c.loop-index.index key c.deref.ensures.value c.in-Some-Some.ensures.lookup.3.0 c.in-Some-Some.ensures.lookup.1 in
    let line : IsRowAt s p key (seated row) = line-at s p (stage (λ r. r) seated rows c.loop-index.index) c.loop-index.index key (seated row) i.lines key_here (stage-todo (λ r. r) seated rows c.loop-index.index row row_here) in
    let group_here : slice_get p.groups.items c.loop-index.index ≡ Some c.in-Some-Some.group.now =
    get-found p.groups.items c.deref-in-loop-index.result.now c.loop-index.index c.in-Some-Some.group.now c.deref-in-loop-index.ensures.value c.in-Some-Some.ensures'.lookup.3.0 c.in-Some-Some.ensures'.lookup.1 in
    on_err c.from_residual.result _ (λ sound part seats.
    c.in_err-join_group.ensures.refused (seated row) line.shown (i.groups c.loop-index.index c.in-Some-Some.group.now group_here).2.there
    (group-in s c.laws.ensures p rows c.loop-index.index c.in-Some-Some.group.now row sound.coherent.groups i.lines i.groups (seated-kept c.args.store.now s p rows i.held seats) row_here group_here))

pub returns-in_err-settle_task-clause-refused : goal.returns-in_err-settle_task-clause-refused
returns-in_err-settle_task-clause-refused c =
    let rows = c.args.saved.now.rows in
    let s = c.loop-index.store in
    let p = c.args.placed.now in
    let i = c.loop-index.invariant in
    let row = c.write_next.new.row in
    let key = c.in-Some-Some.key.now in
    let row_here : slice_get rows c.loop-index.index ≡ Some row = c.write_next.ensures in
    let key_here : slice_get p.keys.items c.loop-index.index ≡ Some key =
    get-found p.keys.items c.deref.result.now c.loop-index.index key c.deref.ensures.value c.in-Some-Some.ensures.lookup.3.0 c.in-Some-Some.ensures.lookup.1 in
    let line : IsRowAt s p key (seated row) = line-at s p (stage (λ r. r) seated rows c.loop-index.index) c.loop-index.index key (seated row) i.lines key_here (stage-todo (λ r. r) seated rows c.loop-index.index row row_here) in
    let t = c.join_group.new.store in
    let j = c.in_ok-join_group.ensures in
    let inside = at_place rows c.loop-index.index row row_here in
    on_err c.from_residual-in_err-settle_task.result _ (λ sound part seats.
    c.in_err-settle_task.ensures.refused (saved_state c.args.saved.now) (record {
      sound = sound;
      part = part-set s t (saved_state c.args.saved.now) j.joined.keeps.places (i.part part) key _ (j.joined.sets (seated row) line.shown) (own_name_in_use rows row inside);
      inside = inside;
      borne = λ r on.
          let b = all-borne s p rows (stage (λ r. r) seated rows c.loop-index.index) i.lines c.requires.keys (stage-names rows c.loop-index.index) r on in
          (b.0, bears-kept s t b.0 r.name j.joined.keeps.names b.1, b.2);
    }))

pub returns-in_default-clause-refused : goal.returns-in_default-clause-refused
returns-in_default-clause-refused c = grind arith

pub write_next-requires-clause-index : goal.write_next-requires-clause-index
write_next-requires-clause-index c = grind arith

pub loop-index-init : goal.loop-index-init
loop-index-init c = grind arith

pub join_group-requires : goal.join_group-requires
join_group-requires c = grind arith
