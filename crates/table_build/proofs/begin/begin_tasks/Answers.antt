use Rattle.std.proofs.Common.{◌≡◌, inl, inr, subst, ℕ, ◌+◌, Some, arith, [], ◌∷◌, Bool, List, length, ap, sym, ◌∙◌, is_some, length-append, option_map, slice_get, refl, ◌-◌}
use Rattle.std.specs.declared.vec.Vec.{Vec}
use Rattle.std.specs.declared.alloc.Global.{Global}
use Rattle.pid_numbers.specs.Restore.{is_flagged}
use Rattle.std.proofs.lemmas.Bool.{cases_eq}
use Rattle.table_build.specs.Sorted.{IsNotBelow}
use Rattle.table_build.specs.Stages.{as_begun}
use Rattle.table_build.proofs.Steps.{ungrouped-both}
use Rattle.table_build.proofs.LineSteps.{lines-push}
use Rattle.model_laws.proofs.Names.{own_name_in_use}
use Rattle.table_text.specs.Reading.{saved_state}
use Rattle.pid_types.specs.Controls.{control_at}
use Rattle.task_table.proofs.Results.{if_err}
use Rattle.table_build.proofs.Parts.{may-bear}
use Rattle.table_build.proofs.PartSteps.{part-set, unborne-next}
use Rattle.table_build.proofs.Places.{at_place}
use Rattle.table_build.specs.declared.fault.BuildFault.TheVariants.{NoMemory}
use Rattle.table_build.proofs.begin.begin_tasks.Goals as goal

pub loop-index-preserved : goal.loop-index-preserved
loop-index-preserved c =
    let b = c.in_ok-key.ensures.added in
    let p = c.in_ok-add_key.ensures in
    let i = c.loop-index.invariant in
    record {
      rowed = λ _. subst (λ n. slice_get c.args.saved.now.rows n ≡ Some c.write_next.new.row) (let e : c.loop-index.index ≡ c.loop-index.index + 1 - 1 = omega arith in e) c.write_next.ensures;
      keeps = ungrouped-both c.args.store.now c.loop-index.store c.begin_task.new.store i.keeps b.keeps;
      lines = lines-push c.loop-index.store c.begin_task.new.store c.loop-index.placed c.add_key.new.self (λ j. option_map as_begun (slice_get c.args.saved.now.rows j)) c.in_ok-key.key _ i.lines b.adds
          (ap (λ n. option_map as_begun (slice_get c.args.saved.now.rows n)) i.keys ∙ ap (option_map as_begun) c.write_next.ensures) p.keys p.placeholders (ap (λ (l : List Bool). is_flagged l c.in_ok-key.key) i.placeholders);
      keys = ap length p.keys ∙ length-append c.loop-index.placed.keys.items (c.in_ok-key.key ∷ []) ∙ ap (λ n. n + 1) i.keys;
      groups = ap (λ (v : Vec ℕ Global). v.items) p.groups ∙ i.groups;
      placeholders = ap (λ (v : Vec Bool Global). v.items) p.placeholders ∙ i.placeholders;
      part = λ had.
          let rows = c.args.saved.now.rows in
          part-set c.loop-index.store c.begin_task.new.store (saved_state c.args.saved.now) b.keeps.places (i.part had) c.in_ok-key.key _ b.adds.sets
          (own_name_in_use rows c.write_next.new.row (at_place rows c.loop-index.index c.write_next.new.row c.write_next.ensures));
      sorted = λ j lt. elim (cases_eq j c.loop-index.index) [
        | inl same ↦ subst (IsNotBelow c.args.saved.now.rows) (sym same) (c.is_unsorted.ensures.sorted c.if-is_unsorted.false)
        | inr not ↦ i.sorted j (omega (arith, lt, not))
      ];
    }

pub returns-clause-sorted : goal.returns-clause-sorted
returns-clause-sorted c = grind arith

pub returns-in_err-key-clause-refused : goal.returns-in_err-key-clause-refused
returns-in_err-key-clause-refused c =
    let rows = c.args.saved.now.rows in
    let text = saved_state c.args.saved.now in
    let row = c.write_next.new.row in
    let i = c.loop-index.invariant in
    let here : slice_get rows c.loop-index.index ≡ Some row = c.write_next.ensures in
    let inside = at_place rows c.loop-index.index row here in
    if_err c.from_residual.result _ c.in_err-key.field-0.0 c.from_residual.ensures.1 (λ not sound had.
    let part = i.part had in
    let home = sound.coherent.homes row inside in
    let there = ap is_some (ap (λ cs. control_at cs row.home) part.places.controls ∙ home.1) in
    let unborne = unborne-next c.loop-index.store c.loop-index.placed rows c.loop-index.index row i.lines i.keys i.placeholders here sound.coherent.rows_rise in
    c.in_err-key.ensures.refused not there (may-bear c.loop-index.store c.laws.ensures text sound part row.name (own_name_in_use rows row inside) i.keeps.ungrouped.borne unborne))

pub write_next-requires-clause-index : goal.write_next-requires-clause-index
write_next-requires-clause-index c = grind arith

pub begin_task-requires : goal.begin_task-requires
begin_task-requires c = grind arith

pub returns-in_err-add_key-clause-refused : goal.returns-in_err-add_key-clause-refused
returns-in_err-add_key-clause-refused c = if_err c.from_residual-in_err-add_key.result _ NoMemory c.from_residual-in_err-add_key.ensures.1 (λ not. absurd (not refl))

pub returns-then-is_unsorted-clause-refused : goal.returns-then-is_unsorted-clause-refused
returns-then-is_unsorted-clause-refused c = grind arith

pub loop-index-init : goal.loop-index-init
loop-index-init c = grind arith
