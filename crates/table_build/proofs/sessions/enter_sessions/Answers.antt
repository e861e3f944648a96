use Rattle.std.proofs.Common.{◌≡◌, ℕ, ◌+◌, ◌≤◌, List, [], ◌∷◌, length, Some, refl, ap, sym, ◌∙◌, arith, length-append, slice_get, option_map, ◌-◌, subst}
use Rattle.table_build.specs.Lines.{stage}
use Rattle.table_build.specs.Stages.{as_begun, seated}
use Rattle.table_build.proofs.Steps.{ungrouped-both, ungrouped-none}
use Rattle.table_build.proofs.LineSteps.{get-found, groups-none, groups-push, line-at, lines-set, lines-shown, stage-begin, stage-end, stage-here, stage-others, stage-todo}
use Rattle.table_text.specs.Reading.{saved_state}
use Rattle.task_table.proofs.Results.{if_err}
use Rattle.table_build.proofs.PartSteps.{own-group, seats-next}
use Rattle.table_build.proofs.Places.{at_place, none_some}
use Rattle.table_build.proofs.sessions.enter_sessions.Goals as goal

pub loop-index-init : goal.loop-index-init
loop-index-init c = record {
  rowed = λ some. absurd (omega (arith, some));
  keeps = ungrouped-none c.args.store.now c.requires.ungrouped;
  recent = record { session = λ k e. absurd (none_some (sym c.none.ensures ∙ e)); group = λ k e. absurd (none_some (sym c.none-2.ensures ∙ e)) };
  lines = lines-shown c.args.store.now c.args.placed.now (λ j. option_map as_begun (slice_get c.args.saved.now.rows j)) (stage seated as_begun c.args.saved.now.rows 0) c.requires.lines
      (λ j k e. stage-begin seated as_begun c.args.saved.now.rows j);
  groups = groups-none c.args.store.now c.args.placed.now c.args.saved.now.rows c.requires.groups;
  count = ap length c.requires.groups;
  few = λ few. few;
  part = λ part. part;
  seats = λ good j g x r at. absurd (none_some (ap (λ (l : List ℕ). slice_get l j) (sym c.requires.groups) ∙ at));
  keys = refl;
}

key-here : (c : goal.In_ok-put_in_session) → slice_get c.loop-index.placed.keys.items c.loop-index.index ≡ Some c.in-Some.key.now
key-here c =
    get-found c.loop-index.placed.keys.items c.deref.result.now c.loop-index.index c.in-Some.key.now c.deref.ensures.value c.in-Some.ensures.lookup.3.0 c.in-Some.ensures.lookup.1

pub put_in_session-requires-clause-begun : goal.put_in_session-requires-clause-begun
put_in_session-requires-clause-begun c =
    let row : slice_get c.args.saved.now.rows c.loop-index.index ≡ Some c.write_next.new.row = c.write_next.ensures in
    let key : slice_get c.loop-index.placed.keys.items c.loop-index.index ≡ Some c.in-Some.key.now =
    get-found c.loop-index.placed.keys.items c.deref.result.now c.loop-index.index c.in-Some.key.now c.deref.ensures.value c.in-Some.ensures.lookup.3.0 c.in-Some.ensures.lookup.1 in
    line-at c.loop-index.store c.loop-index.placed (stage seated as_begun c.args.saved.now.rows c.loop-index.index) c.loop-index.index c.in-Some.key.now (as_begun c.write_next.new.row) c.loop-index.invariant.lines key
    (stage-todo seated as_begun c.args.saved.now.rows c.loop-index.index c.write_next.new.row row)

pub returns-in_default-clause-refused : goal.returns-in_default-clause-refused
returns-in_default-clause-refused c = grind arith

pub loop-index-preserved : goal.loop-index-preserved
loop-index-preserved c =
    let e = c.in_ok-put_in_session.ensures in
    let i = c.loop-index.invariant in
    let rows = c.args.saved.now.rows in
    record {
      rowed = λ _. subst (λ n. slice_get c.args.saved.now.rows n ≡ Some c.write_next.new.row) (let e : c.loop-index.index ≡ c.loop-index.index + 1 - 1 = omega arith in e) c.write_next.ensures;
      keeps = ungrouped-both c.args.store.now c.loop-index.store c.put_in_session.new.store i.keeps e.keeps;
      recent = e.recent;
      lines = lines-set c.loop-index.store c.put_in_session.new.store c.loop-index.placed c.put_in_session.new.placed (stage seated as_begun rows c.loop-index.index) (stage seated as_begun rows (c.loop-index.index + 1))
          c.loop-index.index c.in-Some.key.now (seated c.write_next.new.row) i.lines e.set e.group.keys (key-here c) (stage-here seated as_begun rows c.loop-index.index c.write_next.new.row c.write_next.ensures)
          (λ j not. stage-others seated as_begun rows c.loop-index.index j not);
      groups = groups-push c.loop-index.store c.put_in_session.new.store c.loop-index.placed c.put_in_session.new.placed rows c.in-Some.key.now c.write_next.new.row i.groups e.keeps.names e.group
          (ap (slice_get rows) i.count ∙ c.write_next.ensures);
      count = ap length e.group.added ∙ length-append c.loop-index.placed.groups.items (e.group.group ∷ []) ∙ ap (λ n. n + 1) i.count;
      few = λ few. e.group.few (i.few few);
      part = λ had. e.part (saved_state c.args.saved.now) (i.part had) (at_place rows c.loop-index.index c.write_next.new.row c.write_next.ensures);
      seats = λ good.
          seats-next c.loop-index.store c.put_in_session.new.store c.loop-index.placed c.put_in_session.new.placed rows c.in-Some.key.now c.write_next.new.row good i.groups (i.seats good) e.group
          (ap (slice_get rows) i.count ∙ c.write_next.ensures) e.set.here.real e.keeps.names;
      keys = e.group.keys ∙ i.keys;
    }

pub returns : goal.returns
returns c =
    let i = c.loop-index.invariant in
    let rows = c.args.saved.now.rows in
    let all : length rows ≤ c.loop-index.index = (let a = c.loop-index-test.false in let b = c.len-index-end.ensures in omega (arith, a, b)) in
    record {
      keeps = i.keeps;
      lines = lines-shown c.loop-index.store c.loop-index.placed (stage seated as_begun rows c.loop-index.index) (λ j. option_map seated (slice_get rows j)) i.lines
          (λ j k e. sym (stage-end seated as_begun rows c.loop-index.index all j));
      groups = i.groups;
      keys = ap (λ v. length v.items) i.keys ∙ c.requires.keys;
      all = (let end = c.loop-index.auto.index-end in let len = c.len-index-end.ensures in let count = i.count in omega (arith, all, end, len, count));
      few = i.few;
      part = i.part;
      seated = λ good. record { alone = λ k r held e. own-group c.loop-index.store c.laws.ensures i.keeps.ungrouped k r e; seats = i.seats good };
      refused = tt;
    }

pub put_in_session-requires-clause-recent : goal.put_in_session-requires-clause-recent
put_in_session-requires-clause-recent c = grind arith

pub returns-in_err-put_in_session-clause-refused : goal.returns-in_err-put_in_session-clause-refused
returns-in_err-put_in_session-clause-refused c =
    let rows = c.args.saved.now.rows in
    let here : slice_get rows c.loop-index.index ≡ Some c.write_next.new.row = c.write_next.ensures in
    if_err c.from_residual.result _ c.in_err-put_in_session.field-0.0 c.from_residual.ensures.1 (λ not sound had.
    c.in_err-put_in_session.ensures.refused not (saved_state c.args.saved.now) sound (c.loop-index.invariant.part had) (at_place rows c.loop-index.index c.write_next.new.row here))
