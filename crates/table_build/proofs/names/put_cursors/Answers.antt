use Rattle.std.proofs.Common.{◌≡◌, ℕ, length, Some, None, is_some, List, nat_lt, if◌then◌else◌, option_map, ap, sym, ◌∙◌, arith, slice_get, true≢false}
use Rattle.pid_numbers.specs.Numbering.{Namespace, id_at, namespace_at, path_at}
use Rattle.std.specs.Prelude.{slice_index_or}
use Rattle.table_build.proofs.Places.{at_place}
use Rattle.table_build.proofs.Draws.{cursors-next, next-of, none-past, path-apart, path-first, still-there}
use Rattle.table_build.proofs.LineSteps.{get-is}
use Rattle.task_table.proofs.Keys.{path-there}
use Rattle.table_build.proofs.Steps.{moved-none, moved-both, cursor-moved, same_ids, same_paths}
use Rattle.table_build.proofs.names.put_cursors.Goals as goal

pub loop-number-init : goal.loop-number-init
loop-number-init c = record {
  moved = moved-none c.args.store.now;
  next = sym (path-first c.args.store.now.numbering c.laws.ensures.numbering c.args.space c.requires);
  put = λ j s n lt. absurd (omega (arith, lt));
}

pub loop-number-preserved : goal.loop-number-preserved
loop-number-preserved c =
    let i = c.loop-number.invariant in
    let p = c.put_cursor.ensures in
    let path = path_at c.args.store.now.numbering c.args.space in
    let at : slice_get path c.loop-number.number-index ≡ Some c.in-Some.key = sym i.next ∙ c.in-Some.is in
    let here = get-is c.args.numbers.now c.loop-number.number-index 0 c.loop-number-test.true in
    let there = still-there (namespace_at c.loop-number.store.numbering c.in-Some.key)
    (ap (λ b. is_some (option_map (λ (t : Namespace). t.id) (namespace_at b c.in-Some.key))) (sym c.numbers.ensures) ∙ ap is_some (sym c.id.ensures) ∙ c.if-is_none.ensures) in
    let moved = moved-both c.args.store.now c.loop-number.store c.put_cursor.new.self i.moved
    (cursor-moved c.loop-number.store c.put_cursor.new.self _ _ p.names p.order p.namespaces p.bound p.rest) in
    let paths : path_at c.numbers-in-loop-number.result.now c.in-Some.key ≡ path_at c.args.store.now.numbering c.in-Some.key =
    ap (λ b. path_at b c.in-Some.key) c.numbers-in-loop-number.ensures ∙ same_paths c.args.store.now.numbering c.put_cursor.new.self.numbering moved.spaces c.in-Some.key in
    record {
      moved = moved;
      next = c.parent-next.ensures ∙ ap (λ (l : List ℕ). if nat_lt 1 (length l) then Some (slice_index_or l 1 0) else None) paths
          ∙ next-of c.args.store.now.numbering c.laws.ensures.numbering c.args.space c.loop-number.number-index c.in-Some.key at;
      put = cursors-next c.loop-number.store.numbering c.put_cursor.new.self.numbering path c.args.numbers.now c.loop-number.number-index c.in-Some.key _ i.put at here
          (λ j k x y on_j on_k less. path-apart c.args.store.now.numbering c.laws.ensures.numbering c.args.space j k x y on_j on_k less) there p.namespaces;
    }

pub returns-in_default : goal.returns-in_default
returns-in_default c =
    let i = c.loop-number.invariant in
    record {
      moved = i.moved;
      put = λ j s n lt on is. i.put j s n (none-past (path_at c.args.store.now.numbering c.args.space) c.loop-number.number-index j s (sym i.next ∙ c.in_default.is) on) on is;
    }

pub put_cursor-requires : goal.put_cursor-requires
put_cursor-requires c = grind arith

pub returns-then-is_none : goal.returns-then-is_none
returns-then-is_none c =
    let i = c.loop-number.invariant in
    let at : slice_get (path_at c.args.store.now.numbering c.args.space) c.loop-number.number-index ≡ Some c.in-Some.key = sym i.next ∙ c.in-Some.is in
    let there = path-there c.args.store.now.numbering c.laws.ensures.numbering c.args.space 0 c.in-Some.key (at_place (path_at c.args.store.now.numbering c.args.space) c.loop-number.number-index c.in-Some.key at) in
    let id = c.id.ensures ∙ ap (λ b. id_at b c.in-Some.key) c.numbers.ensures ∙ same_ids c.args.store.now.numbering c.loop-number.store.numbering i.moved.spaces c.in-Some.key ∙ there in
    absurd (true≢false (sym (sym c.if-is_none.ensures ∙ ap is_some id)))

pub returns : goal.returns
returns c =
    let i = c.loop-number.invariant in
    record {
      moved = i.moved;
      put = λ j s n lt on is. i.put j s n (let past = c.loop-number-test.false in omega (arith, lt, past)) on is;
    }
