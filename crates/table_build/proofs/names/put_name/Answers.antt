use Rattle.std.proofs.Common.{ℕ, find, is_none, is_some, unwrap_or, map, IsSome, arith}
use Rattle.std.proofs.Common.{◌≡◌, None, Some, ap, sym, subst, refl, ◌∙◌, reverse}
use Rattle.std.proofs.lemmas.List.{reverse-reverse}
use Rattle.pid_types.specs.declared.plain.Name.{Name}
use Rattle.pid_types.specs.declared.plain.Row.{Row}
use Rattle.pid_numbers.specs.Numbering.{Numbering, draw_in, id_at, namespace_at, path_at}
use Rattle.pids_charge.specs.Charges.{Charges}
use Rattle.task_table.proofs.Newborn.{Comes, named_in}
use Rattle.table_build.specs.Stages.{AddsRow, KeepsSpaces, lone_row}
use Rattle.table_build.specs.Ungrouped.{IsUngrouped}
use Rattle.table_build.proofs.Steps.{added, added-behind, bearers-both, bearers-come, bearers-moved, come-spaces, keeps-namespaces, same_ids, same_paths, spaces-both, ungrouped-come, ungrouped-moved}
use Rattle.table_build.proofs.Draws.{drawn-name, still-there}
use Rattle.task_table.proofs.Results.{if_err}
use Rattle.table_build.specs.declared.fault.BuildFault.TheVariants.{NoMemory}
use Rattle.table_build.proofs.Places.{none_some}
use Rattle.table_build.proofs.names.put_name.Goals as goal

kept : (c : goal.After-laws-3) → KeepsSpaces c.put_cursors.new.store.numbering c.fork.new.self.numbering
kept c =
    let e = c.in_ok-key.ensures in
    come-spaces c.put_cursors.new.store.numbering c.fork.new.self.numbering (path_at c.put_cursors.new.store.numbering c.in-Some.space) c.as_slice-4.result.now e.order e.begun.bound e.namespaces

moved : (c : goal.After-laws-3) → IsUngrouped c.put_cursors.new.store
moved c = ungrouped-moved c.args.store.now c.put_cursors.new.store c.put_cursors.ensures.moved c.requires.ungrouped

comes : (c : goal.After-laws-3) → Comes c.put_cursors.new.store c.fork.new.self c.in_ok-key.key None c.args.task c.in-Some.space c.as_slice-4.result.now
comes c = record {
  before = c.laws-2.ensures;
  after = c.laws-3.ensures;
  kin = λ k p f. absurd (none_some (sym ((moved c).orphans k) ∙ f));
  begun = c.in_ok-key.ensures.begun;
  keeps = keeps-namespaces c.put_cursors.new.store.numbering c.fork.new.self.numbering (kept c);
}

named : (c : goal.After-laws-3) → named_in c.args.name.now.space c.as_slice-4.result.now ≡ c.args.name.now
named c =
    let same : c.as_slice-4.result.now ≡ reverse c.args.name.now.numbers.items =
    c.as_slice-4.ensures.value ∙ sym c.as_slice-2.ensures.value ∙ c.if-not-are_same.ensures.0 refl ∙ c.as_slice-3.ensures.value ∙ c.write_innermost_first.ensures in
    let items = ap reverse same ∙ reverse-reverse c.args.name.now.numbers.items in
    λ i. record { space = c.args.name.now.space; numbers = record { items = items i } }

adds : (c : goal.After-laws-3) → AddsRow c.args.store.now c.fork.new.self c.in_ok-key.key (lone_row c.args.store.now c.args.name.now c.args.task)
adds c =
    let m = c.put_cursors.ensures.moved in
    let id : id_at c.fork.new.self.numbering c.in-Some.space ≡ Some c.args.name.now.space =
    same_ids c.put_cursors.new.store.numbering c.fork.new.self.numbering (kept c) c.in-Some.space
    ∙ same_ids c.args.store.now.numbering c.put_cursors.new.store.numbering m.spaces c.in-Some.space
    ∙ ap (λ b. id_at b c.in-Some.space) (sym c.numbers.ensures) ∙ c.in-Some.ensures in
    let row : lone_row c.put_cursors.new.store (named_in c.args.name.now.space c.as_slice-4.result.now) c.args.task ≡ lone_row c.args.store.now c.args.name.now c.args.task =
    ap (λ (n : Name). lone_row c.put_cursors.new.store n c.args.task) (named c)
    ∙ ap (λ (v : Charges). lone_row (record c.args.store.now { charges = v }) c.args.name.now c.args.task) m.charges in
    added-behind c.args.store.now c.put_cursors.new.store c.fork.new.self c.in_ok-key.key (lone_row c.args.store.now c.args.name.now c.args.task) m
    (subst (λ (r : Row). AddsRow c.put_cursors.new.store c.fork.new.self c.in_ok-key.key r) row (added (comes c) c.args.name.now.space id))

pub returns-in_default-clause-refused : goal.returns-in_default-clause-refused
returns-in_default-clause-refused c = λ _ may. c.in_default.ensures may.space (ap (λ b. id_at b may.space) c.numbers.ensures ∙ may.named)

pub fork-requires-clause-all : goal.fork-requires-clause-all
fork-requires-clause-all c = grind arith

pub returns-in-Err-clause-refused : goal.returns-in-Err-clause-refused
returns-in-Err-clause-refused c = λ _ may.
    let s0 = c.args.store.now.numbering in
    let b = c.put_cursors.new.store.numbering in
    let m = c.put_cursors.ensures.moved in
    let at : id_at c.args.store.now.numbering c.in-Some.space ≡ Some c.args.name.now.space = ap (λ b. id_at b c.in-Some.space) (sym c.numbers.ensures) ∙ c.in-Some.ensures in
    let space : may.space ≡ c.in-Some.space = c.laws.ensures.numbering.ids may.space c.in-Some.space c.args.name.now.space may.named at in
    let wanted : c.as_slice.result.now ≡ reverse c.args.name.now.numbers.items = c.as_slice.ensures.value ∙ c.write_innermost_first.ensures in
    let drawn = drawn-name s0 b c.args.name.now may c.in-Some.space space c.as_slice.result.now wanted m.names (same_paths s0 b m.spaces) m.spaces.bound c.put_cursors.ensures.put in
    let paths : path_at c.numbers-2.result.now c.in-Some.space ≡ path_at s0 c.in-Some.space = ap (λ n. path_at n c.in-Some.space) c.numbers-2.ensures ∙ same_paths s0 b m.spaces c.in-Some.space in
    let none : find (λ q. is_none (draw_in c.numbers-2.result.now q)) (path_at c.numbers-2.result.now c.in-Some.space) ≡ None =
    ap (find (λ q. is_none (draw_in c.numbers-2.result.now q))) paths ∙ ap (λ n. find (λ q. is_none (draw_in n q)) (path_at s0 c.in-Some.space)) c.numbers-2.ensures ∙ drawn.0 in
    absurd (none_some (sym none ∙ c.in-Err.ensures.err))

pub fork-requires-clause-from : goal.fork-requires-clause-from
fork-requires-clause-from c = grind arith

pub returns-then-not-are_same-clause-refused : goal.returns-then-not-are_same-clause-refused
returns-then-not-are_same-clause-refused c = λ _ may.
    let s0 = c.args.store.now.numbering in
    let b = c.put_cursors.new.store.numbering in
    let m = c.put_cursors.ensures.moved in
    let at : id_at c.args.store.now.numbering c.in-Some.space ≡ Some c.args.name.now.space = ap (λ b. id_at b c.in-Some.space) (sym c.numbers.ensures) ∙ c.in-Some.ensures in
    let space : may.space ≡ c.in-Some.space = c.laws.ensures.numbering.ids may.space c.in-Some.space c.args.name.now.space may.named at in
    let wanted : c.as_slice.result.now ≡ reverse c.args.name.now.numbers.items = c.as_slice.ensures.value ∙ c.write_innermost_first.ensures in
    let drawn = drawn-name s0 b c.args.name.now may c.in-Some.space space c.as_slice.result.now wanted m.names (same_paths s0 b m.spaces) m.spaces.bound c.put_cursors.ensures.put in
    let paths : path_at c.numbers-2.result.now c.in-Some.space ≡ path_at s0 c.in-Some.space = ap (λ n. path_at n c.in-Some.space) c.numbers-2.ensures ∙ same_paths s0 b m.spaces c.in-Some.space in
    let planned = ap (map (λ q. unwrap_or (draw_in c.numbers-2.result.now q) 0)) paths ∙ ap (λ n. map (λ q. unwrap_or (draw_in n q) 0) (path_at s0 c.in-Some.space)) c.numbers-2.ensures ∙ drawn.1 in
    c.if-not-are_same.ensures.1 refl (c.as_slice-2.ensures.value ∙ c.in_default-plan_into.ensures.ok.1 ∙ planned ∙ c.as_slice.ensures.value ∙ sym c.as_slice-3.ensures.value)

pub returns-in_err-key-clause-refused : goal.returns-in_err-key-clause-refused
returns-in_err-key-clause-refused c = if_err c.from_residual.result _ NoMemory c.from_residual.ensures.1 (λ not. absurd (not refl))

pub returns-clause-added : goal.returns-clause-added
returns-clause-added c =
    let m = c.put_cursors.ensures.moved in
    record {
      keeps = record {
        ungrouped = ungrouped-come (comes c) (kept c) (moved c);
        places = record {
          spaces = spaces-both c.args.store.now.numbering c.put_cursors.new.store.numbering c.fork.new.self.numbering m.spaces (kept c);
          controls = c.in_ok-key.ensures.begun.home.controls ∙ ap (λ (v : Charges). v.controls) m.charges;
        };
        names = bearers-both c.args.store.now c.put_cursors.new.store c.fork.new.self (bearers-moved c.args.store.now c.put_cursors.new.store m) (bearers-come (comes c));
      };
      adds = adds c;
    }

pub fork-requires-clause-live : goal.fork-requires-clause-live
fork-requires-clause-live c = grind arith

pub fork-requires-clause-there : goal.fork-requires-clause-there
fork-requires-clause-there c = grind arith

pub fork-requires-clause-parents : goal.fork-requires-clause-parents
fork-requires-clause-parents c = λ k p e.
    absurd (none_some (sym ((ungrouped-moved c.args.store.now c.put_cursors.new.store c.put_cursors.ensures.moved c.requires.ungrouped).orphans k) ∙ e))

pub put_cursors-requires : goal.put_cursors-requires
put_cursors-requires c = grind arith

pub fork-requires-clause-planned : goal.fork-requires-clause-planned
fork-requires-clause-planned c = grind arith

-- the namespace is there still
stays : (b c : Numbering) (space i : ℕ) → KeepsSpaces b c → id_at b space ≡ Some i → IsSome (namespace_at c space)
stays b c space i keeps at = still-there (namespace_at c space) (ap is_some (same_ids b c keeps space ∙ at))

pub name_fault-requires : goal.name_fault-requires
name_fault-requires c =
    stays c.args.store.now.numbering c.put_cursors.new.store.numbering c.in-Some.space c.args.name.now.space c.put_cursors.ensures.moved.spaces
    (ap (λ b. id_at b c.in-Some.space) (sym c.numbers.ensures) ∙ c.in-Some.ensures)

pub fork-requires-clause-home : goal.fork-requires-clause-home
fork-requires-clause-home c = grind arith

pub name_fault-requires-then-not-are_same : goal.name_fault-requires-then-not-are_same
name_fault-requires-then-not-are_same c =
    stays c.args.store.now.numbering c.put_cursors.new.store.numbering c.in-Some.space c.args.name.now.space c.put_cursors.ensures.moved.spaces
    (ap (λ b. id_at b c.in-Some.space) (sym c.numbers.ensures) ∙ c.in-Some.ensures)
