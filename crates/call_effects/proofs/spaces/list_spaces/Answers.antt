use Rattle.std.proofs.Common.{◌∙◌, [], ap, flat_map, subst}
use Rattle.std.specs.Prelude.{slice_index_or}
use Rattle.std.proofs.lemmas.List.{take_all}
use Rattle.pid_types.specs.Membership.{IsIn}
use Rattle.translate.specs.Pages.{AreListedFrom}
use Rattle.call_effects.specs.Spaces.{inner_path}
use Rattle.call_effects.proofs.Lists.{distinct, index-in, listed_more}
use Rattle.call_effects.proofs.spaces.list_spaces.Goals as goal

pub add_path-requires : goal.add_path-requires
add_path-requires c =
    let id = slice_index_or c.deref-id-items.result.now c.loop-id.id-index 0 in
    c.requires id ((c.in_ok-own.ensures.each id).0 (subst (IsIn id) c.deref-id-items.ensures.value (index-in c.deref-id-items.result.now c.loop-id.id-index c.loop-id-test.true))).1

pub returns : goal.returns
returns c =
    let own = c.in_ok-own.own.items in
    let all = c.loop-id.invariant.paths
    ∙ ap (flat_map (inner_path c.args.table.now)) (take_all c.loop-id.id-index c.deref-id-items.result.now c.loop-id-test.false ∙ c.deref-id-items.ensures.value) in (
      own,
      c.in_ok-own.ensures,
      subst (λ ns. AreListedFrom ns 0 c.sort_distinct.new.numbers.items) all (distinct c.loop-id.ids.items c.sort_distinct.new.numbers.items c.sort_distinct.ensures.sorts),
    )

pub loop-id-preserved : goal.loop-id-preserved
loop-id-preserved c = record {
  paths = listed_more (inner_path c.args.table.now) [] c.deref-id-items.result.now c.loop-id.id-index 0 c.loop-id.ids.items _
      c.loop-id-test.true c.loop-id.invariant.paths c.in_ok-add_path.ensures;
}
