use Rattle.std.proofs.Common.{◌≡◌, ◌∙◌, true, false, sym, ap}
use Rattle.std.specs.Prelude.{nat_lt}
use Rattle.std.specs.List.{list_all}
use Rattle.pid_types.specs.declared.plain.Control.{Control}
use Rattle.pid_types.specs.declared.plain.Row.{Row}
use Rattle.pid_types.specs.declared.plain.Space.{Space}
use Rattle.task_table.proofs.Results.{never}
use Rattle.table_load.proofs.LowIds.{all_below, each_below}
use Rattle.table_load.proofs.below.is_below.Goals as goal

pub returns-then-not-are_spaces_below : goal.returns-then-not-are_spaces_below
returns-then-not-are_spaces_below c = (
  (λ wrong. absurd (never wrong)),
  (λ low.
      let stamp = c.args.saved.now.stamp in
      let all = ap (list_all (λ (s : Space). nat_lt s.id stamp)) c.deref.ensures.value ∙ all_below (λ (s : Space). s.id) stamp c.args.saved.now.spaces.items low.spaces in
      let z : false ≡ true = sym c.if-not-are_spaces_below.true ∙ c.are_spaces_below.ensures ∙ all in
      absurd (cc)),
)

pub returns-then-not-are_controls_below : goal.returns-then-not-are_controls_below
returns-then-not-are_controls_below c = (
  (λ wrong. absurd (never wrong)),
  (λ low.
      let stamp = c.args.saved.now.stamp in
      let all = ap (list_all (λ (s : Control). nat_lt s.id stamp)) c.deref-2.ensures.value ∙ all_below (λ (s : Control). s.id) stamp c.args.saved.now.controls.items low.controls in
      let z : false ≡ true = sym c.if-not-are_controls_below.true ∙ c.are_controls_below.ensures ∙ all in
      absurd (cc)),
)

pub returns : goal.returns
returns c = (
  (λ h.
      let stamp = c.args.saved.now.stamp in
      record {
        spaces = each_below (λ (s : Space). s.id) stamp c.args.saved.now.spaces.items
            (ap (list_all (λ (s : Space). nat_lt s.id stamp)) (sym c.deref.ensures.value) ∙ sym c.are_spaces_below.ensures ∙ c.if-not-are_spaces_below.false);
        controls = each_below (λ (s : Control). s.id) stamp c.args.saved.now.controls.items
            (ap (list_all (λ (s : Control). nat_lt s.id stamp)) (sym c.deref-2.ensures.value) ∙ sym c.are_controls_below.ensures ∙ c.if-not-are_controls_below.false);
        children = each_below (λ (s : Row). s.children_space) stamp c.args.saved.now.rows (sym c.have_children_below.ensures ∙ h);
        thread_children = λ t i. absurd i;
      }),
  (λ low.
      c.have_children_below.ensures ∙ all_below (λ (s : Row). s.children_space) c.args.saved.now.stamp c.args.saved.now.rows low.children),
)
