use Rattle.std.proofs.Common.{◌∙◌, arith}
use Rattle.std.proofs.lemmas.Grind.{common_steps}
use Rattle.table_text.proofs.Standing.{grown_on, within_kept, parent_within, name_kept, parent_kept, row_told}
use Rattle.table_text.proofs.rows.line_of.Goals as goal

pub returns-in_err-parent-clause-grown : goal.returns-in_err-parent-clause-grown
returns-in_err-parent-clause-grown c = grind (arith, common_steps)

pub parent_place-requires : goal.parent_place-requires
parent_place-requires c = grind (arith, common_steps)

pub returns-clause-grown : goal.returns-clause-grown
returns-clause-grown c =
    grown_on _ _ _ c.in_ok-name.ensures.grown
    (grown_on _ _ _ c.in_ok-parent.ensures.grown (grown_on _ _ _ c.in_ok-group.ensures.grown c.in_ok-session.ensures.grown))

pub returns-in_err-group-clause-grown : goal.returns-in_err-group-clause-grown
returns-in_err-group-clause-grown c = grind (arith, common_steps)

pub place_of-requires : goal.place_of-requires
place_of-requires c = grind (arith, common_steps)

pub returns-in_err-session-clause-grown : goal.returns-in_err-session-clause-grown
returns-in_err-session-clause-grown c = grind (arith, common_steps)

pub returns-clause-within : goal.returns-clause-within
returns-clause-within c =
    let third-last = c.in_ok-session.ensures.grown in
    let second-last = grown_on _ _ _ c.in_ok-group.ensures.grown third-last in
    let first-last = grown_on _ _ _ c.in_ok-parent.ensures.grown second-last in
    record {
      name = within_kept _ _ c.in_ok-name.name first-last c.in_ok-name.ensures.within;
      parent = parent_within _ _ c.in_ok-parent.parent second-last c.in_ok-parent.ensures.within;
      group = within_kept _ _ c.in_ok-group.group third-last c.in_ok-group.ensures.within;
      session = c.in_ok-session.ensures.within;
    }

pub place_of-requires-2 : goal.place_of-requires-2
place_of-requires-2 c = grind (arith, common_steps)

pub returns-clause-row : goal.returns-clause-row
returns-clause-row c =
    let first = c.add_name.new.numbers.items in
    let second = c.parent_place.new.numbers.items in
    let third = c.place_of.new.numbers.items in
    let last = c.place_of-2.new.numbers.items in
    let third-last = c.in_ok-session.ensures.grown in
    let second-last = grown_on second third last c.in_ok-group.ensures.grown third-last in
    let first-last = grown_on first second last c.in_ok-parent.ensures.grown second-last in
    row_told c.args.row.now _ _ _ _
    (name_kept first last c.in_ok-name.name first-last c.in_ok-name.ensures.within ∙ c.in_ok-name.ensures.named)
    (parent_kept second last c.in_ok-parent.parent second-last c.in_ok-parent.ensures.within ∙ c.in_ok-parent.ensures.named)
    (name_kept third last c.in_ok-group.group third-last c.in_ok-group.ensures.within ∙ c.in_ok-group.ensures.named)
    c.in_ok-session.ensures.named
