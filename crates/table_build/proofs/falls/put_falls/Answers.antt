use Rattle.std.proofs.Common.{◌≡◌, ℕ, Bool, List, refl, ap, ◌∙◌, option_map, arith}
use Rattle.pid_numbers.specs.Numbering.{namespace_at}
use Rattle.pid_numbers.specs.Restore.{is_flagged, fallen_if}
use Rattle.table_build.proofs.Steps.{row-same, state-rows}
use Rattle.table_build.proofs.SpaceFalls.{fell-ids, fell-paths, spaces-fell}
use Rattle.std.proofs.Common.{sym, subst}
use Rattle.pid_numbers.specs.Restore.{MayFall}
use Rattle.table_text.specs.Reading.{saved_state}
use Rattle.task_table.proofs.Results.{if_err}
use Rattle.table_build.specs.Bare.{MayHaveFalls}
use Rattle.table_build.proofs.Falling.{may-fall, may-have}
use Rattle.table_build.proofs.falls.put_falls.Goals as goal

fell : (c : goal.After-drop-flags-2) → (s : ℕ) → namespace_at c.set_fallen.new.self.numbering s ≡ option_map (fallen_if (is_flagged c.in_ok-flags.flags.items s)) (namespace_at c.args.store.now.numbering s)
fell c s = c.set_fallen.ensures.namespaces s ∙ ap (λ (l : List Bool). option_map (fallen_if (is_flagged l s)) (namespace_at c.args.store.now.numbering s)) c.deref-2.ensures.value

pub returns-clause-listed : goal.returns-clause-listed
returns-clause-listed c =
    spaces-fell c.args.store.now.numbering c.set_fallen.new.self.numbering c.laws.ensures.numbering c.args.saved.now.spaces.items c.in_ok-flags.flags.items c.requires.listed c.in_ok-flags.ensures.flagged
    c.set_fallen.ensures.order (fell c)

pub returns-clause-rest : goal.returns-clause-rest
returns-clause-rest c = grind arith

pub returns-clause-rows : goal.returns-clause-rows
returns-clause-rows c =
    let s = c.args.store.now in
    let t = c.set_fallen.new.self in
    let f = c.set_fallen.ensures in
    let flags = c.in_ok-flags.flags.items in
    state-rows s t f.bound f.names (fell-paths s.numbering t.numbering c.laws.ensures.numbering c.args.saved.now.spaces.items flags c.requires.listed c.in_ok-flags.ensures.flagged f.order (fell c))
    (row-same s t (fell-ids s.numbering t.numbering c.laws.ensures.numbering c.args.saved.now.spaces.items flags c.requires.listed c.in_ok-flags.ensures.flagged f.order (fell c)) f.names
    (ap (λ x. x.tree) f.rest) (ap (λ x. x.members) f.rest) (ap (λ x. x.charges) f.rest))

pub returns-in_err-check_falls-clause-refused : goal.returns-in_err-check_falls-clause-refused
returns-in_err-check_falls-clause-refused c =
    let flags = c.in_ok-flags.flags.items in
    if_err c.from_residual-in_err-check_falls.result _ c.in_err-check_falls.field-0.0 c.from_residual-in_err-check_falls.ensures.1 (λ not sound rows.
    c.in_err-check_falls.ensures.refused (subst (λ (l : List Bool). MayHaveFalls c.args.store.now.numbering l c.args.saved.now.spaces.items) (sym c.deref.ensures.value)
    (may-have c.args.store.now c.laws.ensures (saved_state c.args.saved.now) sound c.requires.listed rows refl flags c.in_ok-flags.ensures.flagged)))

pub set_fallen-requires-clause-may : goal.set_fallen-requires-clause-may
set_fallen-requires-clause-may c =
    let flags = c.in_ok-flags.flags.items in
    subst (λ (l : List Bool). MayFall c.args.store.now.numbering l) (sym c.deref-2.ensures.value)
    (may-fall c.args.store.now.numbering c.laws.ensures.numbering c.args.saved.now.spaces.items c.requires.listed flags c.in_ok-flags.ensures.flagged
    (subst (λ (l : List Bool). MayHaveFalls c.args.store.now.numbering l c.args.saved.now.spaces.items) c.deref.ensures.value c.in_ok-check_falls.ensures.may))

pub returns-in_err-flags-clause-refused : goal.returns-in_err-flags-clause-refused
returns-in_err-flags-clause-refused c = if_err c.from_residual.result _ c.in_err-flags.field-0.0 c.from_residual.ensures.1 (λ not sound rows. c.in_err-flags.ensures.refused not c.requires.listed)
