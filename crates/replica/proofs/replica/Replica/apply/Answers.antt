use Rattle.std.proofs.Common.{refl, sym, ap, inr, subst, ◌∙◌}
use Rattle.replica.specs.Told.{told_entry}
use Rattle.replica.specs.Replicas.{Replica, replica_of}
use Rattle.replica.specs.Applied.{IsLookedAt, IsNext, Refuses}
use Rattle.replica.proofs.Checked.{applies, at_odds, looked_at, stopped}
use Rattle.replica.proofs.Heads.{failed}
use Rattle.replica.proofs.Turns.{entered_front}
use Rattle.replica.proofs.replica.Replica.apply.Goals as goal

pub returns-in_default-clause-err : goal.returns-in_default-clause-err
returns-in_default-clause-err c = (
  looked_at c.args.position c.args.table.now _ _ c.self.view_is c.if-self.false c.if-position-self.false,
  c.in_default.ensures.err,
  record { replica = refl; answers = refl },
)

pub returns-then-not-admits-clause-err : goal.returns-then-not-admits-clause-err
returns-then-not-admits-clause-err c =
    let read = c.in-Ok.ensures.ok in (
      looked_at c.args.position c.args.table.now _ _ c.self.view_is c.if-self.false c.if-position-self.false,
      (told_entry c.in-Ok.entry, read.0, read.1, sym c.if-not-admits.ensures),
      record { replica = refl; answers = refl },
    )

pub returns-in-Err-clause-err : goal.returns-in-Err-clause-err
returns-in-Err-clause-err c =
    let old = replica_of c.args.self.now c.args.table.now in
    let read = c.in-Ok.ensures.ok in
    let looked : IsLookedAt c.args.position old = looked_at c.args.position c.args.table.now _ _ c.self.view_is c.if-self.false c.if-position-self.false in
    at_odds c.args.position c.args.bytes.now old c.args.answers.now.items (told_entry c.in-Ok.entry) c.in-Err.fault looked read.0 read.1 (sym c.if-not-admits.ensures)
    (sym c.check.ensures ∙ c.in-Err.is)

pub returns-in_err-outcome-clause-err : goal.returns-in_err-outcome-clause-err
returns-in_err-outcome-clause-err c =
    let old = replica_of c.args.self.now c.args.table.now in
    let new = replica_of c.enter.new.self c.enter.new.table in
    let before = c.args.answers.now.items in
    let after = c.enter.new.answers.items in
    let read = c.in-Ok.ensures.ok in
    let next : IsNext c.args.position c.args.bytes.now old (told_entry c.in-Ok.entry) = record {
      good = read.0;
      text = read.1;
      looked = looked_at c.args.position c.args.table.now _ _ c.self.view_is c.if-self.false c.if-position-self.false;
      comes = sym c.if-not-admits.ensures;
      agrees = sym c.check.ensures ∙ c.in_default-check.is;
    } in
    failed (Refuses c.args.position c.args.bytes.now old before new after) c.from_residual.result c.in_err-outcome.field-0.0 c.from_residual.ensures.1
    (stopped c.args.position c.args.bytes.now old before new after (told_entry c.in-Ok.entry) c.in_err-outcome.field-0.0 next c.in_err-outcome.ensures.err)

pub returns-in_err-keep-clause-err : goal.returns-in_err-keep-clause-err
returns-in_err-keep-clause-err c =
    let old = replica_of c.args.self.now c.args.table.now in
    let new = replica_of c.keep.new.self c.enter.new.table in
    let before = c.args.answers.now.items in
    let after = c.enter.new.answers.items in
    let read = c.in-Ok.ensures.ok in
    let next : IsNext c.args.position c.args.bytes.now old (told_entry c.in-Ok.entry) = record {
      good = read.0;
      text = read.1;
      looked = looked_at c.args.position c.args.table.now _ _ c.self.view_is c.if-self.false c.if-position-self.false;
      comes = sym c.if-not-admits.ensures;
      agrees = sym c.check.ensures ∙ c.in_default-check.is;
    } in
    failed (Refuses c.args.position c.args.bytes.now old before new after) c.from_residual-in_err-keep.result c.in_err-keep.field-0.0 c.from_residual-in_err-keep.ensures.1
    (subst (Refuses c.args.position c.args.bytes.now old before new after) (sym c.in_err-keep.ensures.fault)
    (inr (c.in_err-keep.ensures.torn, (told_entry c.in-Ok.entry, next, entered_front c.args.position old (told_entry c.in-Ok.entry) c.enter.new.table (ap (λ (r : Replica). r.table) c.in_ok-outcome.ensures.ok.made)))))

pub returns-clause-ok : goal.returns-clause-ok
returns-clause-ok c =
    let old = replica_of c.args.self.now c.args.table.now in
    let read = c.in-Ok.ensures.ok in
    let next : IsNext c.args.position c.args.bytes.now old (told_entry c.in-Ok.entry) = record {
      good = read.0;
      text = read.1;
      looked = looked_at c.args.position c.args.table.now _ _ c.self.view_is c.if-self.false c.if-position-self.false;
      comes = sym c.if-not-admits.ensures;
      agrees = sym c.check.ensures ∙ c.in_default-check.is;
    } in
    applies c.args.position c.args.bytes.now old c.args.answers.now.items (told_entry c.in-Ok.entry) c.enter.new.self c.keep.new.self c.enter.new.table
    c.in_ok-outcome.outcome c.applied_of.result c.enter.new.answers.items next c.in_ok-outcome.ensures.ok c.in_ok-keep.ensures.ok c.applied_of.ensures
