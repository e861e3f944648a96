use Rattle.std.proofs.Common.{◌≡◌, Option, ◌∷◌, [], length, length-append, sym, ap, subst, ◌∙◌, arith}
use Rattle.std.proofs.lemmas.List.{take-append-le}
use Rattle.std.specs.Prelude.{take}
use Rattle.pid_types.specs.declared.entry.Entry.{Entry}
use Rattle.pid_types.specs.Step.{step}
use Rattle.kept_past.specs.Opening.{Held}
use Rattle.kept_past.specs.Past.{IsCaughtUp, Past, Waiting, caught_up, first_starves}
use Rattle.kept_past.proofs.history.History.enter_query.Goals as goal

-- an entry more, and what is held as it was
pub invariant_of-self : goal.invariant_of-self
invariant_of-self c =
    let entry : Entry = record { worker = c.args.worker; call = c.args.query; reply = (step c.args.table.now 0 c.args.query).reply } in
    record {
      within = omega (arith, c.self.invariant.within, ap length (c.enter_answer.ensures.ring 0), length-append c.self.inside.ring.entries (entry ∷ []));
      bare = λ none. absurd (c.requires.begun (sym (ap (λ (p : Past). p.opening) (c.self.view_is ∙ c.catch_up_some.ensures.same))
          ∙ ap (λ (held : Option Held). caught_up held c.self.inside.stamp (take c.self.inside.lag c.self.inside.ring.entries)) none));
      goes_on = c.self.invariant.goes_on;
      fixed = c.self.invariant.fixed;
    }

-- the entry comes after those that wait
pub returns-clause-moved : goal.returns-clause-moved
returns-clause-moved c =
    let entry : Entry = record { worker = c.args.worker; call = c.args.query; reply = (step c.args.table.now 0 c.args.query).reply } in
    let lag = c.self.inside.lag in
    let old = c.self.inside.ring.entries in
    let same : take lag c.enter_answer.new.ring.entries ≡ take lag old = ap (take lag) (c.enter_answer.ensures.ring 0) ∙ take-append-le lag old (entry ∷ []) c.self.invariant.within in
    subst (IsCaughtUp 2 c.args.self.now.waits)
    (sym (ap (λ (p : Past). p.waits) c.self.view_is) ∙ ap (λ es. let w : Waiting = record { many = lag; may_starve = first_starves c.self.inside.held es } in w) (sym same))
    c.catch_up_some.ensures.moved
