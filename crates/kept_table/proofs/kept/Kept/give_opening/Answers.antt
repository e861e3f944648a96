use Rattle.std.proofs.Common.{◌≡◌, ◌∙◌, ap, sym, true}
use Rattle.kept_table.specs.Chronicle.{Chronicle}
use Rattle.kept_past.specs.Past.{Past, opening_of}
use Rattle.kept_table.specs.Whole.{memory_of}
use Rattle.kept_table.proofs.Cuts.{none_or_same, whole-given}
use Rattle.kept_table.proofs.kept.Kept.give_opening.Goals as goal

pub give-requires-clause-same : goal.give-requires-clause-same
give-requires-clause-same c = none_or_same _ _ _ (c.requires ∙ sym (ap (λ (t : Chronicle). t.opening) c.self.view_is))

pub invariant_of-self : goal.invariant_of-self
invariant_of-self c =
    let same : c.args.opening ≡ opening_of c.self.inside.history.opening c.self.inside.table = c.requires ∙ sym (ap (λ (t : Chronicle). t.opening) c.self.view_is) in
    (whole-given c.self.inside.history c.give.new.self _ _ _ _ _ _ _ c.self.invariant same c.give.ensures).0

pub returns-clause-given : goal.returns-clause-given
returns-clause-given c =
    let same : c.args.opening ≡ opening_of c.self.inside.history.opening c.self.inside.table = c.requires ∙ sym (ap (λ (t : Chronicle). t.opening) c.self.view_is) in
    (whole-given c.self.inside.history c.give.new.self _ _ _ _ _ _ _ c.self.invariant same c.give.ensures).1
    ∙ ap (λ (t : Chronicle). record t { memory = memory_of c.give.new.self.opening c.give.new.self.room c.give.new.self.waits; by_steps = true }) c.self.view_is

pub returns-clause-waits : goal.returns-clause-waits
returns-clause-waits c = ap (λ (p : Past). p.waits) c.give.ensures ∙ ap (λ (t : Chronicle). t.memory.waits) c.self.view_is
