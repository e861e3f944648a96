-- The marks along the path are those of the uses: they change with the first use of a kind alone
use Rattle.std.proofs.Common.{arith}
use Rattle.std.proofs.lemmas.Grind.{common_steps}
use Rattle.pid_numbers.proofs.Words.{◌≡◌, ◌∙◌, ◌+◌, sym, ap, subst, Some, true, IsSome, way, Identifier, uses, is_used_as, ident_at}
use Rattle.ns_tree.proofs.Paths as paths
use Rattle.pid_numbers.proofs.Views as views
use Rattle.pid_numbers.proofs.Uses.{IsRecounted}
use Rattle.pid_numbers.proofs.Uses as uses
use Rattle.pid_numbers.proofs.Numbers.add_use.Goals as goal
use Rattle.pid_numbers.proofs.Numbers.add_use.Goals.{After-more_use}

-- one use more
found : (c : After-more_use) → (v : Identifier) × (ident_at c.self.inside.idents c.args.ident ≡ Some v)
found c = views.held (ident_at c.self.inside.idents c.args.ident) (subst IsSome (views.identifier_is c.self.inside c.self.view_is c.args.ident) c.requires.there)

recounted : (c : After-more_use) → IsRecounted c.self.inside.idents c.more_use.new.self c.args.ident c.args.kind
recounted c = let v = found c in record { identifier = v.0; count = uses c.args.kind v.0 + 1; was = v.1; now = c.more_use.ensures.here v.0 v.1; others = c.more_use.ensures.others }

-- so there is one
used : (c : After-more_use) → is_used_as c.args.kind (ident_at c.more_use.new.self c.args.ident) ≡ true
used c = let v = found c in ap (is_used_as c.args.kind) (c.more_use.ensures.here v.0 v.1) ∙ views.more_used c.args.kind v.0

pub has_use_at-had-requires : goal.has_use_at-had-requires
has_use_at-had-requires c = subst IsSome (views.identifier_is c.self.inside c.self.view_is c.args.ident) c.requires.there

pub returns-then-had-clause-here : goal.returns-then-had-clause-here
returns-then-had-clause-here c = grind (arith, common_steps)

pub invariant_of-self : goal.invariant_of-self
invariant_of-self c =
    let m = (goal.at.invariant_of-self c).After-more_use in
    uses.counted c.self.invariant (recounted m) (used m ∙ sym (sym c.has_use_at-had.ensures ∙ c.if-had.true))

pub more_use-requires-clause-there : goal.more_use-requires-clause-there
more_use-requires-clause-there c = grind (arith, common_steps)

pub returns-then-had-clause-others : goal.returns-then-had-clause-others
returns-then-had-clause-others c j m =
    views.name_is c.self.inside.pid_max c.self.inside.tree c.self.inside.ids.items c.more_use.new.self j ∙ c.more_use.ensures.others j m
    ∙ sym (views.identifier_is c.self.inside c.self.view_is j)

pub mark_numbers-requires : goal.mark_numbers-requires
mark_numbers-requires c =
    let b = c.self.invariant.whole.numbering in
    record {
      there = views.path_in c.self.inside.pid_max c.self.inside.tree c.self.inside.ids.items c.self.inside.idents b c.self.invariant.count;
      distinct = λ s. paths.distinct-path (way c.self.inside.tree.nodes) (way c.self.inside.tree.nodes s) (b.tree.paths s);
      full = uses.full c.self.invariant (recounted (goal.at.mark_numbers-requires c).After-more_use);
    }

pub invariant_of-self-2 : goal.invariant_of-self-2
invariant_of-self-2 c =
    let m = (goal.at.invariant_of-self-2 c).After-more_use in
    uses.marked c.self.invariant (recounted m) true c.mark_numbers.new.ids.items (used m)
    c.mark_numbers.ensures.count c.mark_numbers.ensures.bound c.mark_numbers.ensures.entries

pub returns-clause-others : goal.returns-clause-others
returns-clause-others c j m =
    views.name_is c.self.inside.pid_max c.self.inside.tree c.mark_numbers.new.ids.items c.more_use.new.self j ∙ c.more_use.ensures.others j m
    ∙ sym (views.identifier_is c.self.inside c.self.view_is j)

pub returns-clause-here : goal.returns-clause-here
returns-clause-here c = grind (arith, common_steps)
