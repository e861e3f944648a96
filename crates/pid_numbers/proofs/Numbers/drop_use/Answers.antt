-- Only the last use of all frees numbers; a namespace loses its last one then, if at all, and so only those on the path can be dropped
use Rattle.pid_numbers.proofs.Words.{Bool, IsSome, List, None, Option, Some, ap, arith, false, if◌then◌else◌, option_map, refl, rules, subst, sym}
use Rattle.pid_numbers.proofs.Words.{true, ℕ, ◌-◌, ◌∙◌, ◌≡◌, filter, Ids, distinct-path, AreListed, TreeOfSpaces, id_in, node_in, way, Identifier}
use Rattle.pid_numbers.proofs.Words.{Numbering, is_there, is_used, is_used_as, less, left_of, uses, numbering_of}
use Rattle.pid_numbers.proofs.Words.{Table, identifier_of, ident_at}
use Rattle.ns_tree.proofs.Orders as orders
use Rattle.ns_tree.proofs.Paths as paths
use Rattle.pid_numbers.proofs.Views as views
use Rattle.pid_numbers.proofs.Uses.{IsRecounted}
use Rattle.pid_numbers.proofs.Uses as uses
use Rattle.pid_numbers.proofs.Drops as drops
use Rattle.pid_numbers.proofs.Gone.{IsGone}
use Rattle.pid_numbers.proofs.Gone as goes
use Rattle.pid_numbers.proofs.Numbers.drop_use.Goals as goal
use Rattle.pid_numbers.proofs.Numbers.drop_use.Goals.{After-less_use, After-as_slice}

-- one use less
recounted : (c : After-less_use) → IsRecounted c.self.inside.idents c.less_use.new.self c.args.ident c.args.kind
recounted c =
    let v = views.used c.args.kind (ident_at c.self.inside.idents c.args.ident)
    (ap (is_used_as c.args.kind) (sym (views.identifier_is c.self.inside c.self.view_is c.args.ident)) ∙ c.requires) in
    record { identifier = v.0; count = uses c.args.kind v.0 - 1; was = v.1; now = c.less_use.ensures.here v.0 v.1; others = c.less_use.ensures.others }

pub less_use-requires : goal.less_use-requires
less_use-requires c = ap (is_used_as c.args.kind) (sym (views.identifier_is c.self.inside c.self.view_is c.args.ident)) ∙ c.requires

pub has_use_at-requires : goal.has_use_at-requires
has_use_at-requires c = let r = recounted (goal.at.has_use_at-requires c).After-less_use in subst IsSome (sym r.now) refl

pub invariant_of-self : goal.invariant_of-self
invariant_of-self c =
    uses.counted c.self.invariant (recounted (goal.at.invariant_of-self c).After-less_use)
    (sym c.has_use_at.ensures ∙ c.if-has_use_at.true
    ∙ sym (ap (is_used_as c.args.kind) (sym (views.identifier_is c.self.inside c.self.view_is c.args.ident)) ∙ c.requires))

pub mark_numbers-requires : goal.mark_numbers-requires
mark_numbers-requires c =
    let b = c.self.invariant.whole.numbering in
    record {
      there = views.path_in c.self.inside.pid_max c.self.inside.tree c.self.inside.ids.items c.self.inside.idents b c.self.invariant.count;
      distinct = λ s. paths.distinct-path (way c.self.inside.tree.nodes) (way c.self.inside.tree.nodes s) (b.tree.paths s);
      full = uses.full c.self.invariant (recounted (goal.at.mark_numbers-requires c).After-less_use);
    }

pub invariant_of-self-then-in_use_at : goal.invariant_of-self-then-in_use_at
invariant_of-self-then-in_use_at c =
    uses.marked c.self.invariant (recounted (goal.at.invariant_of-self-then-in_use_at c).After-less_use) false c.mark_numbers.new.ids.items (sym c.has_use_at.ensures ∙ c.if-has_use_at.false)
    c.mark_numbers.ensures.count c.mark_numbers.ensures.bound c.mark_numbers.ensures.entries

pub in_use_at-requires : goal.in_use_at-requires
in_use_at-requires c = let r = recounted (goal.at.in_use_at-requires c).After-less_use in subst IsSome (sym r.now) refl

pub remove-gone-requires : goal.remove-gone-requires
remove-gone-requires c = let r = recounted (goal.at.remove-gone-requires c).After-less_use in subst IsSome (sym r.now) refl

-- where the last use went the identifier is gone
gone : (c : After-as_slice) → IsRecounted c.self.inside.idents c.less_use.new.self c.args.ident c.args.kind → IsGone c.self.inside.pid_max c.self.inside.tree c.self.inside.ids.items c.self.inside.idents c.remove-gone.new.self c.args.ident c.remove-gone.result.space c.as_slice.result.now
gone c r =
    let p = uses.same_path c.self.invariant r (identifier_of c.remove-gone.result) (ap (option_map identifier_of) c.remove-gone.ensures.value) in
    record {
      kept = c.self.invariant;
      identifier = r.identifier;
      was = r.was;
      home = p.0;
      path = c.as_slice.ensures ∙ p.1;
      now = ap (option_map identifier_of) c.remove-gone.ensures.updates.changed;
      others = λ j m. ap (option_map identifier_of) (c.remove-gone.ensures.updates.others j m) ∙ c.less_use.ensures.others j m;
    }

pub free_numbers-requires : goal.free_numbers-requires
free_numbers-requires c =
    let g = gone (goal.at.free_numbers-requires c).After-as_slice (recounted (goal.at.free_numbers-requires c).After-less_use) in
    record { there = goes.path-in g; distinct = goes.path-distinct g; len = goes.path-length g; around = goes.dead-around g }

pub invariant_of-self-2 : goal.invariant_of-self-2
invariant_of-self-2 c =
    let g = gone (goal.at.invariant_of-self-2 c).After-as_slice (recounted (goal.at.invariant_of-self-2 c).After-less_use) in
    goes.kept-left g c.free_numbers.new.ids.items c.free_numbers.ensures.freed c.free_numbers.new.tree c.free_numbers.ensures.swept

-- the order where no namespace goes
same_order : (pid_max : ℕ) (tree : TreeOfSpaces) (ids : List (Ids ℕ)) (idents : Table) → AreListed (id_in tree.nodes) tree.order → (b : Numbering)
    → tree.order ≡ b.order → tree.order ≡ filter (λ p. is_there (numbering_of pid_max tree ids idents) p.1) b.order
same_order pid_max tree ids idents l b is =
    sym (orders.all-there (id_in tree.nodes) (id_in tree.nodes) tree.order l (λ s. is_there (numbering_of pid_max tree ids idents) s)
    (λ s i e. views.there_is pid_max tree ids idents s ∙ orders.id-there (node_in tree.nodes s) i e))
    ∙ ap (filter (λ p. is_there (numbering_of pid_max tree ids idents) p.1)) is

-- what is left of it
left_as : (o : Option Identifier) (u : Identifier) (on : Bool) → o ≡ Some u → is_used u ≡ on → (if on then o else None) ≡ left_of u
left_as o u on now used = grind arith

pub returns-then-has_use_at : goal.returns-then-has_use_at
returns-then-has_use_at c =
    let whole = (invariant_of-self c).whole in
    let max = c.self.inside.pid_max in
    let tree = c.self.inside.tree in
    let ids = c.self.inside.ids.items in
    record {
      here = λ u is.
          let now = c.less_use.ensures.here u (sym (views.identifier_is c.self.inside c.self.view_is c.args.ident) ∙ is) in
          let still = views.used_some c.args.kind (less c.args.kind u) (ap (is_used_as c.args.kind) (sym now) ∙ sym c.has_use_at.ensures ∙ c.if-has_use_at.true) in
          views.name_is max tree ids c.less_use.new.self c.args.ident ∙ left_as _ (less c.args.kind u) true now still;
      others = λ j m. views.name_is max tree ids c.less_use.new.self j ∙ c.less_use.ensures.others j m
          ∙ sym (views.identifier_is c.self.inside c.self.view_is j);
      namespaces = λ s.
          drops.nothing-dead max tree ids c.less_use.new.self whole.numbering whole.fallen s
          ∙ goes.swept_from max tree ids ids c.self.inside.idents c.less_use.new.self _ c.self.view_is (λ s. refl) s;
      order = same_order max tree ids c.less_use.new.self c.self.invariant.listed c.args.self.now (ap (λ b. b.order) c.self.view_is);
      pid_max = search rules;
    }

pub returns-then-in_use_at : goal.returns-then-in_use_at
returns-then-in_use_at c =
    let whole = (invariant_of-self-then-in_use_at c).whole in
    let max = c.self.inside.pid_max in
    let tree = c.self.inside.tree in
    let ids = c.mark_numbers.new.ids.items in
    record {
      here = λ u is.
          let now = c.less_use.ensures.here u (sym (views.identifier_is c.self.inside c.self.view_is c.args.ident) ∙ is) in
          views.name_is max tree ids c.less_use.new.self c.args.ident
          ∙ left_as _ (less c.args.kind u) true now (sym (c.in_use_at.ensures (less c.args.kind u) now) ∙ c.if-in_use_at.true);
      others = λ j m. views.name_is max tree ids c.less_use.new.self j ∙ c.less_use.ensures.others j m
          ∙ sym (views.identifier_is c.self.inside c.self.view_is j);
      namespaces = λ s.
          drops.nothing-dead max tree ids c.less_use.new.self whole.numbering whole.fallen s
          ∙ goes.swept_from max tree c.self.inside.ids.items ids c.self.inside.idents c.less_use.new.self _ c.self.view_is c.mark_numbers.ensures.cursors s;
      order = same_order max tree ids c.less_use.new.self c.self.invariant.listed c.args.self.now (ap (λ b. b.order) c.self.view_is);
      pid_max = search rules;
    }

pub returns : goal.returns
returns c =
    let max = c.self.inside.pid_max in
    let tree = c.free_numbers.new.tree in
    let ids = c.free_numbers.new.ids.items in
    let idents = c.remove-gone.new.self in
    let free = c.free_numbers.ensures in
    let g = gone (goal.at.returns c).After-as_slice (recounted (goal.at.returns c).After-less_use) in
    record {
      here = λ u is.
          let now = c.less_use.ensures.here u (sym (views.identifier_is c.self.inside c.self.view_is c.args.ident) ∙ is) in
          views.name_is max tree ids idents c.args.ident ∙ g.now
          ∙ left_as _ (less c.args.kind u) false now (sym (c.in_use_at.ensures (less c.args.kind u) now) ∙ c.if-in_use_at.false);
      others = λ j m. views.name_is max tree ids idents j ∙ g.others j m ∙ sym (views.identifier_is c.self.inside c.self.view_is j);
      namespaces = goes.namespaces-left g ids free.freed tree free.swept _ c.self.view_is;
      order = goes.order-left g ids free.freed tree free.swept _ c.self.view_is;
      pid_max = search rules;
    }
