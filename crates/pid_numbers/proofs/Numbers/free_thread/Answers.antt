-- Nothing uses the identifier, and so it goes as after a last use
use Rattle.std.proofs.Common.{arith}
use Rattle.pid_numbers.proofs.Words.{◌≡◌, ◌∙◌, IsSome, Option, ap, option_map, refl, rules, sym, true, Identifier, is_thread, identifier_of}
use Rattle.pid_numbers.proofs.Views as views
use Rattle.pid_numbers.proofs.Gone.{IsGone}
use Rattle.pid_numbers.proofs.Gone as goes
use Rattle.pid_numbers.proofs.Numbers.free_thread.Goals as goal
use Rattle.pid_numbers.proofs.Numbers.free_thread.Goals.{After-as_slice}

-- one that is a thread's is there
there : (o : Option Identifier) → is_thread o ≡ true → IsSome o
there o e = grind arith

pub remove-gone-requires : goal.remove-gone-requires
remove-gone-requires c = there _ (ap is_thread (sym (views.identifier_is c.self.inside c.self.view_is c.args.ident)) ∙ c.requires)

gone : (c : After-as_slice) → IsGone c.self.inside.pid_max c.self.inside.tree c.self.inside.ids.items c.self.inside.idents c.remove-gone.new.self c.args.ident c.remove-gone.result.space c.as_slice.result.now
gone c = record {
  kept = c.self.invariant;
  identifier = identifier_of c.remove-gone.result;
  was = ap (option_map identifier_of) c.remove-gone.ensures.value;
  home = refl;
  path = c.as_slice.ensures;
  now = ap (option_map identifier_of) c.remove-gone.ensures.updates.changed;
  others = λ j m. ap (option_map identifier_of) (c.remove-gone.ensures.updates.others j m);
}

pub free_numbers-requires : goal.free_numbers-requires
free_numbers-requires c =
    let g = gone (goal.at.free_numbers-requires c).After-as_slice in
    record { there = goes.path-in g; distinct = goes.path-distinct g; len = goes.path-length g; around = goes.dead-around g }

pub invariant_of-self : goal.invariant_of-self
invariant_of-self c =
    goes.kept-left (gone (goal.at.invariant_of-self c).After-as_slice) c.free_numbers.new.ids.items c.free_numbers.ensures.freed c.free_numbers.new.tree c.free_numbers.ensures.swept

pub returns : goal.returns
returns c =
    let max = c.self.inside.pid_max in
    let tree = c.free_numbers.new.tree in
    let ids = c.free_numbers.new.ids.items in
    let idents = c.remove-gone.new.self in
    let free = c.free_numbers.ensures in
    let g = gone (goal.at.returns c).After-as_slice in
    record {
      here = views.name_is max tree ids idents c.args.ident ∙ g.now;
      others = λ j m. views.name_is max tree ids idents j ∙ g.others j m ∙ sym (views.identifier_is c.self.inside c.self.view_is j);
      namespaces = goes.namespaces-left g ids free.freed tree free.swept _ c.self.view_is;
      order = goes.order-left g ids free.freed tree free.swept _ c.self.view_is;
      pid_max = search rules;
    }
