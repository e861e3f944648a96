use Rattle.std.specs.Prelude.{IfSome}
use Rattle.std.proofs.Common.{◌≡◌, ◌-◌, Some, sym, ap, ◌∙◌, subst, length, slice_get, rules}
use Rattle.kept_past.specs.Past.{Past}
use Rattle.pid_types.specs.Short.{list_reply}
use Rattle.kept_past.specs.Stored.{replies_of}
use Rattle.kept_past.proofs.Places.{if_some-then, kept-last}
use Rattle.kept_past.proofs.history.History.last_list.Goals as goal

pub returns-clause-list : goal.returns-clause-list
returns-clause-list c =
    let same = kept-last c.self.inside.ring.entries c.self.inside.lag (search rules) in
    subst (λ (p : Past). IfSome c.last_list.result (λ list. slice_get (replies_of p.entries) (length p.entries - 1) ≡ Some (list_reply list.now))) c.self.view_is
    (if_some-then c.last_list.result (λ list is. same ∙ is) c.last_list.ensures.list)

pub returns-clause-all : goal.returns-clause-all
returns-clause-all c list is =
    let same = kept-last c.self.inside.ring.entries c.self.inside.lag (search rules) in
    c.last_list.ensures.all list (sym same ∙ (ap (λ (p : Past). slice_get (replies_of p.entries) (length p.entries - 1)) c.self.view_is ∙ is))
