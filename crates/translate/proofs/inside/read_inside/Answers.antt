use Rattle.std.proofs.Common.{◌∙◌, ap, subst, option_map, Option, Some, Vec, Global, ℕ}
use Rattle.task_table.specs.View.{state_of}
use Rattle.translate.specs.Inside.{ids_inside, AreGatheredFrom}
use Rattle.translate.specs.Pages.{with_front}
use Rattle.translate.proofs.Inner.{told-some, told-none}
use Rattle.translate.proofs.inside.read_inside.Goals as goal

pub returns-clause-told : goal.returns-clause-told
returns-clause-told c =
    let numbers = ids_inside (state_of c.args.store.now) c.args.inside.now in
    let gathered = subst (λ (o : Option (Vec ℕ Global)). AreGatheredFrom numbers c.args.inside.now.from (option_map (λ v. v.items) o)) c.in-Some.is c.in_ok-found.ensures in
    told-some numbers c.args.inside.now.from c.in-Some.ids.items c.sort.new.self.items c.cut.new.listed.items c.args.room.now c.put_front.new.room _ gathered
    c.sort.ensures.permutation c.in_ok-sort.ensures.sorted c.cut.ensures
    (c.put_front.ensures ∙ ap (λ ids. with_front ids c.args.room.now) c.deref.ensures.value) (ap Some (c.len.ensures ∙ c.cut.new.listed.ok.0))

pub returns-in_default-clause-told : goal.returns-in_default-clause-told
returns-in_default-clause-told c =
    let numbers = ids_inside (state_of c.args.store.now) c.args.inside.now in
    told-none numbers c.args.inside.now.from c.args.room.now
    (subst (λ (o : Option (Vec ℕ Global)). AreGatheredFrom numbers c.args.inside.now.from (option_map (λ v. v.items) o)) c.in_default.is c.in_ok-found.ensures)
