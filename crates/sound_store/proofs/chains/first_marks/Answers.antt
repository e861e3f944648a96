use Rattle.std.proofs.Common.{◌≡◌, ◌<◌, ◌∙◌, List, Bool, true, length, is_some, sym, ap, subst, arith, rules}
use Rattle.std.proofs.lemmas.Grind.{common_steps}
use Rattle.std.specs.Prelude.{slice_set}
use Rattle.task_table.proofs.Changes.{in_range}
use Rattle.sound_store.proofs.Marks.{marked-one}
use Rattle.sound_store.specs.Ways.{AreReached}
use Rattle.sound_store.proofs.chains.first_marks.Goals as goal

pub index_mut-requires : goal.index_mut-requires
index_mut-requires c = grind (arith, common_steps)

pub returns : goal.returns
returns c =
    let s = c.args.store.now in
    let init = c.in-Some.init in
    let items = c.in_ok-known.ensures.items_if_clones_equal (search rules) in
    let room : c.keys.result ≡ length s.tree.tasks = c.keys.ensures ∙ ap (λ t. length t.tasks) c.tree.ensures in
    let inside = in_range s.tree.tasks init.key (ap is_some c.in-Some.ensures.there.0) in
    subst (λ (l : List Bool). AreReached s (slice_set l init.key true)) (sym items)
    (marked-one s c.laws.ensures c.keys.result init.key room (let h : init.key < c.keys.result = omega (arith, inside, room) in h) c.in-Some.ensures.there.1)
