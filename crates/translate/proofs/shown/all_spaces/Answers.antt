use Rattle.std.proofs.Common.{◌∙◌, ◌++◌, ◌∷◌, [], sym, ap, map, append_assoc, append-nil}
use Rattle.pid_numbers.specs.Numbering.{Numbering}
use Rattle.task_table.specs.View.{space_of}
use Rattle.translate.proofs.shown.all_spaces.Goals as goal

pub loop-id-init : goal.loop-id-init
loop-id-init c =
    let shown = space_of c.args.store.now.numbering in
    ap (λ items. items ++ map shown c.into_iter-id-iterator.result) c.new-spaces.ensures.items
    ∙ ap (map shown) (c.into_iter-id-iterator.ensures.into_iter_gives ∙ c.keys-id-items.ensures ∙ ap (λ (b : Numbering). b.order) c.numbers-2.ensures)

pub loop-id-preserved : goal.loop-id-preserved
loop-id-preserved c =
    let shown = space_of c.args.store.now.numbering in
    ap (λ items. items ++ map shown c.next.new.self) c.in_ok-push.ensures.items
    ∙ append_assoc c.loop-id.spaces.items (c.space_row.result ∷ []) (map shown c.next.new.self)
    ∙ ap (λ s. c.loop-id.spaces.items ++ s ∷ map shown c.next.new.self) c.space_row.ensures
    ∙ ap (λ it. c.loop-id.spaces.items ++ map shown it) (sym c.in-Some.ensures.steps) ∙ c.loop-id.invariant

pub returns : goal.returns
returns c =
    sym (append-nil c.loop-id.spaces.items) ∙ ap (λ it. c.loop-id.spaces.items ++ map (space_of c.args.store.now.numbering) it) (sym c.in-None.ensures.steps.0) ∙ c.loop-id.invariant
