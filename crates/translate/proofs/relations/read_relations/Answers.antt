use Rattle.std.proofs.Common.{◌∙◌, refl, sym, ap, Some, option_map}
use Rattle.task_table.proofs.LookUps.{row_at-key, row_at-none}
use Rattle.translate.specs.Relations.{relations_of}
use Rattle.translate.proofs.relations.read_relations.Goals as goal

pub returns-in_err-found : goal.returns-in_err-found
returns-in_err-found c =
    c.from_residual.ensures ∙ sym (ap (option_map relations_of) (row_at-none c.args.store.now c.laws.ensures c.args.number (c.in_err-found.ensures.nobody refl)))

pub returns : goal.returns
returns c =
    let found = c.in_ok-found.found in
    let there = c.in_ok-found.ensures.there in
    ap Some c.relations_found.ensures
    ∙ sym (ap (option_map relations_of) (row_at-key c.args.store.now c.laws.ensures c.args.number found.key found.task there.0 there.1))
