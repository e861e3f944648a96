use Rattle.std.proofs.Common.{◌≡◌, ◌∙◌, refl, sym, ap, Some, option_map}
use Rattle.std.specs.Option.{option_map_or}
use Rattle.pid_types.proofs.General.{held}
use Rattle.pid_numbers.specs.Numbering.{Identifier, id_at, identifier_at}
use Rattle.task_tree.specs.Tree.{task_at}
use Rattle.task_table.proofs.LookUps.{named, space-id}
use Rattle.task_table.proofs.view.own_space.Goals as goal

pub space_at-requires : goal.space_at-requires
space_at-requires c =
    let s = c.args.store.now in
    let t = held (task_at s.tree c.args.key) c.requires in
    rw (c.numbers.ensures, (named s c.laws.ensures c.args.key t.0 t.1).1) refl

pub returns-clause-id : goal.returns-clause-id
returns-clause-id c =
    let s = c.args.store.now in
    let t = held (task_at s.tree c.args.key) c.requires in
    let u = named s c.laws.ensures c.args.key t.0 t.1 in
    let z : Some c.space_at.result ≡ Some u.0.space = sym c.space_at.ensures ∙ ap (λ b. option_map (λ (u : Identifier). u.space) (identifier_at b c.args.key)) c.numbers.ensures ∙ ap (option_map (λ (u : Identifier). u.space)) u.1 in
    ap (id_at s.numbering) (ap (λ o. option_map_or (λ m. m) o c.space_at.result) z) ∙ space-id s c.laws.ensures c.args.key u.0 u.1
