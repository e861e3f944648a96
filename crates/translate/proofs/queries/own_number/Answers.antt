use Rattle.std.proofs.Common.{◌≡◌, ◌∙◌, Option, Some, IfSome, sym, ap, subst}
use Rattle.std.specs.Prelude.{unwrap_or}
use Rattle.pid_types.proofs.General.{held}
use Rattle.pid_numbers.specs.Numbering.{Identifier, Numbering, identifier_at, number_of}
use Rattle.task_tree.specs.Tree.{task_at}
use Rattle.task_table.specs.View.{name_at}
use Rattle.task_table.proofs.LookUps as look_ups
use Rattle.translate.proofs.queries.own_number.Goals as goal

pub returns : goal.returns
returns c =
    let s = c.args.store.now in
    let t = held (task_at s.tree c.args.key) c.requires in
    let u = look_ups.named s c.laws.ensures c.args.key t.0 t.1 in
    let has : Numbering → Option Identifier → Type 0 = λ b o. IfSome o (λ (v : Identifier). number_of b c.args.key v.space ≡ Some c.own_number.result) in
    let own : number_of s.numbering c.args.key u.0.space ≡ Some c.own_number.result =
    subst (has s.numbering) u.1 (subst (λ (b : Numbering). has b (identifier_at b c.args.key)) c.numbers.ensures c.own_number.ensures) in
    sym (look_ups.seen s c.laws.ensures u.0.space (name_at s.numbering c.args.key).space c.args.key u.0 (look_ups.space-id s c.laws.ensures c.args.key u.0 u.1) u.1
    ∙ ap (λ o. unwrap_or o 0) own)
