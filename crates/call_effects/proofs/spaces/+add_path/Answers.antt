use Rattle.std.proofs.Common.{◌≡◌, ◌∙◌, ◌++◌, sym, ap, subst, arith}
use Rattle.std.proofs.lemmas.List.{append-nil}
use Rattle.std.proofs.Math.Seq.{append_snoc}
use Rattle.std.proofs.lemmas.Result.{on_ok_weaker}
use Rattle.call_effects.specs.Spaces.{inner_path}
use Rattle.call_effects.proofs.Standing.{read_inner, read_root}
use Rattle.call_effects.proofs.spaces.+add_path.Goals as goal

pub returns-in_default-parent : goal.returns-in_default-parent
returns-in_default-parent t c =
    let ids = c.args.ids.now.items in
    subst (λ ns. ids ≡ ids ++ ns) (sym (read_root c.args.table.now c.laws.ensures c.args.id c.in-Some.space (sym c.space.ensures ∙ c.in-Some.is) c.in_default-parent.is)) (sym (append-nil ids))

pub add_path-requires : goal.add_path-requires
add_path-requires t c =
    let r = read_inner c.args.table.now c.laws.ensures c.args.id c.in-Some.space c.in-Some-parent.parent (sym c.space.ensures ∙ c.in-Some.is) c.in-Some-parent.is in
    let lt = r.2 in
    let d = c.decreases in
    (omega (arith, lt, d), r.1)

pub returns : goal.returns
returns t c =
    let r = read_inner c.args.table.now c.laws.ensures c.args.id c.in-Some.space c.in-Some-parent.parent (sym c.space.ensures ∙ c.in-Some.is) c.in-Some-parent.is in
    let ids = c.args.ids.now.items in
    let rest = inner_path c.args.table.now c.in-Some-parent.parent in
    on_ok_weaker c.add_path.result (λ e. e ∙ ap (λ ns. ns ++ rest) c.in_ok-push.ensures.items ∙ append_snoc ids c.args.id rest ∙ ap (λ ns. ids ++ ns) (sym r.0)) c.add_path.ensures
