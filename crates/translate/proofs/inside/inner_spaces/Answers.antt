use Rattle.std.proofs.Common.{◌∙◌, ◌++◌, sym, ap, subst, filter, filter_map, nat_le, option_map}
use Rattle.pid_numbers.specs.Numbering.{id_at}
use Rattle.task_table.specs.View.{space_of, state_of}
use Rattle.task_table.proofs.Keys.{space_at-is, space_at-key}
use Rattle.task_table.proofs.Around.{key-nobody}
use Rattle.translate.specs.Inside.{spaces_inside, AreFrom}
use Rattle.translate.proofs.Inner.{spaces-from, space-there}
use Rattle.translate.proofs.inside.inner_spaces.Goals as goal

pub inner_spaces-keys-requires : goal.inner_spaces-keys-requires
inner_spaces-keys-requires c =
    let s = c.args.store.now in
    let at = rw c.numbers.ensures at c.in-Some.ensures in
    rw c.numbers-2.ensures (space-there s.numbering c.in-Some.key c.args.id at)

pub returns-in_default : goal.returns-in_default
returns-in_default c =
    let s = c.args.store.now in
    let none = rw c.numbers.ensures at c.in_default.ensures in
    ap (option_map (λ x. spaces_inside (state_of s) c.args.id)) (space_at-is s.numbering c.laws.ensures.numbering c.args.id
    ∙ ap (option_map (λ k. space_of s.numbering (c.args.id, k))) (key-nobody s.numbering c.laws.ensures.numbering c.args.id none))

pub returns : goal.returns
returns c =
    let s = c.args.store.now in
    let key = c.in-Some.key in
    let at = rw c.numbers.ensures at c.in-Some.ensures in
    let inner = rw c.numbers-2.ensures at c.inner_spaces-keys.ensures in (
      spaces_inside (state_of s) c.args.id,
      ap (option_map (λ x. spaces_inside (state_of s) c.args.id)) (space_at-key s.numbering c.laws.ensures.numbering key c.args.id at),
      subst (AreFrom (spaces_inside (state_of s) c.args.id) c.args.from)
          (sym (c.in_ok-gather_spaces.ensures ∙ ap (λ ns. ns ++ filter (nat_le c.args.from) (filter_map (id_at s.numbering) c.inner_spaces-keys.result)) c.new-ids.ensures.items))
          (spaces-from s.numbering c.laws.ensures.numbering key c.args.id at c.inner_spaces-keys.result inner c.args.from),
    )
