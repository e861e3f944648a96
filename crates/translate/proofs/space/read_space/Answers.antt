use Rattle.std.proofs.Common.{◌∙◌, sym, ap, Some, option_map}
use Rattle.pid_types.specs.declared.plain.Space.{Space}
use Rattle.task_table.specs.View.{state_of, space_of}
use Rattle.task_table.proofs.Keys.{space_at-is, space_at-key}
use Rattle.task_table.proofs.Around.{key-nobody}
use Rattle.translate.specs.Spaces.{space_stat_of}
use Rattle.translate.proofs.space.read_space.Goals as goal

pub returns-in_err-key : goal.returns-in_err-key
returns-in_err-key c =
    let s = c.args.store.now in
    let laws = c.laws.ensures.numbering in
    let none = rw c.numbers.ensures at c.in_err-key.ensures in
    c.from_residual.ensures
    ∙ sym (ap (option_map (space_stat_of (state_of s))) (space_at-is s.numbering laws c.args.id
    ∙ ap (option_map (λ k. space_of s.numbering (c.args.id, k))) (key-nobody s.numbering laws c.args.id none)))

pub returns : goal.returns
returns c =
    let s = c.args.store.now in
    let at = rw c.numbers.ensures at c.in_ok-key.ensures in
    let row = c.space_row-space.ensures in
    (λ i. Some (record {
      id = c.args.id;
      parent = ap (λ (x : Space). x.parent) row i;
      level = c.level_of.ensures c.args.id at i;
      init = c.init_of.ensures c.args.id at i;
      fallen = ap (λ (x : Space). x.fallen) row i;
    })) ∙ sym (ap (option_map (space_stat_of (state_of s))) (space_at-key s.numbering c.laws.ensures.numbering c.in_ok-key.key c.args.id at))
