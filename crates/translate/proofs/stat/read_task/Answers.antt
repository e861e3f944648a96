use Rattle.std.proofs.Common.{◌≡◌, ◌∙◌, sym, ap}
use Rattle.pid_types.specs.Names.{numbers_from}
use Rattle.pid_numbers.specs.Numbering.{levels_of}
use Rattle.pids_charge.specs.Charges.{Charges, home_id}
use Rattle.task_table.specs.View.{name_at, state_of}
use Rattle.task_table.proofs.Keys.{levels-are}
use Rattle.task_table.proofs.LookUps.{named}
use Rattle.translate.proofs.Written.{first_of}
use Rattle.translate.proofs.stat.read_task.Goals as goal

pub returns : goal.returns
returns c i at =
    let s = c.args.store.now in
    let found = c.args.found.now in
    let u = named s c.laws.ensures found.key found.task c.requires.found.there in
    let wrote = first_of c.write_levels_from-count.result c.write_levels_from-count.new.room (levels_of c.numbers.result.now found.key c.args.space)
    _ c.write_levels_from-count.ensures.count c.write_levels_from-count.ensures.numbers in
    let levels : c.listed.result.items ≡ numbers_from (state_of s).spaces (name_at s.numbering found.key) i =
    c.listed.ensures ∙ wrote.0 ∙ ap (λ b. levels_of b found.key c.args.space) c.numbers.ensures
    ∙ sym (levels-are s.numbering c.laws.ensures.numbering c.args.space i found.key u.0 at u.1) in
    let home = c.home_id.ensures ∙ ap (λ (v : Charges). home_id v found.task.home) c.controls.ensures in
    λ j. record {
      numbers = record { items = levels j };
      root = c.root_of.ensures j;
      space = c.own_id.ensures j;
      parent = c.seen_parent.ensures i at j;
      group = c.seen_group.ensures i at j;
      session = c.seen_session.ensures i at j;
      home = home j;
      life = found.task.life;
      executed = found.task.executed;
      subreaper = found.task.subreaper;
    }
