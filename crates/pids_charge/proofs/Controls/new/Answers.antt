use Rattle.std.proofs.Common.{arith}
use Rattle.pids_charge.proofs.Words.{◌∙◌, sym, rules}
use Rattle.pids_charge.proofs.Views as views
use Rattle.pids_charge.proofs.Begun as begun
use Rattle.pids_charge.proofs.Controls.new.Goals as goal

pub invariant_of-result : goal.invariant_of-result
invariant_of-result c =
    rw (c.in_ok-push.ensures.items, c.new.ensures, c.new-counters.ensures.items, c.in_ok-grow.ensures.ok) (
    rw (c.new-children.ensures, c.in_ok-push-2.ensures.ok, c.new-ids.ensures)
    (begun.IsKept-begun (begun.begins-from c.new-nodes.result c.insert.new.self c.in_ok-insert.field-0 c.new-2.result c.new-nodes.ensures.empty
    (c.in_ok-insert.ensures.key ∙ c.new-nodes.ensures.first_key) c.new-2.ensures c.in_ok-insert.ensures.updates)))

pub returns : goal.returns
returns c =
    let begins = begun.begins-from c.new-nodes.result c.insert.new.self c.in_ok-insert.field-0 c.new-2.result c.new-nodes.ensures.empty
    (c.in_ok-insert.ensures.key ∙ c.new-nodes.ensures.first_key) c.new-2.ensures c.in_ok-insert.ensures.updates in
    record {
      controls = search rules;
      tasks = λ k. views.tasks-is c.insert.new.self c.push-2.new.self k ∙ begun.no_tasks begins k;
      key = λ k up. begun.only-root begins k (sym (views.stands-is c.insert.new.self c.push-2.new.self k) ∙ up);
      none = views.all-is c.insert.new.self c.push-2.new.self ∙ begun.no_task begins;
    }

pub push-requires-2 : goal.push-requires-2
push-requires-2 c = grind arith
