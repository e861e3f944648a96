-- One number and the cursor change at one key: a planned number shows that there are numbers, and their bound stays
use Rattle.pid_numbers.proofs.Words.{rules, arith, ap, ◌∙◌, option_map, option_and_then, Some, option_map_or, entry_at}
use Rattle.pid_numbers.proofs.Views as views
use Rattle.pid_numbers.proofs.Items as items
use Rattle.pid_numbers.proofs.spaces.give_at.Goals as goal

pub index_mut-requires : goal.index_mut-requires
index_mut-requires c = let lt = views.plan_in c.args.ids.now.items c.args.key c.args.n c.requires.planned in omega (arith, lt, c.args.ids.now.ok.0)

pub returns : goal.returns
returns c =
    let w = items.written c.args.ids.now.items c.args.key c.index_mut.result.now c.commit_marked.new.self (views.plan_in c.args.ids.now.items c.args.key c.args.n c.requires.planned) c.index_mut.ensures.value in
    record {
      here = ap (option_and_then (λ t. entry_at t.places c.args.n)) w.after ∙ c.commit_marked.ensures.writes.here;
      same = λ m differs. items.same w (option_and_then (λ t. entry_at t.places m)) (c.commit_marked.ensures.writes.others m differs) c.args.key;
      others = w.others;
      bound = items.same w (option_map (λ t. t.pid_max)) (ap Some c.commit_marked.ensures.pid_max) c.args.key;
      cursor = ap (λ o. option_map_or (λ t. t.cursor) o 0) w.after ∙ c.commit_marked.ensures.cursor;
      count = search rules;
    }
