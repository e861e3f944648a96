-- A free number leaves the cursor and the bound where they are
use Rattle.pid_numbers.proofs.Words.{rules, ap, ◌∙◌, option_map, option_and_then, Some, option_map_or, entry_at}
use Rattle.pid_numbers.proofs.Items as items
use Rattle.pid_numbers.proofs.spaces.release_at.Goals as goal

pub returns : goal.returns
returns c =
    let w = items.written c.args.ids.now.items c.args.key c.index_mut.result.now c.release.new.self c.requires c.index_mut.ensures.value in
    record {
      here = ap (option_and_then (λ t. entry_at t.places c.args.n)) w.after ∙ c.release.ensures.writes.here;
      same = λ m differs. items.same w (option_and_then (λ t. entry_at t.places m)) (c.release.ensures.writes.others m differs) c.args.key;
      others = w.others;
      bound = items.same w (option_map (λ t. t.pid_max)) (ap Some c.release.ensures.pid_max) c.args.key;
      cursor = items.same w (λ o. option_map_or (λ t. t.cursor) o 0) c.release.ensures.cursor c.args.key;
      count = search rules;
    }
