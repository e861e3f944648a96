use Rattle.pid_numbers.proofs.Words.{rules, ap, ◌∙◌, option_map, option_and_then, Some, option_map_or, entry_at}
use Rattle.pid_numbers.proofs.Items as items
use Rattle.pid_numbers.proofs.spaces.put_cursor.Goals as goal

pub returns : goal.returns
returns c =
    let w = items.written c.args.ids.now.items c.args.key c.index_mut.result.now c.set_cursor.new.self c.requires c.index_mut.ensures.value in
    record {
      entries = λ s m. items.same w (option_and_then (λ t. entry_at t.places m)) (ap (λ t. entry_at t.places m) c.set_cursor.ensures) s;
      bound = items.same w (option_map (λ t. t.pid_max)) (ap (λ t. Some t.pid_max) c.set_cursor.ensures);
      here = ap (λ o. option_map_or (λ t. t.cursor) o 0) w.after ∙ ap (λ t. t.cursor) c.set_cursor.ensures;
      others = λ s differs. ap (λ o. option_map_or (λ t. t.cursor) o 0) (w.others s differs);
      count = search rules;
    }
