-- Both branches write one mark at one key, by the kind's index: no cursor and no bound changes with it
use Rattle.pid_numbers.proofs.Words.{rules, true, false, sym, ap, ◌∙◌, option_map, option_and_then, Some, option_map_or, entry_at, with_mark, mark_of}
use Rattle.pid_numbers.proofs.Items as items
use Rattle.pid_numbers.proofs.spaces.mark_at.Goals as goal

pub returns-then-on : goal.returns-then-on
returns-then-on c =
    let y = c.index_mut-ids.result.now in
    let w = items.written c.args.ids.now.items c.args.key y c.set_mark.new.self c.requires c.index_mut-ids.ensures.value in
    record {
      here = ap (option_and_then (λ t. entry_at t.places c.args.n)) w.after ∙ c.set_mark.ensures.writes.here ∙ ap (λ k. with_mark k true (entry_at y.places c.args.n)) c.mark-m.ensures.value
          ∙ ap (λ b. with_mark (mark_of c.args.kind) b (entry_at y.places c.args.n)) (sym c.if-on.true) ∙ sym (ap (λ o. with_mark (mark_of c.args.kind) c.args.on (option_and_then (λ t. entry_at t.places c.args.n) o)) w.before);
      same = λ m differs. items.same w (option_and_then (λ t. entry_at t.places m)) (c.set_mark.ensures.writes.others m differs) c.args.key;
      others = w.others;
      bound = items.same w (option_map (λ t. t.pid_max)) (ap Some c.set_mark.ensures.pid_max) c.args.key;
      cursor = items.same w (λ o. option_map_or (λ t. t.cursor) o 0) c.set_mark.ensures.cursor c.args.key;
      count = search rules;
    }

pub returns-else-on : goal.returns-else-on
returns-else-on c =
    let y = c.index_mut-ids.result.now in
    let w = items.written c.args.ids.now.items c.args.key y c.clear_mark.new.self c.requires c.index_mut-ids.ensures.value in
    record {
      here = ap (option_and_then (λ t. entry_at t.places c.args.n)) w.after ∙ c.clear_mark.ensures.writes.here ∙ ap (λ k. with_mark k false (entry_at y.places c.args.n)) c.mark-m.ensures.value
          ∙ ap (λ b. with_mark (mark_of c.args.kind) b (entry_at y.places c.args.n)) (sym c.if-on.false) ∙ sym (ap (λ o. with_mark (mark_of c.args.kind) c.args.on (option_and_then (λ t. entry_at t.places c.args.n) o)) w.before);
      same = λ m differs. items.same w (option_and_then (λ t. entry_at t.places m)) (c.clear_mark.ensures.writes.others m differs) c.args.key;
      others = w.others;
      bound = items.same w (option_map (λ t. t.pid_max)) (ap Some c.clear_mark.ensures.pid_max) c.args.key;
      cursor = items.same w (λ o. option_map_or (λ t. t.cursor) o 0) c.clear_mark.ensures.cursor c.args.key;
      count = search rules;
    }
