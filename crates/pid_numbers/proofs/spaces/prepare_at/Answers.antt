-- Memory for a number is in no view of a namespace: so plans, entries and cursors stay at every key, and what was ready is so still
use Rattle.pid_numbers.proofs.Words.{rules, arith, ◌≡◌, refl, true, OnOk, length, subst, sym, ap, ◌∙◌, option_map, option_and_then, Some, false, option_map_or}
use Rattle.pid_numbers.proofs.Words.{slice_get_read, entry_at, is_prepared, planned}
use Rattle.pid_numbers.proofs.Views as views
use Rattle.pid_numbers.proofs.Items as items
use Rattle.pid_numbers.proofs.spaces.prepare_at.Goals as goal

pub index_mut-requires : goal.index_mut-requires
index_mut-requires c = let lt = views.plan_in c.args.ids.now.items c.args.key c.args.n c.requires in omega (arith, lt, c.args.ids.now.ok.0)

pub prepare-requires : goal.prepare-requires
prepare-requires c =
    let y = c.index_mut.result.now in
    let at = slice_get_read c.args.ids.now.items (length c.args.ids.now.items) c.args.key y refl (views.plan_in c.args.ids.now.items c.args.key c.args.n c.requires) c.index_mut.ensures.value in
    views.below_bound y c.args.n (sym (ap (option_and_then planned) at) ∙ c.requires)

pub returns : goal.returns
returns c =
    let w = items.written c.args.ids.now.items c.args.key c.index_mut.result.now c.prepare.new.self (views.plan_in c.args.ids.now.items c.args.key c.args.n c.requires) c.index_mut.ensures.value in
    record {
      ok = subst (λ b. OnOk c.prepare.result (b ≡ true)) (sym (ap (λ o. option_map_or (λ t. is_prepared t.places c.args.n) o false) w.after)) c.prepare.ensures.ok;
      ready = λ s m. items.kept w (λ o. option_map_or (λ t. is_prepared t.places m) o false) (c.prepare.ensures.keeps m) s;
      plan = items.same w (option_and_then planned) c.prepare.ensures.planned;
      entries = λ s m. items.same w (option_and_then (λ t. entry_at t.places m)) (c.prepare.ensures.entries m) s;
      bound = items.same w (option_map (λ t. t.pid_max)) (ap Some c.prepare.ensures.pid_max);
      cursors = items.same w (λ o. option_map_or (λ t. t.cursor) o 0) c.prepare.ensures.cursor;
      count = search rules;
    }
