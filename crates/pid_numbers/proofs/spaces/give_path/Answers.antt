use Rattle.std.proofs.lemmas.Grind.{common_steps}
use Rattle.pid_numbers.proofs.Words.{refl, ◌<◌, length, ◌∙◌, ap, arith, get_or, option_map, option_and_then, false, option_map_or, planned, entry_at}
use Rattle.pid_numbers.proofs.Words.{is_prepared, everywhere, entry_on, given_to, bound_on, cursor_on}
use Rattle.pid_numbers.proofs.Ties as ties
use Rattle.pid_numbers.proofs.spaces.give_path.Goals as goal

pub returns-clause-cursors : goal.returns-clause-cursors
returns-clause-cursors c = grind (arith, common_steps)

pub loop-k-preserved : goal.loop-k-preserved
loop-k-preserved c =
    let path = c.args.path.now in
    let numbers = c.args.numbers.now in
    let k = c.loop-k.k in
    let old = c.loop-k.ids.items in
    let new = c.give_at.new.ids.items in
    let below : k < length path = c.loop-k-test.true in
    let key = get_or path k 0 in
    let later = ties.later path numbers c.requires.distinct c.requires.len k below key (get_or numbers k 0) refl refl in
    record {
      count = c.give_at.ensures.count ∙ c.loop-k.invariant.count;
      entries = λ s n. ties.touched-more path numbers c.requires.distinct c.requires.len k below key (get_or numbers k 0) refl refl (λ _. given_to c.args.is_task c.args.value) (entry_on old) (entry_on new) c.give_at.ensures.here c.give_at.ensures.same (λ s m n. ap (option_and_then (λ t. entry_at t.places n)) (c.give_at.ensures.others s m)) s n ∙ c.loop-k.invariant.entries s n;
      cursors = λ s. ties.stepped-more path numbers c.requires.distinct c.requires.len k below key (get_or numbers k 0) refl refl (cursor_on old) (cursor_on new) c.give_at.ensures.cursor (λ s m. ap (λ o. option_map_or (λ t. t.cursor) o 0) (c.give_at.ensures.others s m)) s ∙ c.loop-k.invariant.cursors s;
      planned = λ j lo lt. ap (option_and_then planned) (c.give_at.ensures.others (get_or path j 0) (later j lo lt)) ∙ c.loop-k.invariant.planned j (omega (arith, lo)) lt;
      ready = λ j lo lt. ap (λ o. option_map_or (λ t. is_prepared t.places (get_or numbers j 0)) o false) (c.give_at.ensures.others (get_or path j 0) (later j lo lt)) ∙ c.loop-k.invariant.ready j (omega (arith, lo)) lt;
      bound = λ s. everywhere (bound_on new) (bound_on old) key c.give_at.ensures.bound (λ s m. ap (option_map (λ t. t.pid_max)) (c.give_at.ensures.others s m)) s ∙ c.loop-k.invariant.bound s;
    }
