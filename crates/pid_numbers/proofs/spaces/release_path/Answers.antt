use Rattle.pid_numbers.proofs.Words.{refl, None, ◌<◌, length, ◌∙◌, sym, ap, subst, get_or, option_map, option_and_then, option_map_or, entry_at, everywhere}
use Rattle.pid_numbers.proofs.Words.{entry_on, bound_on, cursor_on}
use Rattle.pid_numbers.proofs.Ties as ties
use Rattle.pid_numbers.proofs.spaces.release_path.Goals as goal

pub release_at-requires : goal.release_at-requires
release_at-requires c = subst (λ n. get_or c.args.path.now c.loop-k.k 0 < n) (sym c.loop-k.invariant.count) (c.requires.there c.loop-k.k c.loop-k-test.true)

pub loop-k-preserved : goal.loop-k-preserved
loop-k-preserved c =
    let path = c.args.path.now in
    let numbers = c.args.numbers.now in
    let k = c.loop-k.k in
    let old = c.loop-k.ids.items in
    let new = c.release_at.new.ids.items in
    let below : k < length path = c.loop-k-test.true in
    let key = get_or path k 0 in
    let e = c.release_at.ensures in
    record {
      entries = λ s n. ties.touched-more path numbers c.requires.distinct c.requires.len k below key (get_or numbers k 0) refl refl (λ _. None) (entry_on old) (entry_on new) e.here e.same (λ s m n. ap (option_and_then (λ t. entry_at t.places n)) (e.others s m)) s n ∙ c.loop-k.invariant.entries s n;
      bound = λ s. everywhere (bound_on new) (bound_on old) key e.bound (λ s m. ap (option_map (λ t. t.pid_max)) (e.others s m)) s ∙ c.loop-k.invariant.bound s;
      cursors = λ s. everywhere (cursor_on new) (cursor_on old) key e.cursor (λ s m. ap (λ o. option_map_or (λ t. t.cursor) o 0) (e.others s m)) s ∙ c.loop-k.invariant.cursors s;
      count = e.count ∙ c.loop-k.invariant.count;
    }
