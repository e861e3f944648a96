use Rattle.std.proofs.Common.{arith, subst, ◌≡◌, ◌-◌, length}
use Rattle.kept_table.specs.Chronicle.{Chronicle, recorded_by_all}
use Rattle.kept_table.specs.Promise.{KeepsPromise}
use Rattle.kept_table.proofs.Totals.{total_of_all}
use Rattle.kept_table.proofs.Promise.{promise-of}
use Rattle.kept_table.proofs.kept.Kept.total.Goals as goal

pub returns-clause-workers : goal.returns-clause-workers
returns-clause-workers c =
    subst (λ (t : Chronicle). c.next_stamp.result - c.first_stamp.result ≡ recorded_by_all (length t.cut) t) c.self.view_is
    (omega (arith, total_of_all _ _ c.self.invariant.counted.kept.counted, c.self.invariant.at, c.next_stamp.ensures, c.first_stamp.ensures))

pub returns-clause-promise : goal.returns-clause-promise
returns-clause-promise c =
    subst KeepsPromise c.self.view_is
    (promise-of c.soundness_is_kept.ensures.run c.bound_stays.ensures c.forks_keep_limits.ensures.run c.no_reuse.ensures c.count_is_of_subtree.ensures.shown c.numbers_are_apart.ensures.each c.numbers_are_apart.ensures.apart _ _ c.self.invariant.counted.kept)
