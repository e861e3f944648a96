use Rattle.std.proofs.Common.{◌≡◌, ◌≤◌, ◌-◌}
use Rattle.kept_past.proofs.history.History.catch_up.Given as goal

abbrev pub invariant-loop : goal.invariant-loop
invariant-loop l =
    (l.self ≡ record l.fn.self { waits = l.self.waits; room = l.self.room })
    × (l.self.waits.many ≡ l.fn.self.waits.many - l.counter)
    × (l.fn.self.room ≤ l.self.room)
