use Rattle.std.proofs.Common.{ℕ, Result, ◌≤◌, length, subst, arith}
use Rattle.pid_types.specs.declared.reply.Refusal.{Refusal}
use Rattle.pid_types.specs.Written.{written}
use Rattle.kept_past.proofs.history.enter_list.Goals as goal

pub push_list-requires-clause-fits : goal.push_list-requires-clause-fits
push_list-requires-clause-fits c =
    let few = subst (λ (told : Result ℕ Refusal). written told ≤ length c.ns_pid-told.new.room) c.in-Ok.is (c.ns_pid-told.ensures.reply 0).fits in
    omega (arith, few, c.ns_pid-told.array_long)
