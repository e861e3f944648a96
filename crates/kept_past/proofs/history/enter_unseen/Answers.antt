use Rattle.std.proofs.Common.{ℕ, Result, take, sym, ap, ◌∙◌}
use Rattle.pid_types.specs.declared.reply.Refusal.{Refusal}
use Rattle.pid_types.specs.Written.{told_of}
use Rattle.kept_past.proofs.history.enter_unseen.Goals as goal

pub returns-in-Ok-clause-reply : goal.returns-in-Ok-clause-reply
returns-in-Ok-clause-reply c stamp = (
  take c.in-Ok.field-0 c.enter_list.new.numbers,
  sym (c.enter_list.ensures.reply stamp).tells ∙ ap (λ (told : Result ℕ Refusal). told_of told c.enter_list.new.numbers) c.in-Ok.is,
)
