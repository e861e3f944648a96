use Rattle.std.proofs.Common.{inl, inr, arith}
use Rattle.task_table.proofs.Results.{never}
use Rattle.table_build.proofs.Falling.{used-as}
use Rattle.table_build.proofs.falls.has_numbers.Goals as goal

pub returns-then-has_kind : goal.returns-then-has_kind
returns-then-has_kind c = grind arith

pub returns-then-has_kind-2 : goal.returns-then-has_kind-2
returns-then-has_kind-2 c = grind arith

pub returns-then-has_kind-3 : goal.returns-then-has_kind-3
returns-then-has_kind-3 c = grind arith

pub returns : goal.returns
returns c = (
  (λ used. let n = c.has_thread.ensures.0 used in (n.1.key, n.0, n.1.has)),
  (λ held. elim (used-as c.args.store.now.numbering held.0 c.args.key held.1 held.2) [
    | inl task ↦ absurd (never (c.if-has_kind.ensures.1 (held.1, task)))
    | inr (inl group) ↦ absurd (never (c.if-has_kind-2.ensures.1 (held.1, group)))
    | inr (inr (inl session)) ↦ absurd (never (c.if-has_kind-3.ensures.1 (held.1, session)))
    | inr (inr (inr thread)) ↦ c.has_thread.ensures.1 (held.1, thread)
  ]),
)
