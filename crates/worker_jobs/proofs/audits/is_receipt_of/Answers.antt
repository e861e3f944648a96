use Rattle.std.proofs.Common.{rules, ◌≡◌, ℕ, ap, ◌∙◌}
use Rattle.pid_types.specs.declared.call.Call.{Call}
use Rattle.pid_types.specs.declared.reply.Reply.{Reply}
use Rattle.pid_types.specs.declared.entry.Entry.{Entry}
use Rattle.pid_types.specs.declared.entry.Receipt.{Receipt}
use Rattle.worker_jobs.specs.Receipts.{receipt}
use Rattle.worker_jobs.proofs.audits.is_receipt_of.Goals as goal

abbrev made : ℕ → ℕ → Call → Reply → Receipt
made ordinal worker call reply = record { ordinal = ordinal; worker = worker; call = call; reply = reply }

-- field by field
same_receipt : (r : Receipt) (ordinal : ℕ) (e : Entry) → r.ordinal ≡ ordinal → r.worker ≡ e.worker → r.call ≡ e.call → r.reply ≡ e.reply → r ≡ receipt ordinal e
same_receipt r ordinal e there worker call reply =
    ap (λ x. made x r.worker r.call r.reply) there ∙ (ap (λ x. made ordinal x r.call r.reply) worker ∙ (ap (λ x. made ordinal e.worker x r.reply) call ∙ ap (λ x. made ordinal e.worker e.call x) reply))

pub returns-clause-yes : goal.returns-clause-yes
returns-clause-yes c h = same_receipt c.args.one.now c.args.ordinal c.args.entry.now (search rules) (search rules) (c.is_same_call.ensures.yes (search rules)) (c.is_same_reply.ensures.yes h)

pub returns-clause-no : goal.returns-clause-no
returns-clause-no c h same = c.is_same_reply.ensures.no h (ap (λ r. r.reply) same)
