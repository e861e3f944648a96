-- Two walks at different paces, past others' entries and receipts of cut calls: what both have passed must match one for one
use Rattle.std.proofs.Common.{rules, arith, ◌≡◌, ◌<◌, ◌-◌, length, take, get_or, length-append, [], ◌∷◌, ap, ◌∙◌, sym}
use Rattle.pid_types.specs.declared.call.Call.TheVariants.{Count}
use Rattle.pid_types.specs.declared.reply.Reply.TheVariants.{Done}
use Rattle.pid_types.specs.declared.entry.Receipt.{Receipt}
use Rattle.worker_jobs.specs.Receipts.{receipts_kept}
use Rattle.worker_jobs.proofs.Compared.{kept_more, past_worker, own_worker, past_both, too_short, another, too_long, all_matched}
use Rattle.worker_jobs.proofs.audits.first_difference.Goals as goal

pub loop-ordinal-preserved-then-by-worker : goal.loop-ordinal-preserved-then-by-worker
loop-ordinal-preserved-then-by-worker g c =
    let was = c.loop-ordinal.invariant in
    (was.0, past_worker c.args.kept.now _ _ _ _ _ (search rules) c.in-Some.ensures c.if-by-worker.true was.1, was.2, was.3)

pub returns-then-next-receipts : goal.returns-then-next-receipts
returns-then-next-receipts g c =
    let was = c.loop-ordinal.invariant in
    let none = rw c.first_kept-first.ensures at c.skip_cut-next.ensures.none in
    too_short c.args.kept.now _ c.loop-ordinal.ordinal c.skip_cut-next.result _ _ c.in-Some-entry.entry (search rules) c.in-Some-entry.ensures (own_worker c.args.kept.now _ _ c.in-Some-entry.entry c.in-Some.ensures c.in-Some-entry.ensures ∙ c.if-by-worker.false) (search rules) (ap length none ∙ was.2) (none ∙ was.1)

pub returns-then-not-is_receipt_of : goal.returns-then-not-is_receipt_of
returns-then-not-is_receipt_of g c =
    let was = c.loop-ordinal.invariant in
    let d : Receipt = c.index-receipts-next.result in
    let skip = rw c.first_kept-first.ensures at c.skip_cut-next.ensures.none in
    let lt : c.skip_cut-next.result < length c.args.receipts.now = search rules in
    let le = rw c.first_kept-first.ensures at (c.skip_cut-next.ensures.kept d lt) in
    another c.args.kept.now _ c.loop-ordinal.ordinal c.skip_cut-next.result _ c.args.receipts.now c.in-Some-entry.entry d (search rules) c.in-Some-entry.ensures (own_worker c.args.kept.now _ _ c.in-Some-entry.entry c.in-Some.ensures c.in-Some-entry.ensures ∙ c.if-by-worker.false) lt le (λ h. c.is_receipt_of.ensures.no (search rules) (c.index-receipts-next.is ∙ h)) (ap length skip ∙ was.2) (skip ∙ was.1)

pub loop-ordinal-preserved : goal.loop-ordinal-preserved
loop-ordinal-preserved g c =
    let was = c.loop-ordinal.invariant in
    let d : Receipt = c.index-receipts-next.result in
    let skip = rw c.first_kept-first.ensures at c.skip_cut-next.ensures.none in
    let lt : c.skip_cut-next.result < length c.args.receipts.now = search rules in
    let le = rw c.first_kept-first.ensures at (c.skip_cut-next.ensures.kept d lt) in
    let len : length (receipts_kept c.args.kept.now.first_kept (take c.skip_cut-next.result c.args.receipts.now)) ≡ c.loop-ordinal.place = ap length skip ∙ was.2 in
    let more = kept_more c.args.kept.now.first_kept c.skip_cut-next.result c.args.receipts.now d lt le in (
      search rules,
      past_both c.args.kept.now _ c.loop-ordinal.ordinal c.skip_cut-next.result c.args.receipts.now c.in-Some-entry.entry d (search rules) c.in-Some-entry.ensures (own_worker c.args.kept.now _ _ c.in-Some-entry.entry c.in-Some.ensures c.in-Some-entry.ensures ∙ c.if-by-worker.false) lt le (sym c.index-receipts-next.is ∙ c.is_receipt_of.ensures.yes (search rules)) (skip ∙ was.1),
      ap length more ∙ (length-append (receipts_kept c.args.kept.now.first_kept (take c.skip_cut-next.result c.args.receipts.now)) (get_or c.args.receipts.now c.skip_cut-next.result d ∷ []) ∙ omega (arith, len)),
      omega (arith, was.3, c.skip_cut-next.ensures.bounds.0),
    )

pub returns-then-skip_cut-receipts : goal.returns-then-skip_cut-receipts
returns-then-skip_cut-receipts g c =
    let was = c.loop-ordinal.invariant in
    let d : Receipt = record { ordinal = 0; worker = 0; call = Count 0; reply = Done } in
    let skip = rw c.first_kept-first.ensures at c.skip_cut.ensures.none in
    let lt : c.skip_cut.result < length c.args.receipts.now = search rules in
    let le = rw c.first_kept-first.ensures at (c.skip_cut.ensures.kept d lt) in
    too_long c.args.kept.now _ c.skip_cut.result _ c.args.receipts.now (c.loop-ordinal.ordinal - c.args.kept.now.first_kept) d (omega (arith, c.total-ordinal-end.ensures.value)) lt le (ap length skip ∙ was.2) (skip ∙ was.1)

pub returns : goal.returns
returns g c =
    let was = c.loop-ordinal.invariant in
    let skip = rw c.first_kept-first.ensures at c.skip_cut.ensures.none in
    all_matched c.args.kept.now _ c.skip_cut.result c.args.receipts.now (c.loop-ordinal.ordinal - c.args.kept.now.first_kept) (omega (arith, c.total-ordinal-end.ensures.value)) (omega arith) (skip ∙ was.1)
