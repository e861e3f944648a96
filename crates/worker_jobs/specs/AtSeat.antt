-- What calls at a seat of a shared table come to.
use Rattle.std.specs.Prelude.{◌≡◌, ℕ, ◌+◌, List, [], ◌++◌, length, All, IfOk}
use Rattle.std.proofs.Common.{refl, subst, ap, ◌∙◌, arith, length-append}
use Rattle.std.proofs.lemmas.List.Elements.{All-append, All-nil}
use Rattle.std.proofs.lemmas.Grind.{flat_map-append}
use Rattle.pid_types.specs.declared.entry.Receipt.{Receipt}
use Rattle.locked_table.specs.SeatState.{SeatState}
use Rattle.worker_jobs.specs.Job.{Answered, receipt_in, receipts_given}

-- a receipt is the worker's, and of the call
abbrev pub IsOwn : ℕ → Answered → Type 0
IsOwn worker answer = IfOk answer.1 (λ (r : Receipt). (r.worker ≡ worker) × (r.call ≡ answer.0))

-- the seat has counted each receipt that was given, and each is its worker's
pub record HasCounted (before after : SeatState) (answers : List Answered) : Type 0 where
  pub worker : after.worker ≡ before.worker
  pub calls : after.calls ≡ before.calls + length (receipts_given answers)
  pub own : All (IsOwn before.worker) answers

-- no call leaves the seat as it is
pub counted_none : (a : SeatState) → HasCounted a a []
counted_none a = record { worker = refl; calls = omega arith; own = All-nil (IsOwn a.worker) }

-- calls, and then more
pub counted_more : (a b c : SeatState) (xs ys : List Answered) → HasCounted a b xs → HasCounted b c ys → HasCounted a c (xs ++ ys)
counted_more a b c xs ys p q =
    let all : receipts_given (xs ++ ys) ≡ receipts_given xs ++ receipts_given ys =
    flat_map-append (λ (x : Answered). receipt_in x.1) xs ys in
    record {
      worker = q.worker ∙ p.worker;
      calls = omega (arith, p.calls, q.calls, ap length all, length-append (receipts_given xs) (receipts_given ys));
      own = All-append (IsOwn a.worker) xs ys p.own (subst (λ w. All (IsOwn w) ys) p.worker q.own);
    }
