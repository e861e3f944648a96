-- Receipts and the kept entries that they are of.
use Rattle.std.specs.Prelude.{◌≡◌, ◌≢◌, ℕ, ◌+◌, ◌<◌, List, [], ◌∷◌, length, take, filter, slice_get, slice_index_or, nat_le, ◌==◌, if◌then◌else◌}
use Rattle.pid_types.specs.declared.entry.Entry.{Entry}
use Rattle.pid_types.specs.declared.entry.Receipt.{Receipt}
use Rattle.kept_table.specs.Chronicle.{Chronicle}
use Rattle.worker_jobs.specs.declared.result.Work.{Work}

-- the receipt of an entry
abbrev pub receipt : ℕ → Entry → Receipt
receipt ordinal e = record { ordinal = ordinal; worker = e.worker; call = e.call; reply = e.reply }

-- the receipts that a worker has of these entries
abbrev pub owed_from : ℕ → ℕ → List Entry → List Receipt
owed_from ordinal worker [] = []
owed_from ordinal worker (e ∷ es) =
    if e.worker == worker then receipt ordinal e ∷ owed_from (ordinal + 1) worker es else owed_from (ordinal + 1) worker es

abbrev pub owed : Chronicle → ℕ → List Receipt
owed t worker = owed_from t.first_kept worker t.entries

-- the receipts of entries that are not cut away
abbrev pub receipts_kept : ℕ → List Receipt → List Receipt
receipts_kept first receipts = filter (λ (r : Receipt). nat_le first r.ordinal) receipts

-- the lists agree before the place, and not there
abbrev pub DiffersAt : ℕ → List Receipt → List Receipt → Type 0
DiffersAt p xs ys = (take p xs ≡ take p ys) × (slice_get xs p ≢ slice_get ys p)

abbrev pub IsAuditedAt : Chronicle → List Work → ℕ → Type 0
IsAuditedAt t works w = (d : Work) → receipts_kept t.first_kept (slice_index_or works w d).receipts.items ≡ owed t w

-- each worker's receipts are its kept entries, in order and each once
abbrev pub IsAudited : ℕ → Chronicle → List Work → Type 0
IsAudited workers t works = (w : ℕ) → w < workers → IsAuditedAt t works w

-- the least worker, and the first place that differs
abbrev pub IsFirstFault : Chronicle → List Work → ℕ → ℕ → Type 0
IsFirstFault t works worker place =
    ((w : ℕ) → w < worker → IsAuditedAt t works w)
    × (worker < length works)
    × ((d : Work) → DiffersAt place (receipts_kept t.first_kept (slice_index_or works worker d).receipts.items) (owed t worker))
