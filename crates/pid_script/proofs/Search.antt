-- What a search for a byte finds.
use Rattle.std.proofs.Common.{◌≡◌, ℕ, ◌+◌, ◌<◌, ◌≤◌, not, eqb, eqb-true, List, length, take, drop, arith, inl, inr}
use Rattle.std.specs.List.{prefix_len}
use Rattle.std.proofs.lemmas.Simd.{run_in_chunk_fails, run_in_chunk_stops}
use Rattle.std.proofs.lemmas.Bool.{cases_lt, eqb-false}
use Rattle.pid_script.specs.Reading.{IsFirstOf, IsFreeOf}

-- of so many bytes behind others, as many come before the first such byte
module _ (byte : ℕ) (bs : List ℕ) (i n run : ℕ) (room : i + n ≤ length bs)
    (counted : run ≡ prefix_len (λ b. not (eqb b byte)) (take n (drop i bs))) (free : IsFreeOf byte i bs) where
  before : IsFreeOf byte (i + run) bs
  before k below =
      elim (cases_lt k i) [
        | inl early ↦ free k early
        | inr late ↦ eqb-false _ _ (run_in_chunk_fails (λ b. eqb b byte) bs i n run 0 room counted k (omega arith) below)
      ]

  pub found_run : run < n → IsFirstOf byte (i + run) bs
  found_run short = record {
    within = omega arith;
    is = eqb-true _ _ (run_in_chunk_stops (λ b. eqb b byte) bs i n run 0 room counted short);
    free = before;
  }

  pub free_run : n ≤ run → IsFreeOf byte (i + n) bs
  free_run long k below = before k (omega arith)
