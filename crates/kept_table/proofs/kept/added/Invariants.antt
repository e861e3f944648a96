use Rattle.std.proofs.Common.{◌≡◌, ◌≤◌, ◌<◌, ◌-◌, ◌^◌, sum, take}
use Rattle.kept_table.proofs.kept.added.Given as goal

abbrev pub invariant-loop-place : goal.invariant-loop-place
invariant-loop-place l = record {
  exact : sum (take l.place l.counts) < 2 ^ 64 - 1 → l.all ≡ sum (take l.place l.counts);
  great : 2 ^ 64 - 1 ≤ sum (take l.place l.counts) → l.all ≡ 2 ^ 64 - 1;
}
