use Rattle.std.proofs.Common.{arith}
use Rattle.pid_script.proofs.Search.{free_run, found_run}
use Rattle.pid_script.proofs.bytes.first_index.Goals as goal

pub returns-then-run-lt-LANES-clause-some : goal.returns-then-run-lt-LANES-clause-some
returns-then-run-lt-LANES-clause-some c =
    found_run c.args.byte c.args.bytes.now c.loop-index.index 16 c.run_without-run.result (omega arith) c.run_without-run.ensures
    c.loop-index.invariant.free c.if-run-lt-LANES.true

pub loop-index-preserved : goal.loop-index-preserved
loop-index-preserved c = record {
  within = omega arith;
  free = free_run c.args.byte c.args.bytes.now c.loop-index.index 16 c.run_without-run.result (omega arith) c.run_without-run.ensures
      c.loop-index.invariant.free (omega arith);
}
