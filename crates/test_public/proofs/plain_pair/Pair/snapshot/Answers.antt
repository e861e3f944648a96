use Rattle.std.proofs.Common.{rules}
use Rattle.test_public.proofs.Same.{of_both}
use Rattle.test_public.proofs.plain_pair.Pair.snapshot.Goals as goal

pub returns-clause-fast : goal.returns-clause-fast
returns-clause-fast c = search (rules, of_both)
