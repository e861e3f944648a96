use Rattle.std.proofs.Common.{ap, ◌∙◌, ℕ, List}
use Rattle.lru.specs.LruCache.{LruCache}
use Rattle.replica.specs.Replicas.{used}
use Rattle.replica.proofs.Used.{put_used}
use Rattle.replica.proofs.kept.Kept.put.Goals as goal

pub returns-clause-ok : goal.returns-clause-ok
returns-clause-ok c =
    ap (λ (s : LruCache ℕ (List ℕ)). s.entries) c.in_ok-put.ensures.entries
    ∙ put_used c.self.inside.digests c.args.position c.args.digest c.len-count.ensures.valid c.self.invariant ∙ ap (used c.args.position c.args.digest) c.self.view_is
