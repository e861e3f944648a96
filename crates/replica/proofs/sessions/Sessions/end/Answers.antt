use Rattle.std.proofs.Common.{ap, ◌∙◌, ℕ}
use Rattle.lru.specs.LruCache.{LruCache}
use Rattle.replica.specs.Replicas.{without_key}
use Rattle.replica.proofs.Used.{remove_without}
use Rattle.replica.proofs.sessions.Sessions.end.Goals as goal

pub returns : goal.returns
returns c =
    ap (λ (s : LruCache ℕ ℕ). s.entries) c.pop.ensures.entries
    ∙ remove_without c.args.session c.self.inside.open.entries c.len-count.ensures.valid.0 ∙ ap (without_key c.args.session) c.self.view_is
