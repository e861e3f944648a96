use Rattle.std.proofs.Common.{◌∙◌, ℕ, ap}
use Rattle.lru.specs.LruCache.{LruCache}
use Rattle.replica.proofs.sessions.Sessions.new.Goals as goal

pub invariant_of-result : goal.invariant_of-result
invariant_of-result c = ap (λ (s : LruCache ℕ ℕ). s.cap) c.in_ok-sparse.ensures ∙ c.in-Some.ensures
