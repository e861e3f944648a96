use Rattle.std.proofs.Common.{ap, ◌∙◌, ℕ, eqb, sym, subst, IsSome}
use Rattle.std.specs.Map.{lookup}
use Rattle.lru.specs.LruCache.{LruCache}
use Rattle.replica.specs.Replicas.{used}
use Rattle.replica.proofs.Used.{put_used}
use Rattle.replica.proofs.sessions.Sessions.put.Goals as goal

pub returns-in_err-put-clause-found : goal.returns-in_err-put-clause-found
returns-in_err-put-clause-found c =
    λ some.
    let never = c.in_err-put.ensures.succeeds (subst (λ es. IsSome (lookup (λ s. eqb c.args.session s) es)) (sym c.self.view_is) some) in
    cc never

pub returns-clause-ok : goal.returns-clause-ok
returns-clause-ok c =
    ap (λ (s : LruCache ℕ ℕ). s.entries) c.in_ok-put.ensures.entries
    ∙ put_used c.self.inside.open c.args.session c.args.number c.len-count.ensures.valid c.self.invariant ∙ ap (used c.args.session c.args.number) c.self.view_is
