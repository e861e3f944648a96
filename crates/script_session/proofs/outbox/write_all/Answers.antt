use Rattle.std.proofs.Common.{◌≡◌, ℕ, List, [], ◌∷◌, ◌++◌, ◌<◌, length, take, Some, None, rules, arith, refl, sym, subst, ◌∙◌, inl, inr, append-nil, eqb-true}
use Rattle.script_session.proofs.Names.{Event, Sends}
use Rattle.script_session.proofs.Sent.{Sends-more, Sends-write, Stalls-write, sent_more, stops_after}
use Rattle.script_session.proofs.outbox.write_all.Goals as goal

pub loop-left-preserved : goal.loop-left-preserved
loop-left-preserved g c =
    let left = c.loop-left.left.now in
    let count = c.in-Ok.count in
    let before = c.loop-left.invariant in (
      before.0 ++ take count left,
      Sends-more (g.met.K.Sink.more _ _ _) before.0 (take count left) before.1 (Sends-write _ left count c.in-Ok.ensures.event (omega (arith, c.if-count-eq0.false))),
      sent_more c.args.bytes.now before.0 left count c.in-Ok.ensures.bound before.2,
    )

pub returns-in_default : goal.returns-in_default
returns-in_default g c =
    let before = c.loop-left.invariant in
    let some_left : 0 < length c.loop-left.left.now = search rules in
    record {
      ok = tt;
      err = stops_after (g.met.K.Sink.more _ _ _) c.args.bytes.now before.0 c.loop-left.left.now before.1 (Stalls-write _ c.loop-left.left.now None c.in_default.ensures.event (λ well. well)) before.2 some_left;
      fault = refl;
      stopped = inl c.in_default.ensures.fails;
    }

pub returns-then-count-eq0 : goal.returns-then-count-eq0
returns-then-count-eq0 g c =
    let before = c.loop-left.invariant in
    let count = c.in-Ok.count in
    let some_left : 0 < length c.loop-left.left.now = search rules in
    record {
      ok = tt;
      err = stops_after (g.met.K.Sink.more _ _ _) c.args.bytes.now before.0 c.loop-left.left.now before.1
          (Stalls-write _ c.loop-left.left.now (Some count) c.in-Ok.ensures.event (λ well. omega (arith, well, c.if-count-eq0.true))) before.2 some_left;
      fault = refl;
      stopped = inr (c.in-Ok.ensures.full c.if-count-eq0.true some_left);
    }

-- where nothing is left, all was sent
all_sent : (did : List Event → Type 0) (bytes sent left : List ℕ) → Sends did sent → bytes ≡ sent ++ left → length left ≡ 0 → Sends did bytes
all_sent did bytes sent [] sends is none = subst (Sends did) (sym (is ∙ append-nil sent)) sends
all_sent did bytes sent (b ∷ left) sends is none = absurd (omega (arith, none))

pub returns : goal.returns
returns g c =
    let before = c.loop-left.invariant in
    let none : length c.loop-left.left.now ≡ 0 = eqb-true _ _ (sym c.loop-left-test.ensures) in
    record {
      ok = all_sent _ c.args.bytes.now before.0 c.loop-left.left.now before.1 before.2 none;
      err = tt;
      fault = tt;
      stopped = tt;
    }

pub loop-left-smaller : goal.loop-left-smaller
loop-left-smaller g c = omega (arith, c.in-Ok.ensures.bound, c.if-count-eq0.false)
