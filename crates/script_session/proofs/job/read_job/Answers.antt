-- A read ends a call, a line, both or neither; what was read before and the unfinished line are always the bytes consumed so far
use Rattle.std.proofs.Common.{◌≡◌, ◌^◌, ◌++◌, [], Some, take, length, min, refl, sym, ap, ◌∙◌, subst, arith, append-nil, length-append, length-take-le}
use Rattle.script_session.proofs.Names.{Consumes, said_within, kept_after, last_said, Adds, IsStopped, Consumes-more, Consumes-nothing, Consumes-keeps}
use Rattle.std.proofs.lemmas.Result.{err_from_is_err_and}
use Rattle.script_session.proofs.Ends.{more_said, more_kept, last_of}
use Rattle.script_session.proofs.Jobs.{Adds-nothing, Adds-more, IsStopped-later, take_most, refuses_within, refuses_last, refuses_read, refuses_long, yields}
use Rattle.script_session.proofs.job.read_job.Goals as goal

pub loop-turn-init : goal.loop-turn-init
loop-turn-init g c = record {
  read = [];
  consumed = Consumes-nothing _;
  added = rw (c.new-job.ensures.calls, c.new-job.ensures.lines) (Adds-nothing [] 0);
  part = c.new-job.ensures.part;
  room = refl;
  few = omega (arith, c.new-job.ensures.lines);
  long = omega arith;
  size = refl;
}

pub returns-in-Err-clause-err : goal.returns-in-Err-clause-err
returns-in-Err-clause-err g c =
    let before = c.loop-turn.invariant in
    let piece = Consumes-keeps _ _ c.in-Err.ensures.bytes in
    let consumed = subst (Consumes _ _) (append-nil before.read) (Consumes-more _ _ _ before.read [] before.consumed piece) in
    refuses_read before.read before.added (omega (arith, before.room)) consumed c.in-Err.ensures.fails

pub returns-in_err-push_last-clause-err : goal.returns-in_err-push_last-clause-err
returns-in_err-push_last-clause-err g c =
    let before = c.loop-turn.invariant in
    let p = err_from_is_err_and c.from_residual.result c.from_residual.ensures.1 in
    let fault = c.in_err-push_last.field-0.0 in
    let nothing : take c.in-Ok.count c.read.new.buffer ≡ [] = ap (λ n. take n c.read.new.buffer) c.if-count-eq0.true in
    let piece = subst (Consumes _ _) nothing c.in-Ok.ensures.bytes.0 in
    let consumed = subst (Consumes _ _) (append-nil before.read) (Consumes-more _ _ _ before.read [] before.consumed piece) in
    rw (p.1, p.2) (refuses_last before.read fault
    (subst (λ lines. IsStopped 0 lines fault) (last_of before.read c.loop-turn.job.part before.part)
    (IsStopped-later (said_within (Some []) before.read) (last_said c.loop-turn.job.part) fault before.added c.in_err-push_last.ensures.err))
    (omega (arith, before.room)) consumed (c.in-Ok.ensures.bytes.1 c.if-count-eq0.true (omega (arith, before.size))))

pub returns-then-count-eq0-clause-ok : goal.returns-then-count-eq0-clause-ok
returns-then-count-eq0-clause-ok g c =
    let before = c.loop-turn.invariant in
    let nothing : take c.in-Ok.count c.read.new.buffer ≡ [] = ap (λ n. take n c.read.new.buffer) c.if-count-eq0.true in
    let piece = subst (Consumes _ _) nothing c.in-Ok.ensures.bytes.0 in
    let consumed = subst (Consumes _ _) (append-nil before.read) (Consumes-more _ _ _ before.read [] before.consumed piece) in
    yields before.read _
    (subst (Adds _ _ _ _) (last_of before.read c.loop-turn.job.part before.part)
    (Adds-more (said_within (Some []) before.read) (last_said c.loop-turn.job.part) before.added c.in_ok-push_last.ensures.ok))
    (omega (arith, before.room)) consumed (c.in-Ok.ensures.bytes.1 c.if-count-eq0.true (omega (arith, before.size)))

pub returns-in_err-push_bytes-clause-err : goal.returns-in_err-push_bytes-clause-err
returns-in_err-push_bytes-clause-err g c =
    let before = c.loop-turn.invariant in
    let p = err_from_is_err_and c.from_residual-in_err-push_bytes.result c.from_residual-in_err-push_bytes.ensures.1 in
    let fault = c.in_err-push_bytes.field-0.0 in
    let chunk = c.read.new.buffer in
    let front = take c.min.result chunk in
    let least : min c.in-Ok.count c.loop-turn.room ≡ c.min.result = omega arith in
    let most = take_most (2 ^ 20) c.in-Ok.count c.loop-turn.room before.read chunk before.room c.in-Ok.ensures.bound ∙ ap (λ n. before.read ++ take n chunk) least in
    rw (p.1, p.2) (refuses_within (before.read ++ take c.in-Ok.count chunk) fault
    (subst (λ lines. IsStopped 0 lines fault) (more_said before.read front c.loop-turn.job.part before.part ∙ ap (said_within (Some [])) (sym most))
    (IsStopped-later (said_within (Some []) before.read) (said_within c.loop-turn.job.part front) fault before.added c.in_err-push_bytes.ensures.err))
    (Consumes-more _ _ _ before.read (take c.in-Ok.count chunk) before.consumed c.in-Ok.ensures.bytes.0))

pub returns-then-count-room-clause-err : goal.returns-then-count-room-clause-err
returns-then-count-room-clause-err g c =
    let before = c.loop-turn.invariant in
    let chunk = c.read.new.buffer in
    let piece = take c.in-Ok.count chunk in
    let front = take c.min.result chunk in
    let least : min c.in-Ok.count c.loop-turn.room ≡ c.min.result = omega arith in
    let most = take_most (2 ^ 20) c.in-Ok.count c.loop-turn.room before.read chunk before.room c.in-Ok.ensures.bound ∙ ap (λ n. before.read ++ take n chunk) least in
    let within = c.in-Ok.ensures.bound in
    refuses_long (before.read ++ piece)
    (subst (Adds _ _ _ _) (more_said before.read front c.loop-turn.job.part before.part ∙ ap (said_within (Some [])) (sym most))
    (Adds-more (said_within (Some []) before.read) (said_within c.loop-turn.job.part front) before.added c.in_ok-push_bytes.ensures.ok))
    (omega (arith, before.room, c.if-count-room.true, length-append before.read piece, length-take-le c.in-Ok.count chunk within))
    (Consumes-more _ _ _ before.read piece before.consumed c.in-Ok.ensures.bytes.0)

pub loop-turn-preserved : goal.loop-turn-preserved
loop-turn-preserved g c =
    let before = c.loop-turn.invariant in
    let chunk = c.read.new.buffer in
    let part = c.loop-turn.job.part in
    let within = c.in-Ok.ensures.bound in
    let all : take c.min.result chunk ≡ take c.in-Ok.count chunk = ap (λ n. take n chunk) (omega (arith, c.if-count-room.false)) in
    let piece = take c.in-Ok.count chunk in
    let len = length-append before.read piece in
    let piece_len = length-take-le c.in-Ok.count chunk within in
    let added = c.in_ok-push_bytes.ensures in
    record {
      read = before.read ++ piece;
      consumed = Consumes-more _ _ _ before.read piece before.consumed c.in-Ok.ensures.bytes.0;
      added = subst (Adds _ _ _ _) (ap (λ bytes. said_within (Some []) before.read ++ said_within part bytes) all ∙ more_said before.read piece part before.part)
          (Adds-more (said_within (Some []) before.read) (said_within part (take c.min.result chunk)) before.added added.ok);
      part = more_kept before.read piece part _ before.part (added.part ∙ ap (kept_after part) all);
      room = omega (arith, before.room, c.if-count-room.false, len, piece_len);
      few = omega (arith, before.few, added.few, len, piece_len, ap length all);
      long = omega (arith, before.long, len, piece_len, c.if-count-eq0.false);
      size = omega (arith, before.size);
    }
