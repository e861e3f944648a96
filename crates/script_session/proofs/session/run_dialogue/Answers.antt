-- The dialogue so far is a list of events: at each of the four ways out it is one with a read that gave nothing, or a write that failed, at its end
use Rattle.std.proofs.Common.{◌≡◌, ◌<◌, ◌++◌, ◌+◌, ◌∷◌, [], Some, None, true, if◌then◌else◌, take, length, refl, sym, ap, ◌∙◌, subst, arith, append-nil, length-append, length-take-le, nat_lt}
use Rattle.std.proofs.lemmas.Result.{err_from_is_err_and}
use Rattle.script_session.proofs.Names.{Appends, Consumes, IsAtEnd, Reading, heard, said, said_of, said_whole, said_within, kept_after, said_next, Answers, is_end}
use Rattle.script_session.proofs.Progress.{Answers-nothing}
use Rattle.script_session.proofs.Turns.{finishes, more_said, more_kept, turn, turn_heard, turn_said, turn_reads, turn_done, turn_lines, turned, stalled, stalled_breaks, stalled_talk, goes_on, read_follows, is_answered, all_answered, halts, lines_next, next_within, gave_none}
use Rattle.script_session.proofs.session.run_dialogue.Goals as goal

pub loop-turn-init : goal.loop-turn-init
loop-turn-init g c =
    let begins = c.new-session.ensures in
    record {
      events = [];
      done = g.met.D.Source.nothing _;
      on = record {
        each = tt;
        well = tt;
        ends = refl;
        answered = rw (begins.tally, begins.outbox) (Answers-nothing _ _ _ refl (g.met.T.Table.nothing _));
      };
      part = begins.part;
      empty = begins.outbox;
      counted = rw begins.tally (omega arith);
      turns = refl;
      few = rw begins.tally (omega arith);
      long = omega arith;
      short = omega arith;
      size = refl;
    }

pub returns-in_err-count : goal.returns-in_err-count
returns-in_err-count g c =
    let before = c.loop-turn.invariant in
    let p = err_from_is_err_and c.from_residual.result c.from_residual.ensures.1 in
    let asked = length c.loop-turn.chunk in
    let all = turn before.events asked None [] in
    let done = g.met.D.Source.more _ _ _ before.events (Reading asked None ∷ []) before.done c.in_err-count.ensures.event in
    rw (p.1, p.2, c.in_err-count.ensures.fails.0) (record {
      ok = tt;
      err = (
        halts _ 0 before.events (is_answered before.on before.empty) before.on.ends (omega arith)
            (subst (Consumes _ _) (turn_heard before.events asked None [] refl ∙ append-nil (heard before.events)) (g.met.D.Source.consumed _ _ all done))
            (subst (Appends _ _) (turn_said before.events asked None [] ∙ append-nil (said before.events)) (g.met.D.Sink.appended _ _ all ((g.met.D.Dialogue.one _ _ all).0 done))),
        c.in_err-count.ensures.fails.1,
      );
      talk = record {
        events = all;
        done = done;
        each = read_follows before.on before.empty before.size None [] tt;
        few = omega (arith, turn_reads before.events asked None [] refl, before.turns, c.loop-turn-test.true);
        ended = (before.events, asked, refl);
      };
      same = g.met.D.Dialogue.same _ _ all done;
      whole = tt;
      made = λ is. cc;
      stopped = λ is. absurd (cc);
    })

pub returns-clause-err : goal.returns-clause-err
returns-clause-err g c =
    let before = c.loop-turn.invariant in
    halts _ c.args.turns before.events (is_answered before.on before.empty) before.on.ends (omega (arith, before.long, c.loop-turn-test.false))
    (g.met.D.Source.consumed _ _ before.events before.done) (g.met.D.Sink.appended _ _ before.events ((g.met.D.Dialogue.one _ _ before.events).0 before.done))

pub returns-clause-talk : goal.returns-clause-talk
returns-clause-talk g c =
    let before = c.loop-turn.invariant in
    let turns = c.loop-turn.auto._turn-end in
    record {
      events = before.events;
      done = before.done;
      each = before.on.each;
      few = omega (arith, before.turns, turns);
      ended = (before.on.well, before.on.ends, omega (arith, before.turns, turns, c.loop-turn-test.false), is_answered before.on before.empty);
    }

pub returns-clause-same : goal.returns-clause-same
returns-clause-same g c = let before = c.loop-turn.invariant in g.met.D.Dialogue.same _ _ before.events before.done

pub returns-then-count-eq0 : goal.returns-then-count-eq0
returns-then-count-eq0 g c =
    let before = c.loop-turn.invariant in
    let asked = length c.loop-turn.chunk in
    let piece = take c.in_ok-count.count c.read_chunk.new.chunk in
    let nothing : piece ≡ [] = ap (λ n. take n c.read_chunk.new.chunk) c.if-count-eq0.true in
    let part = c.loop-turn.session.part in
    let more = c.in_ok-answer_piece.ensures.told.ok in
    let es = more.appended.events in
    let all = turn before.events asked (Some piece) es in
    let done = turn_done g.met.D.Source.more g.met.D.Dialogue.one before.events asked (Some piece) es before.done c.in_ok-count.ensures.event more.appended.done in
    let wrote = (g.met.D.Dialogue.one _ _ all).0 done in
    let now = turned before.on before.empty before.size piece {IsAll = g.T.Table.did c.args.table.now c.answer_piece.new.table} (g.met.T.Table.more _ _ _) _ (said_next part piece) more in
    let lines = lines_next (heard before.events) piece part asked before.part (omega (arith, before.size)) ∙ sym (turn_lines before.on before.empty before.size piece es more.appended.writes) in
    let ends = now.ends ∙ ap (λ bytes. is_end (Reading asked (Some bytes))) nothing ∙ ap (λ n. nat_lt 0 n) before.size in
    let kept = g.met.D.Sink.kept _ _ all wrote now.well in
    record {
      ok = finishes c.answer_piece.new.session.tally all now.answered c.in_ok-answer_piece.ensures.empty
          (lines ∙ ap (λ ended. if ended then said_of (heard all) else said_whole (heard all)) ends)
          (g.met.D.Source.consumed _ _ all done) (g.met.D.Sink.appended _ _ all wrote)
          (subst IsAtEnd (sym (g.met.D.Dialogue.apart _ _ es more.appended.done more.appended.writes)) (c.in_ok-count.ensures.bytes.1 c.if-count-eq0.true (omega (arith, before.size))));
      err = tt;
      talk = record {
        events = all;
        done = done;
        each = now.each;
        few = omega (arith, turn_reads before.events asked (Some piece) es more.appended.writes, before.turns, c.loop-turn-test.true);
        ended = (now.well, ends, all_answered _ _ all _ now.answered c.in_ok-answer_piece.ensures.empty lines);
      };
      same = g.met.D.Dialogue.same _ _ all done;
      whole = (g.met.D.Source.kept _ _ all done now.well, kept.0, kept.1);
      made = tt;
      stopped = λ is. absurd (cc);
    }

pub returns-in_err-answer_piece : goal.returns-in_err-answer_piece
returns-in_err-answer_piece g c =
    let before = c.loop-turn.invariant in
    let p = err_from_is_err_and c.from_residual-in_err-answer_piece.result c.from_residual-in_err-answer_piece.ensures.1 in
    let asked = length c.loop-turn.chunk in
    let piece = take c.in_ok-count.count c.read_chunk.new.chunk in
    let part = c.loop-turn.session.part in
    let lines = said_next part piece in
    let stops = c.in_err-answer_piece.ensures.told.err in
    let are = lines_next (heard before.events) piece part asked before.part (omega (arith, before.size)) in
    let all = turn before.events asked (Some piece) (stalled stops) in
    let done = turn_done g.met.D.Source.more g.met.D.Dialogue.one before.events asked (Some piece) (stalled stops) before.done c.in_ok-count.ensures.event stops.appended.done in
    let none : is_end (Reading asked (Some piece)) ≡ true → c.in_ok-count.count ≡ 0 = λ ends. omega (arith, gave_none asked piece ends, length-take-le c.in_ok-count.count c.read_chunk.new.chunk c.in_ok-count.ensures.bound) in
    rw (p.1, p.2, c.in_err-answer_piece.ensures.told.fault) (record {
      ok = tt;
      err = stalled_breaks before.on before.empty before.size piece lines stops are (λ ends silent. subst IsAtEnd (sym (g.met.D.Dialogue.apart _ _ (stalled stops) stops.appended.done silent)) (c.in_ok-count.ensures.bytes.1 (none ends) (omega (arith, before.size))))
          (g.met.D.Source.consumed _ _ all done) (g.met.D.Sink.appended _ _ all ((g.met.D.Dialogue.one _ _ all).0 done));
      talk = stalled_talk before.on before.empty before.size piece lines stops are c.args.turns (omega (arith, before.turns, c.loop-turn-test.true)) done;
      same = g.met.D.Dialogue.same _ _ all done;
      whole = tt;
      made = λ is. cc;
      stopped = λ is. c.in_err-answer_piece.ensures.told.stopped;
    })

pub loop-turn-preserved : goal.loop-turn-preserved
loop-turn-preserved g c =
    let before = c.loop-turn.invariant in
    let asked = length c.loop-turn.chunk in
    let piece = take c.in_ok-count.count c.read_chunk.new.chunk in
    let part = c.loop-turn.session.part in
    let read = c.in_ok-answer_piece.ensures in
    let within = c.in_ok-count.ensures.bound in
    let len = length-append (heard before.events) piece in
    let piece_len = length-take-le c.in_ok-count.count c.read_chunk.new.chunk within in
    let more = read.told.ok in
    let es = more.appended.events in
    let writes = more.appended.writes in
    let same = turn_heard before.events asked (Some piece) es writes in
    let some : 0 < length piece = omega (arith, piece_len, c.if-count-eq0.false) in
    let heard_len = ap length same in
    let lines = read.kept.lines some in
    let now = turned before.on before.empty before.size piece {IsAll = g.T.Table.did c.args.table.now c.answer_piece.new.table} (g.met.T.Table.more _ _ _) _ (said_next part piece) more in
    record {
      events = turn before.events asked (Some piece) es;
      done = turn_done g.met.D.Source.more g.met.D.Dialogue.one before.events asked (Some piece) es before.done c.in_ok-count.ensures.event more.appended.done;
      on = record {
        each = now.each;
        well = now.well;
        ends = now.ends ∙ goes_on asked piece some;
        answered = subst (Answers _ _ _ _ _) (ap (λ ls. said_within (Some []) (heard before.events) ++ ls) (next_within part piece some) ∙ more_said (heard before.events) piece part before.part ∙ ap (said_within (Some [])) (sym same)) now.answered;
      };
      part = more_kept (heard before.events) piece part _ before.part (read.kept.part some) ∙ ap (kept_after (Some [])) (sym same);
      empty = read.empty;
      counted = read.kept.counted some;
      turns = turn_reads before.events asked (Some piece) es writes ∙ ap (λ n. n + 1) before.turns;
      few = omega (arith, before.few, lines, len, heard_len);
      long = omega (arith, before.long, len, piece_len, c.if-count-eq0.false, heard_len);
      short = omega (arith, before.short, len, piece_len, within, before.size, heard_len);
      size = omega (arith, before.size);
    }
