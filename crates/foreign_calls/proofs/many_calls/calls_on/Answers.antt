use Rattle.std.proofs.Common.{◌≡◌, ◌+◌, ◌<◌, length, drop, ap, sym, ◌∙◌, arith}
use Rattle.std.proofs.lemmas.List.{drop-drop, drop-set-lt}
use Rattle.saved_form.specs.declared.numbers.ReplyNumbers.{ReplyNumbers}
use Rattle.std.specs.Prelude.{List}
use Rattle.foreign_numbers.specs.declared.status.TheConstants.{DONE}
use Rattle.foreign_calls.proofs.Replaying.{waits_next}
use Rattle.foreign_calls.proofs.Turning.{turns_next}
use Rattle.foreign_calls.proofs.many_calls.calls_on.Goals as goal

pub loop-i-preserved : goal.loop-i-preserved
loop-i-preserved c =
    let i = c.loop-i.i in
    let before = c.loop-i.replies in
    let told = c.turn_on-status.ensures in
    let done : c.turn_on-status.result ≡ DONE = assumption in
    let room : i < length before = omega (arith, c.loop-i-test.true, c.loop-i.auto.replies, c.if-replies-calls.false) in
    record {
      left = turns_next _ c.args.worker c.args.calls.now before _ _ i _ _ c.loop-i-test.true room c.loop-i.invariant.left (told.done done);
      waits = waits_next i _ _ _ c.loop-i.invariant.waits (told.moved done);
      behind = drop-set-lt (i + 1) before i _ (omega arith) ∙ sym (drop-drop 1 i before)
          ∙ ap (λ (rs : List ReplyNumbers). drop 1 rs) c.loop-i.invariant.behind ∙ drop-drop 1 i c.args.replies.now;
      known = omega (arith, told.workers, c.loop-i.invariant.known);
      room = omega (arith, told.room, c.loop-i.invariant.room);
      place = λ some. told.place done;
      no_place = λ zero. absurd (omega (arith, zero));
    }
