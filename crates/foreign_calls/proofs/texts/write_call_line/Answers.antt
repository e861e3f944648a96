use Rattle.std.proofs.Common.{◌∙◌, sym}
use Rattle.pid_script.specs.Lines.{line_of}
use Rattle.foreign_calls.proofs.Told.{puts_line}
use Rattle.foreign_calls.proofs.texts.write_call_line.Goals as goal

pub returns : goal.returns
returns c =
    let put = c.write_text.ensures in
    puts_line _ c.in-Some.said line_of c.as_slice.result.now c.args.room.now c.write_text.new.room c.args.size.now c.write_text.new.size c.write_text.result
    (sym c.read_call.ensures ∙ c.in-Some.is) (c.as_slice.ensures.value ∙ c.line_text.ensures) put.size put.done put.room put.no_room put.statuses
