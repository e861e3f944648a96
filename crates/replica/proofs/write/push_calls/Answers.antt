use Rattle.replica.proofs.Written.{on_ok, calls_written}
use Rattle.replica.proofs.write.push_calls.Goals as goal

pub returns : goal.returns
returns c =
    on_ok c.push_lines.result (λ behind.
    calls_written c.push_lines.new.text.items c.push_head.new.text.items c.args.text.now.items c.args.lines.now c.args.digest.now c.args.session c.args.sequence
    c.count_lines.result c.args.position behind c.in_ok-push_head.ensures c.count_lines.ensures) c.push_lines.ensures
