use Rattle.std.proofs.Common.{◌≡◌, ◌^◌, ◌∙◌, arith, rules, sym}
use Rattle.pid_script.proofs.Numbers.{short_some}
use Rattle.table_text.proofs.Scanned.{number_read}
use Rattle.table_text.proofs.scan.read_number.Goals as goal

pub returns-then-is_plain-clause-read : goal.returns-then-is_plain-clause-read
returns-then-is_plain-clause-read c =
    let front = c.read_front-front.ensures in
    let same : c.from.result ≡ c.read_front-front.result.number = omega (arith, c.from.ensures) in
    record {
      within = front.within;
      read = number_read (2 ^ 32) c.args.text.now c.args.at.now c.read_front-front.result.end c.from.result front.from
          (sym (short_some _ c.from.result (omega arith) (c.if-is_plain.ensures.0 (search rules)) front.digits (same ∙ front.value)));
      words = search rules;
      stops = front.stops (omega arith);
    }
