use Rattle.std.proofs.Common.{◌≡◌, ◌∙◌, true, ℕ, List, length, Some}
use Rattle.std.proofs.lemmas.Bool.{eq-eqb}
use Rattle.replica.specs.Entries.{Calls}
use Rattle.replica.specs.Reading.{are_full, lines_behind, lines_in}
use Rattle.replica.proofs.read.read_lines.Goals as goal

all_behind : (session sequence count position : ℕ) (digest : List ℕ) (lines : List (List ℕ)) → count ≡ length lines → true ≡ are_full lines
    → Some (Calls session sequence position digest lines) ≡ lines_behind (session, (sequence, (count, (position, digest)))) lines
all_behind session sequence count position digest lines many full = rw (eq-eqb count (length lines) many, ← full)

pub returns : goal.returns
returns c =
    let head = c.args.head in
    all_behind head.session head.sequence head.count head.position head.digest.now (lines_in c.args.lines.now)
    (c.if-head-count_lines.false ∙ c.count_lines.ensures) c.if-not-are_lines_full.ensures
