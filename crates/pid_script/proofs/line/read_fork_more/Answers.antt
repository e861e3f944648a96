use Rattle.std.proofs.Common.{sym, codes, ◌∙◌, true≢false}
use Rattle.std.proofs.lemmas.Bool.Decides.{Decides-eqb}
use Rattle.std.proofs.lemmas.Slice.Eq.{ends_is}
use Rattle.pid_script.proofs.Read.{not_new}
use Rattle.pid_script.proofs.line.read_fork_more.Goals as goal

pub returns-then-not-ends_with : goal.returns-then-not-ends_with
returns-then-not-ends_with c =
    let words = c.args.words.now in
    sym (not_new words (λ front is.
    true≢false (sym ((ends_is Decides-eqb words (codes " new") _ c.ends_with.ensures.value).1 front is) ∙ c.if-not-ends_with.true)))
