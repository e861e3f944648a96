use Rattle.std.proofs.Common.{◌≡◌, ◌∙◌, ap, sym, subst, option_map}
use Rattle.pid_types.specs.declared.entry.Entry.{Entry}
use Rattle.kept_table.specs.Chronicle.{Chronicle, kept_entry}
use Rattle.kept_table.proofs.Totals.{kept_entry-kept}
use Rattle.kept_table.proofs.kept.Kept.worker_of.Goals as goal

pub returns : goal.returns
returns c =
    subst (λ (t : Chronicle). c.worker_at.result ≡ option_map (λ (e : Entry). e.worker) (kept_entry t c.args.ordinal)) c.self.view_is
    (c.worker_at.ensures
    ∙ ap (option_map (λ (e : Entry). e.worker)) (sym (kept_entry-kept c.self.inside.first_kept c.self.inside.history.entries c.args.ordinal c.if-ordinal-self.false)))
