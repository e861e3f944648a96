use Rattle.std.proofs.Common.{◌≡◌, ◌≢◌, ◌+◌, ◌<◌, ℕ, length, Option, inl, inr, slice_get, slice_set, sym, ◌∙◌, subst, arith}
use Rattle.std.proofs.lemmas.Bool.{cases_eq}
use Rattle.saved_form.specs.declared.numbers.EntryNumbers.{EntryNumbers}
use Rattle.foreign_calls.specs.Entries.{TellsEntry}
use Rattle.foreign_calls.proofs.EntryRoom.{written, beside}
use Rattle.foreign_calls.proofs.read.read_on.Goals.{then-left-room, else-left-room}
use Rattle.foreign_calls.proofs.read.read_on.Goals as goal

pub loop-i-preserved : goal.loop-i-preserved
loop-i-preserved c =
    let i = c.loop-i.i in
    let within : i < length c.loop-i.entries = elim c.if-left-room.branch [
      | then-left-room w ↦ omega (arith, c.loop-i-test.true, c.loop-i.auto.entries, w.if-left-room, w.count-is)
      | else-left-room w ↦ omega (arith, c.loop-i-test.true, c.loop-i.auto.entries, w.if-left-room, w.count-is)
    ] in
    let other : (k : ℕ) → k ≢ i → slice_get (slice_set c.loop-i.entries i c.entry_at.result) k ≡ slice_get c.loop-i.entries k = λ k differs. beside c.loop-i.entries i k c.entry_at.result differs in
    record {
      told = λ k below. elim (cases_eq k i) [
        | inl at ↦ subst (λ (n : ℕ). TellsEntry c.args.held.now (c.args.from + n) (slice_get (slice_set c.loop-i.entries i c.entry_at.result) n)) (sym at)
            (subst (λ (e : Option EntryNumbers). TellsEntry c.args.held.now (c.args.from + i) e) (sym (written c.loop-i.entries i c.entry_at.result within)) c.entry_at.ensures)
        | inr differs ↦ subst (λ (e : Option EntryNumbers). TellsEntry c.args.held.now (c.args.from + k) e) (sym (other k differs)) (c.loop-i.invariant.told k (omega (arith, below, differs)))
      ];
      behind = λ k past. other k (omega (arith, past)) ∙ c.loop-i.invariant.behind k (omega (arith, past));
    }
