use Rattle.std.proofs.Common.{◌≡◌, ◌∙◌, arith, inl, inr, rules, sym}
use Rattle.foreign_numbers.specs.declared.status.TheConstants.{BAD_TEXT, NO_MEMORY}
use Rattle.foreign_calls.proofs.table.Pidtab.load.Goals as goal

pub returns-in-Ok-clause-done : goal.returns-in-Ok-clause-done
returns-in-Ok-clause-done c = search rules

pub returns-in-Err-clause-fault : goal.returns-in-Err-clause-fault
returns-in-Err-clause-fault c =
    let put = c.put_fault.ensures in
    let none = put.none in record {
      bad_text = put.kind;
      refused = λ bad. c.in-Err.ensures.refused (λ found. let z : BAD_TEXT ≡ NO_MEMORY = sym bad ∙ put.no_memory.1 found in omega (arith, z));
      form = λ bad few. c.in-Err.ensures.form (put.form bad few);
      none = λ not. elim put.statuses [
        | inl is ↦ none is
        | inr bad ↦ absurd (not bad)
      ];
    }
