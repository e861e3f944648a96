use Rattle.std.proofs.Common.{sym, ◌∙◌}
use Rattle.index_array.proofs.Changes.{none_present}
use Rattle.index_array.proofs.root.give_back_in.Goals as goal

pub returns-clause-empty : goal.returns-clause-empty
returns-clause-empty g c = λ none j. none_present _ (sym c.has_any.ensures ∙ none) j
