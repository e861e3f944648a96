use Rattle.model_laws.proofs.Subtrees.{count_is_of_subtree, subtree_is_told, counts_are_of_subtrees}
use Rattle.model_laws.proofs.meanings.count_is_of_subtree.Goals as goal

pub returns : goal.returns
returns c = record { count = count_is_of_subtree; told = subtree_is_told; shown = counts_are_of_subtrees }
