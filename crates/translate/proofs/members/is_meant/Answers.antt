use Rattle.std.proofs.Common.{rules}
use Rattle.translate.proofs.members.is_meant.Goals as goal

pub returns-in-Subtree : goal.returns-in-Subtree
returns-in-Subtree c = search rules
