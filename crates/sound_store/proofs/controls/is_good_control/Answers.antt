use Rattle.std.proofs.Common.{arith}
use Rattle.sound_store.proofs.controls.is_good_control.Goals as goal

pub returns-else-leads_to_root : goal.returns-else-leads_to_root
returns-else-leads_to_root c = grind arith

pub returns-then-leads_to_root : goal.returns-then-leads_to_root
returns-then-leads_to_root c = grind arith
