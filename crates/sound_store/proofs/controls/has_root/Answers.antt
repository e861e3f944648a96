use Rattle.std.proofs.Common.{arith}
use Rattle.sound_store.proofs.controls.has_root.Goals as goal

pub returns-in-Some : goal.returns-in-Some
returns-in-Some c = grind arith
