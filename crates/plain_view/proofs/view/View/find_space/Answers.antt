use Rattle.std.proofs.Common.{refl}
use Rattle.std.proofs.lemmas.List.Folds.{find-append}
use Rattle.plain_view.proofs.view.View.find_space.Goals as goal

pub returns-in-Some : goal.returns-in-Some
returns-in-Some c = rw (← c.self.view_is, find-append, ← c.find_listed.ensures, c.in-Some.is) refl

pub returns-in-None : goal.returns-in-None
returns-in-None c = rw (c.find_added.ensures, ← c.self.view_is, find-append, ← c.find_listed.ensures, c.in-None.is) refl
