use Rattle.std.proofs.Common.{sym, ◌∙◌}
use Rattle.pid_types.specs.Draw.{draw}
use Rattle.plain_view.proofs.Draws.{draw-upper, draw-lower}
use Rattle.plain_view.proofs.view.View.draw.Goals as goal

pub returns-in-Some-clause-value : goal.returns-in-Some-clause-value
unfolding draw
returns-in-Some-clause-value c = rw (← c.cursor-cursor.ensures) (draw-upper _ _ _ _ (rw (← c.restart-low.ensures, ← c.max.ensures) (sym c.find_free.ensures.value ∙ c.in-Some.is)))

pub returns-in-None-clause-value : goal.returns-in-None-clause-value
unfolding draw
returns-in-None-clause-value c = rw (c.find_free-in-None.ensures.value, c.restart-low.ensures, ← c.cursor-cursor.ensures) (draw-lower _ _ _ (rw (← c.restart-low.ensures, ← c.max.ensures) (sym c.find_free.ensures.value ∙ c.in-None.is)))
