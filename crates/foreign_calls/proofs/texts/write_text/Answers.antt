use Rattle.std.proofs.Common.{◌≡◌, ◌++◌, ◌∙◌, ℕ, List, ap, arith, drop, length, refl, rules}
use Rattle.std.proofs.lemmas.Grind.{common_steps}
use Rattle.std.proofs.lemmas.List.{drop_at}
use Rattle.foreign_calls.proofs.texts.write_text.Goals as goal

-- what is behind the text stays
stays : (text put room : List ℕ) → put ≡ text → drop (length text) (put ++ drop (length text) room) ≡ drop (length text) room
stays text put room is = ap (λ front. drop (length text) (front ++ drop (length text) room)) is ∙ drop_at text (drop (length text) room) (length text) refl

pub returns-then-room-text-clause-size : goal.returns-then-room-text-clause-size
returns-then-room-text-clause-size c = search rules

pub returns-clause-size : goal.returns-clause-size
returns-clause-size c = search rules

pub returns-clause-done : goal.returns-clause-done
returns-clause-done c = grind (arith, common_steps)

pub returns-clause-room : goal.returns-clause-room
returns-clause-room c = record { fits = search rules; behind = λ _. stays c.args.text.now c.copy_from_slice.new.self c.args.room.now c.copy_from_slice.ensures.after; not_done = search rules }
