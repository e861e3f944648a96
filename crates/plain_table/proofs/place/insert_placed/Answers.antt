use Rattle.std.proofs.Common.{◌≡◌, length, sym, ap, ◌∙◌}
use Rattle.std.specs.Prelude.{insert, unwrap_or, position, nat_lt}
use Rattle.plain_table.proofs.Inserted.{insert_by-place}
use Rattle.plain_table.proofs.place.insert_placed.Goals as goal

pub returns : goal.returns
returns g c =
    let place : c.place_of-place.result ≡ unwrap_or (position (λ x. nat_lt (g.T.Placed.key c.args.new) (g.T.Placed.key x)) c.args.elements.now.items) (length c.args.elements.now.items) =
    rw (← c.key.ensures, ← c.deref.ensures.value) c.place_of-place.ensures.place in
    c.in-Ok.ensures.items ∙ ap (λ k. insert c.args.elements.now.items k c.args.new) place ∙ sym (insert_by-place (g.T.Placed.key) c.args.new c.args.elements.now.items)
