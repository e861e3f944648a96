use Rattle.std.proofs.Common.{◌≡◌, ◌∙◌, ◌++◌, ◌∷◌, [], map, sym, ap, subst, arith}
use Rattle.std.proofs.lemmas.Grind.{common_steps}
use Rattle.std.specs.Prelude.{slice_index_or}
use Rattle.std.proofs.lemmas.List.{map-append, take_more}
use Rattle.pid_types.specs.Membership.{IsIn}
use Rattle.model_laws.proofs.Lists.{each_pushed}
use Rattle.call_effects.specs.declared.spaces.WatchedSpace.{WatchedSpace}
use Rattle.call_effects.specs.Effects.{takes_tasks}
use Rattle.call_effects.proofs.spaces.watch_spaces.Goals as goal

pub returns : goal.returns
returns c = grind (arith, common_steps)

pub loop-id-preserved : goal.loop-id-preserved
loop-id-preserved c =
    let was = c.loop-id.invariant.watched in
    let items = c.in_ok-push.ensures.items in
    let id = slice_index_or c.args.ids.now c.loop-id.id-index 0 in
    let more : WatchedSpace = record { id = id; stood = c.is_standing.result } in
    record {
      watched = record {
        numbered = ap (map (λ (w : WatchedSpace). w.id)) items ∙ map-append (λ (w : WatchedSpace). w.id) c.loop-id.spaces.items (more ∷ []) ∙ ap (λ ns. ns ++ id ∷ []) was.numbered
            ∙ sym (take_more c.args.ids.now c.loop-id.id-index 0 c.loop-id-test.true);
        before = λ w on. each_pushed (λ (w : WatchedSpace). takes_tasks c.args.table.now w.id ≡ w.stood) c.loop-id.spaces.items more was.before
            (sym c.is_standing.ensures) w (subst (IsIn w) items on);
      };
    }
