use Rattle.std.proofs.Common.{◌≡◌, ◌∙◌, ◌++◌, ◌∷◌, [], map, sym, ap, subst, Some, false, true, is_some, arith}
use Rattle.std.proofs.lemmas.Grind.{common_steps}
use Rattle.std.specs.Prelude.{slice_index_or}
use Rattle.std.proofs.lemmas.List.{map-append, take_more}
use Rattle.pid_types.specs.Membership.{IsIn}
use Rattle.model_laws.proofs.Lists.{each_pushed}
use Rattle.translate.specs.Relations.{relations_at}
use Rattle.call_effects.specs.declared.tasks.Watched.{Watched}
use Rattle.call_effects.proofs.Lists.{index-in}
use Rattle.call_effects.proofs.touched.read_all.Goals as goal

pub unreachable-requires : goal.unreachable-requires
unreachable-requires c =
    let i = index-in c.args.numbers.now c.loop-number.number-index c.loop-number-test.true in
    let n = slice_index_or c.args.numbers.now c.loop-number.number-index 0 in
    let z : false ≡ true = sym (ap (λ o. is_some o) (sym c.relations.ensures ∙ c.in_default.is)) ∙ c.requires n i in absurd (cc)

pub loop-number-preserved : goal.loop-number-preserved
loop-number-preserved c =
    let was = c.loop-number.invariant.watched in
    let items = c.in_ok-push.ensures.items in
    let n = slice_index_or c.args.numbers.now c.loop-number.number-index 0 in
    let more : Watched = record { number = n; before = c.in-Some.before } in
    record {
      watched = record {
        numbered = ap (map (λ (w : Watched). w.number)) items ∙ map-append (λ (w : Watched). w.number) c.loop-number.tasks.items (more ∷ []) ∙ ap (λ ns. ns ++ n ∷ []) was.numbered
            ∙ sym (take_more c.args.numbers.now c.loop-number.number-index 0 c.loop-number-test.true);
        before = λ w on. each_pushed (λ (w : Watched). relations_at c.args.table.now.rows w.number ≡ Some w.before) c.loop-number.tasks.items more was.before
            (sym c.relations.ensures ∙ c.in-Some.is) w (subst (IsIn w) items on);
      };
    }

pub returns : goal.returns
returns c = grind (arith, common_steps)
