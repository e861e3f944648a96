use Rattle.std.proofs.Common.{◌≡◌, ◌∙◌, ◌++◌, [], List, ap, flat_map}
use Rattle.pid_types.specs.declared.call.Kind.TheVariants.{Group, Session}
use Rattle.call_effects.specs.declared.effect.Effect.{Effect}
use Rattle.call_effects.specs.Belonging.{gone_in}
use Rattle.call_effects.specs.Changes.{changes_in}
use Rattle.call_effects.specs.Spaces.{changes_of_space}
use Rattle.call_effects.specs.Touched.{Watching}
use Rattle.call_effects.proofs.Fates.{told}
use Rattle.call_effects.proofs.touched.Touched.effects.Goals as goal

-- four lists, one behind the other
four : (none one two three all a b c d : List Effect) → none ≡ [] → one ≡ none ++ a → two ≡ one ++ b → three ≡ two ++ c → all ≡ three ++ d → all ≡ a ++ b ++ c ++ d
four none one two three all a b c d e f g h i =
    i ∙ ap (λ es. es ++ d) (h ∙ ap (λ es. es ++ c) (g ∙ ap (λ es. es ++ b) (f ∙ ap (λ es. es ++ a) e)))

pub returns-clause-effects : goal.returns-clause-effects
returns-clause-effects c old watches =
    let new = c.args.table.now in
    let w = c.args.self in
    told old new w watches c.add_space_changes.new.told.items
    (four c.self.inside.told.items c.add_changes.new.told.items c.add_gone.new.told.items c.add_gone-2.new.told.items c.add_space_changes.new.told.items
    (flat_map (changes_in new) w.tasks) (flat_map (gone_in Group new) w.groups) (flat_map (gone_in Session new) w.sessions) (flat_map (changes_of_space new) w.spaces)
    c.self.invariant.0
    (c.add_changes.ensures.items ∙ ap (λ es. c.self.inside.told.items ++ flat_map (changes_in new) es) (c.deref.ensures.value ∙ ap (λ (x : Watching). x.tasks) c.self.view_is))
    (c.add_gone.ensures.items ∙ ap (λ es. c.add_changes.new.told.items ++ flat_map (gone_in Group new) es) (c.deref-2.ensures.value ∙ ap (λ (x : Watching). x.groups) c.self.view_is))
    (c.add_gone-2.ensures.items ∙ ap (λ es. c.add_gone.new.told.items ++ flat_map (gone_in Session new) es) (c.deref-3.ensures.value ∙ ap (λ (x : Watching). x.sessions) c.self.view_is))
    (c.add_space_changes.ensures.items ∙ ap (λ es. c.add_gone-2.new.told.items ++ flat_map (changes_of_space new) es) (c.deref-4.ensures.value ∙ ap (λ (x : Watching). x.spaces) c.self.view_is)))
