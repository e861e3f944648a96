use Rattle.std.proofs.Common.{◌≡◌, ◌∙◌, sym, ap, subst, refl, ◌==◌, ℕ, Bool, cond, List, [], ◌∷◌, Some, None, inl, inr}
use Rattle.std.specs.Prelude.{is_some, find, ◌≢◌}
use Rattle.std.proofs.lemmas.Bool.{eq-eqb, false≢true}
use Rattle.std.proofs.lemmas.Bool.Decides.{eqb_tells}
use Rattle.pid_types.proofs.General.{nothing}
use Rattle.pid_types.specs.declared.plain.Control.{Control}
use Rattle.pid_types.specs.Controls.{control_at}
use Rattle.pid_types.specs.Membership.{IsIn}
use Rattle.model_laws.proofs.Lists.{find-None}
use Rattle.kept_table.specs.Chronicle.{Chronicle}
use Rattle.kept_table.proofs.kept.Kept.count.Goals as goal

-- where no group has the id, none is found
not_there : (control : ℕ) (controls : List Control) → ((g : Control) → IsIn g controls → g.id ≢ control) → control_at controls control ≡ None
not_there control [] h = refl
not_there control (g ∷ controls) h =
    elim (eqb_tells g.id control) [
      | inl t ↦ absurd (h g (inl refl) t.1)
      | inr t ↦ ap (λ (b : Bool). cond b (Some g) (find (λ (x : Control). x.id == control) controls)) t.0 ∙ not_there control controls (λ x on. h x (inr on))
    ]

pub returns-clause-none : goal.returns-clause-none
returns-clause-none c =
    let controls = c.self.inside.table.controls in
    let seen = c.self.view_is in (
      λ e.
          let off : control_at controls c.args.control ≡ None = nothing (control_at controls c.args.control) (sym c.count.ensures.there ∙ ap is_some e) in
          λ h on is.
          let here : IsIn h controls = subst (λ (t : Chronicle). IsIn h t.present.controls) (sym seen) on in
          false≢true (sym (find-None (λ x. x.id == c.args.control) controls off h here) ∙ eq-eqb h.id c.args.control is),
      λ none.
          let off : control_at controls c.args.control ≡ None = not_there c.args.control controls (λ h on. none h (subst (λ (t : Chronicle). IsIn h t.present.controls) seen on)) in
          nothing c.count.result (c.count.ensures.there ∙ ap is_some off),
    )
