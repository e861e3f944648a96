use Rattle.std.proofs.Common.{◌≡◌, ◌∙◌, ◌↔◌, ℕ, eqb, true, sym}
use Rattle.std.proofs.lemmas.Bool.{eq-eqb, eqb-true}
use Rattle.pid_types.specs.declared.reply.Reply.{Reply}
use Rattle.pid_types.specs.declared.reply.Reply.TheVariants.{Forked}
use Rattle.foreign_calls.specs.declared.would.Wanted.{Wanted}
use Rattle.foreign_calls.specs.Would.{wanted_reply}
use Rattle.foreign_calls.proofs.would.Wanted.is_met_by.Goals as goal

is_forked : (told : Reply) (wanted : Wanted) (child root : ℕ) → told ≡ Forked child root → child ≡ wanted.child → (eqb root wanted.root ≡ true) ↔ (told ≡ wanted_reply wanted)
is_forked told wanted child root is same = (
  λ test. is ∙ (λ i. Forked (same i) (eqb-true root wanted.root test i)),
  λ met. eq-eqb root wanted.root (let both : Forked child root ≡ Forked wanted.child wanted.root = sym is ∙ met in cc both),
)

pub returns-then-child-self : goal.returns-then-child-self
returns-then-child-self c = is_forked c.args.told.now c.args.self.now c.in-Forked.child c.in-Forked.root c.in-Forked.is c.if-child-self.true
