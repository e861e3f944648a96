use Rattle.std.proofs.Common.{◌≡◌, ◌∙◌, ap, subst, sym, map, ◌++◌, ◌∷◌, [], ◌≤◌, nat_lt, false, None, Some, is_some, if◌then◌else◌, arith}
use Rattle.std.specs.Option.{option_map_or}
use Rattle.std.specs.Result.{result_err}
use Rattle.pid_types.specs.Bounds.{greatest_limit}
use Rattle.pid_types.specs.Controls.{parent_control}
use Rattle.pid_types.specs.declared.reply.Refusal.TheVariants.{BadLimit, RootControl}
use Rattle.pids_charge.specs.Charges.{home_id, limit_refusal}
use Rattle.std.specs.List.{AllByRecursion}
use Rattle.pid_types.specs.Changes.{limited}
use Rattle.table_build.proofs.ControlLists.{below-last, limit-good, limited-last, parent-last}
use Rattle.table_build.proofs.Places.{none_some}
use Rattle.std.proofs.lemmas.Grind.{elements}
use Rattle.table_build.proofs.controls.put_control.Goals as goal

put : (c : goal.In-Ok) → c.set_limit.new.self.charges.controls ≡ c.args.store.now.charges.controls ++ c.args.control.now ∷ []
put c =
    c.in-Ok.ensures.controls
    ∙ ap (λ i. map (limited i c.args.control.now.limit) c.make_control.new.store.charges.controls) c.in_ok-key.ensures.id
    ∙ ap (map (limited c.args.control.now.id c.args.control.now.limit)) c.in_ok-key.ensures.made
    ∙ limited-last c.args.store.now.charges.controls c.args.control.now c.args.last c.in_ok-key.ensures.above c.requires.below

pub returns-in-Ok-clause-below : goal.returns-in-Ok-clause-below
returns-in-Ok-clause-below c =
    subst (AllByRecursion (λ g. g.id ≤ c.args.control.now.id)) (sym (put c))
    (below-last c.args.store.now.charges.controls c.args.control.now c.args.last c.in_ok-key.ensures.above c.requires.below)

pub returns-in-Ok-clause-put : goal.returns-in-Ok-clause-put
returns-in-Ok-clause-put c = put c

pub returns-in-Err-clause-rest : goal.returns-in-Err-clause-rest
returns-in-Err-clause-rest c = grind arith

pub returns-in-Ok-clause-rest : goal.returns-in-Ok-clause-rest
returns-in-Ok-clause-rest c = grind arith

pub returns-in-Err-clause-refused : goal.returns-in-Err-clause-refused
returns-in-Err-clause-refused c = λ _ may.
    let up : parent_control c.make_control.new.store.charges.controls (home_id c.make_control.new.store.charges c.in_ok-key.key) ≡ c.args.control.now.parent =
    ap (parent_control c.make_control.new.store.charges.controls) c.in_ok-key.ensures.id ∙ ap (λ l. parent_control l c.args.control.now.id) c.in_ok-key.ensures.made
    ∙ parent-last c.args.store.now.charges.controls c.args.control.now c.args.last c.in_ok-key.ensures.above c.requires.below in
    let none : limit_refusal c.make_control.new.store.charges c.in_ok-key.key c.args.control.now.limit ≡ None =
    ap (λ o. if is_some o then (if option_map_or (nat_lt greatest_limit) c.args.control.now.limit false then Some BadLimit else None) else Some RootControl) (up ∙ may.inside.1)
    ∙ ap (λ b. if b then Some BadLimit else None) (limit-good c.args.control.now may.good) in
    let some = sym (ap result_err c.in-Err.is) ∙ c.set_limit.ensures.refusal ∙ none in
    absurd (none_some (sym some))

pub returns-then-is_none-clause-below : goal.returns-then-is_none-clause-below
returns-then-is_none-clause-below c = grind (arith, elements)
