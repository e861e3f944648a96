use Rattle.std.proofs.Common.{◌≡◌, ap, sym, subst, ◌∙◌, is_some, true, arith}
use Rattle.std.proofs.lemmas.Grind.{common_steps}
use Rattle.pid_types.specs.declared.plain.Name.{Name}
use Rattle.pid_types.specs.declared.plain.Row.{Row}
use Rattle.task_table.specs.Store.{HasNoThreads}
use Rattle.task_table.specs.View.{name_at}
use Rattle.task_table.proofs.Changes.{in_range}
use Rattle.task_table.proofs.InUse.{task-used}
use Rattle.table_build.specs.Stages.{SetsRow}
use Rattle.table_build.proofs.Steps.{task-of}
use Rattle.task_table.proofs.Regrouped.{IsRegrouped}
use Rattle.task_tree.specs.Tree.{task_at, parent_of}
use Rattle.groups_sessions.specs.Membership.{membership_at, group_of}
use Rattle.table_build.proofs.Alone.{still_alone}
use Rattle.table_build.proofs.Moves.{bearers-stay, borne-less, places-less, regrouped-row, standing-less}
use Rattle.table_build.proofs.sessions.enter_session.Goals as goal

went : (c : goal.After-laws-2) → IsRegrouped c.args.store.now c.move_to.new.self c.args.key (record { group = c.args.key; session = c.args.session })
went c = record { members = c.move_to.ensures.members; numbers = c.move_to.ensures.numbers; tree = c.move_to.ensures.rest.0; charges = c.move_to.ensures.rest.1 }

pub move_to-requires-clause-session_room : goal.move_to-requires-clause-session_room
move_to-requires-clause-session_room c = grind (arith, common_steps)

pub move_to-requires-clause-group : goal.move_to-requires-clause-group
move_to-requires-clause-group c = let used = task-used c.args.store.now c.laws.ensures c.args.key in grind (arith, used)

pub returns-clause-keeps : goal.returns-clause-keeps
returns-clause-keeps c =
    let there : is_some (membership_at c.args.store.now.members c.args.key) ≡ true =
    c.laws.ensures.agree.members c.args.key ∙ ap (λ t. is_some (task_at t c.args.key)) (sym c.tree.ensures) ∙ ap is_some (sym c.task.ensures) ∙ c.if-is_none.ensures in
    let low = in_range c.args.store.now.members c.args.key there in
    record {
      ungrouped = record {
        orphans = λ k. ap (λ t. parent_of t k) c.move_to.ensures.rest.0 ∙ c.requires.ungrouped.orphans k;
        alone = λ k g at. still_alone c.args.store.now.members c.args.key c.args.session low c.requires.ungrouped.alone k g (sym (ap (λ m. group_of m k) c.move_to.ensures.members) ∙ at);
        borne = borne-less c.args.store.now c.move_to.new.self c.move_to.ensures.rest.0 c.move_to.ensures.numbers c.requires.ungrouped.borne;
        standing = standing-less c.args.store.now.numbering c.move_to.new.self.numbering c.laws.ensures.numbering c.requires.ungrouped.standing c.move_to.ensures.numbers;
        single = subst HasNoThreads (sym c.move_to.ensures.threads) c.requires.ungrouped.single;
      };
      places = places-less c.args.store.now c.move_to.new.self c.laws.ensures.numbering c.requires.ungrouped.standing c.move_to.ensures.numbers c.move_to.ensures.rest.1;
      names = bearers-stay c.args.store.now c.move_to.new.self c.laws.ensures c.laws-2.ensures c.move_to.ensures.rest.0 c.move_to.ensures.numbers;
    }

pub move_to-requires-clause-together : goal.move_to-requires-clause-together
move_to-requires-clause-together c = grind arith

pub move_to-requires-clause-room : goal.move_to-requires-clause-room
move_to-requires-clause-room c = grind (arith, common_steps)

pub move_to-requires-clause-session : goal.move_to-requires-clause-session
move_to-requires-clause-session c = let used = task-used c.args.store.now c.laws.ensures c.args.session in grind (arith, used)

pub move_to-requires-clause-there : goal.move_to-requires-clause-there
move_to-requires-clause-there c = grind arith

pub returns-clause-entered : goal.returns-clause-entered
returns-clause-entered c = λ row e.
    let v = task-of c.args.store.now c.args.key row e in
    subst (λ (n : Name). SetsRow c.args.store.now c.move_to.new.self c.args.key (record row { group = n; session = name_at c.args.store.now.numbering c.args.session })) (ap (λ (r : Row). r.name) v.2)
    (regrouped-row c.args.store.now c.move_to.new.self c.laws.ensures c.laws-2.ensures (λ k p f. let z = sym (c.requires.ungrouped.orphans k) ∙ f in absurd (cc)) c.args.key (record { group = c.args.key; session = c.args.session }) (went c) row e)
