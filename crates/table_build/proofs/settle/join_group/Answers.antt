use Rattle.std.proofs.Common.{◌≡◌, Some, ap, sym, subst, ◌∙◌, is_some, option_map, arith}
use Rattle.std.proofs.lemmas.Grind.{common_steps}
use Rattle.pid_types.specs.declared.plain.Name.{Name}
use Rattle.pid_types.specs.declared.plain.Row.{Row}
use Rattle.std.specs.Prelude.{slice_set}
use Rattle.groups_sessions.specs.Membership.{Membership, membership_at, session_of}
use Rattle.task_tree.specs.Tree.{task_at, parent_of}
use Rattle.task_table.specs.Store.{HasNoThreads}
use Rattle.task_table.specs.View.{name_at, row_with}
use Rattle.task_table.proofs.Regrouped.{IsRegrouped}
use Rattle.task_table.proofs.Seated.{session-name}
use Rattle.task_table.proofs.InUse.{member, task-used}
use Rattle.table_build.specs.Grouping.{IsGrouping}
use Rattle.table_build.specs.Stages.{SetsRow}
use Rattle.table_build.proofs.Steps.{task-of}
use Rattle.table_build.proofs.Moves.{bearers-stay, borne-less, places-less, regrouped-row, standing-less}
use Rattle.groups_sessions.specs.Membership.{IsSessionOf}
use Rattle.table_build.proofs.PartSteps.{one-session}
use Rattle.table_build.proofs.settle.join_group.Goals as goal

went : (c : goal.After-laws-2) (m : Membership) → membership_at c.args.store.now.members c.args.key ≡ Some m
    → IsRegrouped c.args.store.now c.set_group.new.self c.args.key (record m { group = c.args.group })
went c m at = record {
  members = c.set_group.ensures.members ∙ ap (λ o. slice_set c.args.store.now.members c.args.key (option_map (λ (i : Membership). record i { group = c.args.group }) o)) at;
  numbers = c.set_group.ensures.numbers;
  tree = c.set_group.ensures.rest.0;
  charges = c.set_group.ensures.rest.1;
}

grouping : (c : goal.After-laws-2) → IsGrouping c.set_group.new.self
grouping c = record {
  kin = λ k p e. ap (λ x. is_some (task_at x p)) c.set_group.ensures.rest.0 ∙ c.requires.grouping.kin k p (sym (ap (λ x. parent_of x k) c.set_group.ensures.rest.0) ∙ e);
  borne = borne-less c.args.store.now c.set_group.new.self c.set_group.ensures.rest.0 c.set_group.ensures.numbers c.requires.grouping.borne;
  standing = standing-less c.args.store.now.numbering c.set_group.new.self.numbering c.laws.ensures.numbering c.requires.grouping.standing c.set_group.ensures.numbers;
  single = subst HasNoThreads (sym c.set_group.ensures.threads) c.requires.grouping.single;
}

sets : (c : goal.After-laws-2) (row : Row) → row_with c.args.store.now c.args.key ≡ Some row
    → SetsRow c.args.store.now c.set_group.new.self c.args.key (record row { group = name_at c.args.store.now.numbering c.args.group })
sets c row e =
    let v = task-of c.args.store.now c.args.key row e in
    let m = member c.args.store.now c.laws.ensures c.args.key v.0 v.1 in
    let name : name_at c.args.store.now.numbering m.0.session ≡ row.session =
    sym (session-name c.args.store.now c.laws.ensures c.args.key v.0 m.0 m.1) ∙ ap (λ (r : Row). r.session) v.2 in
    subst (λ (n : Name). SetsRow c.args.store.now c.set_group.new.self c.args.key (record row { group = name_at c.args.store.now.numbering c.args.group; session = n })) name
    (regrouped-row c.args.store.now c.set_group.new.self c.laws.ensures c.laws-2.ensures c.requires.grouping.kin c.args.key (record m.0 { group = c.args.group }) (went c m.0 m.1) row e)

pub returns-clause-joined : goal.returns-clause-joined
returns-clause-joined c = record {
  keeps = record {
    grouping = grouping c;
    places = places-less c.args.store.now c.set_group.new.self c.laws.ensures.numbering c.requires.grouping.standing c.set_group.ensures.numbers c.set_group.ensures.rest.1;
    names = bearers-stay c.args.store.now c.set_group.new.self c.laws.ensures c.laws-2.ensures c.set_group.ensures.rest.0 c.set_group.ensures.numbers;
  };
  sets = λ row e. sets c row e;
}

pub set_group-requires-clause-room : goal.set_group-requires-clause-room
set_group-requires-clause-room c = grind (arith, common_steps)

pub set_group-requires-clause-together : goal.set_group-requires-clause-together
set_group-requires-clause-together c = grind arith

pub returns-clause-tree : goal.returns-clause-tree
returns-clause-tree c = grind arith

pub returns-in-Some-clause-refused : goal.returns-in-Some-clause-refused
returns-in-Some-clause-refused c = λ row e there inside.
    let s = c.args.store.now in
    let own : session_of s.members c.args.key ≡ Some c.session-session.result = ap (λ ms. session_of ms c.args.key) (sym c.members.ensures) ∙ c.session-session.ensures in
    let of_group = subst (λ ms. IsSessionOf ms c.args.group (Some c.in-Some.found)) c.members-2.ensures c.in-Some.ensures in
    c.if-found-session.true (one-session s c.laws.ensures c.args.key row c.args.group c.in-Some.found c.session-session.result e own of_group inside)

pub session-session-requires : goal.session-session-requires
session-session-requires c = grind arith

pub set_group-requires-clause-there : goal.set_group-requires-clause-there
set_group-requires-clause-there c = grind arith

pub set_group-requires-clause-group : goal.set_group-requires-clause-group
set_group-requires-clause-group c = let used = task-used c.args.store.now c.laws.ensures c.args.group in grind (arith, used)
