-- Field by field. The identifiers of a task's group and session are there
use Rattle.std.proofs.Common.{◌≡◌, ℕ, Some, IsSome, is_some, ◌∙◌, sym, ap}
use Rattle.std.specs.Option.{option_map_or}
use Rattle.pid_types.specs.Names.{root_number}
use Rattle.pid_types.specs.State.{root_name}
use Rattle.pid_numbers.specs.Numbering.{identifier_at}
use Rattle.task_tree.specs.declared.Task.{Task}
use Rattle.task_tree.specs.Tree.{task_at}
use Rattle.groups_sessions.specs.Membership.{group_of, session_of}
use Rattle.task_table.specs.Store.{Store}
use Rattle.task_table.specs.View.{name_at}
use Rattle.task_table.specs.Lawful.{IsLawful}
use Rattle.task_table.proofs.Groups.{group_is, session_is}
use Rattle.task_table.proofs.InUse.{member}
use Rattle.task_table.proofs.LookUps.{group-named, session-named}
use Rattle.translate.proofs.relations.relations_found.Goals as goal

group_there : (s : Store) (l : IsLawful s) (k : ℕ) (t : Task) → task_at s.tree k ≡ Some t → (g : ℕ) → group_of s.members k ≡ Some g → IsSome (identifier_at s.numbering g)
group_there s l k t there g e =
    let m = member s l k t there in
    let u = group-named s l k m.0 m.1 in
    ap is_some (ap (identifier_at s.numbering) (sym (group_is s.members k m.0 m.1 g e)) ∙ u.1)

session_there : (s : Store) (l : IsLawful s) (k : ℕ) (t : Task) → task_at s.tree k ≡ Some t → (g : ℕ) → session_of s.members k ≡ Some g → IsSome (identifier_at s.numbering g)
session_there s l k t there g e =
    let m = member s l k t there in
    let u = session-named s l k m.0 m.1 in
    ap is_some (ap (identifier_at s.numbering) (sym (session_is s.members k m.0 m.1 g e)) ∙ u.1)

pub root_of_name-requires : goal.root_of_name-requires
root_of_name-requires c =
    let group = rw c.members.ensures at c.group-group.ensures in
    group_there c.args.store.now c.laws.ensures c.args.found.now.key c.args.found.now.task c.requires.found.there c.group-group.result group

pub root_of_name-requires-2 : goal.root_of_name-requires-2
root_of_name-requires-2 c =
    let session = rw c.members-2.ensures at c.session-session.ensures in
    session_there c.args.store.now c.laws.ensures c.args.found.now.key c.args.found.now.task c.requires.found.there c.session-session.result session

pub space_of_name-requires : goal.space_of_name-requires
space_of_name-requires c =
    let group = rw c.members.ensures at c.group-group.ensures in
    group_there c.args.store.now c.laws.ensures c.args.found.now.key c.args.found.now.task c.requires.found.there c.group-group.result group

pub space_of_name-requires-2 : goal.space_of_name-requires-2
space_of_name-requires-2 c =
    let session = rw c.members-2.ensures at c.session-session.ensures in
    session_there c.args.store.now c.laws.ensures c.args.found.now.key c.args.found.now.task c.requires.found.there c.session-session.result session

pub returns : goal.returns
returns c =
    let s = c.args.store.now in
    let group = rw c.members.ensures at c.group-group.ensures in
    let session = rw c.members-2.ensures at c.session-session.ensures in
    λ i. record {
      parent = c.parent_number.ensures i;
      life = c.args.found.now.task.life;
      group = (c.root_of_name.ensures ∙ sym (ap (λ o. root_number (option_map_or (name_at s.numbering) o root_name)) group)) i;
      session = (c.root_of_name-2.ensures ∙ sym (ap (λ o. root_number (option_map_or (name_at s.numbering) o root_name)) session)) i;
      space = c.own_id.ensures i;
      group_space = (c.space_of_name.ensures ∙ sym (ap (λ o. (option_map_or (name_at s.numbering) o root_name).space) group)) i;
      session_space = (c.space_of_name-2.ensures ∙ sym (ap (λ o. (option_map_or (name_at s.numbering) o root_name).space) session)) i;
    }
