use Rattle.std.proofs.Common.{◌≡◌, ◌∙◌, sym, ap, subst, refl, option_map, w32}
use Rattle.std.specs.Prelude.{slice_set}
use Rattle.std.proofs.lemmas.Int.{to_z-of_z}
use Rattle.pid_types.proofs.General.{held}
use Rattle.pid_types.specs.declared.reply.Reply.TheVariants.{Done}
use Rattle.pid_types.specs.Names.{with_row}
use Rattle.pid_types.specs.Outcome.{Outcome, changed}
use Rattle.pid_types.specs.Groups.{set_group, set_pgid}
use Rattle.task_tree.specs.Tree.{task_at}
use Rattle.groups_sessions.specs.Membership.{Membership, membership_at}
use Rattle.task_table.specs.Store.{HasNoThreads}
use Rattle.task_table.specs.View.{name_at, state_of}
use Rattle.task_table.proofs.InUse.{used-here}
use Rattle.task_table.proofs.Regrouped.{IsRegrouped, parents-regrouped}
use Rattle.set_calls.proofs.Regrouped.{joined}
use Rattle.set_calls.proofs.groups.set_pgid.Goals as goal

pub set_group-requires-clause-group : goal.set_group-requires-clause-group
set_group-requires-clause-group c = used-here c.args.store.now c.laws.ensures c.requires.alone c.in-Ok.goes.group c.in-Ok.ensures.may.group

pub returns-in-Ok : goal.returns-in-Ok
returns-in-Ok c =
    let old = c.args.store.now in
    let new = c.set_group.new.self in
    let goes = c.in-Ok.goes in
    let h = c.in-Ok.ensures in
    let t = held (task_at old.tree goes.task) h.may.task in
    let m = held (membership_at old.members goes.task) h.may.member in
    let member : Membership = record m.0 { group = goes.group } in
    let r : IsRegrouped old new goes.task member = record {
      members = c.set_group.ensures.members ∙ ap (λ o. slice_set old.members goes.task (option_map (λ (i : Membership). record i { group = goes.group }) o)) m.1;
      numbers = c.set_group.ensures.numbers;
      tree = c.set_group.ensures.rest.0;
      charges = c.set_group.ensures.rest.1;
    } in
    let came : set_pgid (state_of old) c.args.caller c.args.pid c.args.pgid ≡ changed (with_row (state_of old) (name_at old.numbering goes.task) (set_group (name_at old.numbering goes.group))) Done =
    ap (λ z. set_pgid (state_of old) c.args.caller z c.args.pgid) (sym (to_z-of_z w32 c.args.pid c.ranges.pid)) ∙ ap (set_pgid (state_of old) c.args.caller _) (sym (to_z-of_z w32 c.args.pgid c.ranges.pgid)) ∙ h.outcome in
    record {
      state = sym (ap (λ (o : Outcome). o.state) came ∙ joined old new c.laws.ensures c.laws-in-Ok.ensures c.requires.parents goes.task t.0 t.1 member r (subst HasNoThreads (sym c.set_group.ensures.threads) c.requires.alone) m.0 m.1 refl);
      reply = sym (ap (λ (o : Outcome). o.reply) came);
      parents = parents-regrouped old new c.laws.ensures c.laws-in-Ok.ensures c.requires.parents goes.task t.0 t.1 member r;
      threads = c.set_group.ensures.threads;
    }
