use Rattle.std.proofs.Common.{ℕ, IsTrue, map, flat_map, sym, subst, length, ◌≤◌, vec_len, arith}
use Rattle.pid_types.specs.declared.call.Kind.TheVariants.{Group, Session}
use Rattle.pid_types.specs.Membership.{IsIn}
use Rattle.translate.specs.Pages.{AreListedFrom}
use Rattle.call_effects.specs.Belonging.{owner_by}
use Rattle.call_effects.specs.Effects.{is_space}
use Rattle.call_effects.specs.Spaces.{watched_spaces}
use Rattle.call_effects.specs.Touched.{AreWatchedSpaces}
use Rattle.call_effects.proofs.Standing.{own_there}
use Rattle.call_effects.proofs.Watching.{few, watches}
use Rattle.call_effects.proofs.touched.Touched.watch.Goals as goal

pub list_spaces-requires : goal.list_spaces-requires
list_spaces-requires c =
    subst (λ ts. (id : ℕ) → IsIn id (flat_map watched_spaces ts) → IsTrue (is_space c.args.table.now id)) (sym c.deref-3.ensures.value)
    (own_there c.args.table.now c.laws.ensures c.args.numbers.now c.in_ok-tasks.tasks.items c.in_ok-tasks.ensures)

pub invariant_of-result : goal.invariant_of-result
invariant_of-result c = grind arith

pub returns-clause-watches : goal.returns-clause-watches
returns-clause-watches c new sound touches keeps =
    let l = c.in_ok-ids.ensures in
    let groups = c.in_ok-groups.groups.items in
    let sessions = c.in_ok-sessions.sessions.items in
    watches c.args.table.now new
    (record { tasks = c.in_ok-tasks.tasks.items; groups = groups; sessions = sessions; spaces = c.in_ok-spaces.spaces.items })
    c.args.numbers.now l.0 c.in_ok-ids.ids.items c.laws.ensures c.no_threads.ensures.threads sound touches keeps c.in_ok-tasks.ensures
    (subst (λ ts. AreListedFrom (map (owner_by Group) ts) 0 groups) c.deref.ensures.value c.in_ok-groups.ensures.listed)
    (subst (λ ts. AreListedFrom (map (owner_by Session) ts) 0 sessions) c.deref-2.ensures.value c.in_ok-sessions.ensures.listed)
    (subst (λ ts. AreListedFrom (flat_map watched_spaces ts) 0 l.0) c.deref-3.ensures.value l.1) l.2
    (subst (λ ids. AreWatchedSpaces c.args.table.now ids c.in_ok-spaces.spaces.items) c.deref-4.ensures.value c.in_ok-spaces.ensures)

pub returns-clause-few : goal.returns-clause-few
returns-clause-few c =
    let l = c.in_ok-ids.ensures in
    let groups = c.in_ok-groups.groups in
    let sessions = c.in_ok-sessions.sessions in
    few c.args.table.now
    (record { tasks = c.in_ok-tasks.tasks.items; groups = groups.items; sessions = sessions.items; spaces = c.in_ok-spaces.spaces.items })
    c.args.numbers.now l.0 c.in_ok-ids.ids.items c.laws.ensures c.requires.rising c.requires.there c.in_ok-tasks.ensures
    (subst (λ n. n ≤ length c.in_ok-tasks.tasks.items) groups.ok.0 (subst (λ ts. vec_len groups ≤ length ts) c.deref.ensures.value c.in_ok-groups.ensures.few))
    (subst (λ n. n ≤ length c.in_ok-tasks.tasks.items) sessions.ok.0 (subst (λ ts. vec_len sessions ≤ length ts) c.deref-2.ensures.value c.in_ok-sessions.ensures.few))
    (subst (λ ts. AreListedFrom (flat_map watched_spaces ts) 0 l.0) c.deref-3.ensures.value l.1) l.2
    (subst (λ ids. AreWatchedSpaces c.args.table.now ids c.in_ok-spaces.spaces.items) c.deref-4.ensures.value c.in_ok-spaces.ensures)

pub returns-clause-reckoned : goal.returns-clause-reckoned
returns-clause-reckoned c =
    let l = c.in_ok-ids.ensures in
    record {
      tasks = c.in_ok-tasks.ensures;
      groups = subst (λ ts. AreListedFrom (map (owner_by Group) ts) 0 c.in_ok-groups.groups.items) c.deref.ensures.value c.in_ok-groups.ensures.listed;
      sessions = subst (λ ts. AreListedFrom (map (owner_by Session) ts) 0 c.in_ok-sessions.sessions.items) c.deref-2.ensures.value c.in_ok-sessions.ensures.listed;
      own = l.0;
      own_spaces = subst (λ ts. AreListedFrom (flat_map watched_spaces ts) 0 l.0) c.deref-3.ensures.value l.1;
      ids = c.in_ok-ids.ids.items;
      all_spaces = l.2;
      spaces = subst (λ ids. AreWatchedSpaces c.args.table.now ids c.in_ok-spaces.spaces.items) c.deref-4.ensures.value c.in_ok-spaces.ensures;
    }
