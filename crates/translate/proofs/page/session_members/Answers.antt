use Rattle.std.proofs.Common.{◌∙◌, sym, ap, subst, ◌++◌, arith}
use Rattle.pid_types.specs.declared.call.Kind.TheVariants as kinds
use Rattle.translate.specs.Gathered.{numbers_of_keys, AreGathered}
use Rattle.translate.proofs.Pages.{nobody, all_in_room}
use Rattle.translate.proofs.Groups.{gathered_session, roomy}
use Rattle.translate.proofs.page.session_members.Goals as goal

pub gather_groups-requires : goal.gather_groups-requires
gather_groups-requires c =
    rw (← c.members-members.ensures) (all_in_room c.members-members.result.now c.laws-2.ensures.room c.args.session c.session_groups-groups.result c.session_groups-groups.ensures.owned)

pub returns : goal.returns
returns c =
    let s = c.args.store.now in
    let some = c.in_ok-gather_groups.ensures in
    subst (AreGathered s c.args.space kinds.Session c.args.session c.args.from)
    (sym (some.added ∙ ap (λ ns. ns ++ numbers_of_keys s.numbering c.args.space c.args.from some.keys) c.new-numbers.ensures.items))
    (gathered_session s c.laws.ensures c.args.space c.args.from c.args.session c.session_groups-groups.result some.keys
    (rw c.members-members.ensures at c.session_groups-groups.ensures) some.each)

pub returns-then-session-keys : goal.returns-then-session-keys
returns-then-session-keys c =
    let s = c.args.store.now in
    let room = rw c.members-members.ensures at c.laws-2.ensures.session_room in
    let few = rw c.members-members.ensures at c.keys.ensures in
    let past = c.if-session-keys.true in
    subst (AreGathered s c.args.space kinds.Session c.args.session c.args.from) (sym c.new-numbers.ensures.items)
    (nobody s c.laws.ensures c.args.space c.args.from kinds.Session c.args.session
    (λ k mine. let lt = roomy s.members room k c.args.session mine in absurd (omega (arith, lt, few, past))))
