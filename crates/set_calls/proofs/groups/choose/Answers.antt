-- The rules of setpgid are asked of keys: they ask the model's questions in the same order, so the first refusal is the same one
use Rattle.std.proofs.Common.{◌≡◌, ◌∙◌, sym, ap, subst, ℤ, w32, arith}
use Rattle.std.proofs.lemmas.Int.{to_z-of_z}
use Rattle.std.specs.Prelude.{Ok}
use Rattle.groups_sessions.specs.declared.ask.GroupAsk.{GroupAsk}
use Rattle.groups_sessions.specs.Membership.{session_of}
use Rattle.groups_sessions.specs.Setpgid.{setpgid_answer}
use Rattle.task_table.specs.View.{state_of}
use Rattle.set_calls.specs.Asked.{IsNamed}
use Rattle.set_calls.proofs.Asked.{IsAsk, unknown-caller, refuses, chooses, may}
use Rattle.set_calls.proofs.groups.choose.Goals as goal

pub returns-in_default-clause-outcome : goal.returns-in_default-clause-outcome
returns-in_default-clause-outcome c = unknown-caller (state_of c.args.store.now) c.args.caller c.args.pid c.args.pgid c.in_default.ensures.row

pub unreachable-requires : goal.unreachable-requires
unreachable-requires c = grind arith

pub returns-in-Err-clause-outcome : goal.returns-in-Err-clause-outcome
returns-in-Err-clause-outcome c =
    let s = c.args.store.now in
    let found = c.in-Some.found in
    let asked : ℤ → GroupAsk = λ z. record { caller = found.key; session = c.session-session.result; space = found.space; pgid = z; target = c.named_target-target.result } in
    let ask = asked c.args.pgid in
    let asks : IsAsk s found.task c.args.pid ask = record {
      there = c.in-Some.ensures.there.0;
      session = ap (λ m. session_of m found.key) (sym c.members-2.ensures) ∙ c.session-session.ensures;
      space = c.in-Some.ensures.id;
      target = subst (λ (z : ℤ). IsNamed s found.key found.task z c.named_target-target.result) (to_z-of_z w32 c.args.pid c.ranges.pid) c.named_target-target.ensures;
    } in
    refuses s c.laws.ensures c.requires found.task c.args.pid ask asks c.args.caller c.in-Some.ensures.row c.in-Err.refusal
    (sym (c.in-Err.ensures ∙ ap (λ z. setpgid_answer c.members-3.result.now c.numbers.result.now (asked z)) (to_z-of_z w32 c.args.pgid c.ranges.pgid) ∙ ap (λ m. setpgid_answer m c.numbers.result.now ask) c.members-3.ensures ∙ ap (λ b. setpgid_answer s.members b ask) c.numbers.ensures))

pub returns-in-Some-target : goal.returns-in-Some-target
returns-in-Some-target c =
    let s = c.args.store.now in
    let found = c.in-Some.found in
    let asked : ℤ → GroupAsk = λ z. record { caller = found.key; session = c.session-session.result; space = found.space; pgid = z; target = c.named_target-target.result } in
    let ask = asked c.args.pgid in
    let asks : IsAsk s found.task c.args.pid ask = record {
      there = c.in-Some.ensures.there.0;
      session = ap (λ m. session_of m found.key) (sym c.members-2.ensures) ∙ c.session-session.ensures;
      space = c.in-Some.ensures.id;
      target = subst (λ (z : ℤ). IsNamed s found.key found.task z c.named_target-target.result) (to_z-of_z w32 c.args.pid c.ranges.pid) c.named_target-target.ensures;
    } in
    let answer : setpgid_answer s.members s.numbering ask ≡ Ok c.in-Ok.group =
    sym (c.in-Ok.ensures ∙ ap (λ z. setpgid_answer c.members-3.result.now c.numbers.result.now (asked z)) (to_z-of_z w32 c.args.pgid c.ranges.pgid) ∙ ap (λ m. setpgid_answer m c.numbers.result.now ask) c.members-3.ensures ∙ ap (λ b. setpgid_answer s.members b ask) c.numbers.ensures) in
    record {
      outcome = chooses s c.laws.ensures c.requires found.task c.args.pid ask asks c.args.caller c.in-Some.ensures.row c.in-Some-target.target c.in-Some-target.is c.in-Ok.group answer;
      may = may s c.laws.ensures c.requires found.task c.args.pid ask asks (rw c.members.ensures at c.laws-2.ensures.room) c.in-Some-target.target c.in-Some-target.is c.in-Ok.group answer;
    }
