use Rattle.std.proofs.Common.{◌≡◌, ◌∙◌, None, Some, ℕ, Option, sym, ap, refl, false, arith}
use Rattle.pid_types.specs.declared.plain.Life.TheVariants.{Live}
use Rattle.pids_charge.specs.Charges.{home_id}
use Rattle.task_tree.specs.declared.Task.{Task}
use Rattle.pid_table.proofs.Begun.{never-full, numbers-are, state-begun, whole-begun}
use Rattle.pid_table.proofs.begin_root_init.Goals as goal

pub unreachable-requires : goal.unreachable-requires
unreachable-requires c =
    let full = rw c.numbers.ensures at c.in_default.ensures.err in
    let z : ◌≡◌ {A = Option ℕ} None (Some c.in_default.field-0) = sym (never-full c.args.store.now c.laws.ensures c.requires) ∙ full in
    cc

pub returns-clause-state : goal.returns-clause-state
returns-clause-state c =
    let s = c.args.store.now in
    let planned = rw c.numbers.ensures at c.in-Ok.ensures.ok in
    let task : Task = record { children_space = 0; home = c.in-Some.home; executed = false; subreaper = false; life = Live } in
    state-begun s c.laws.ensures c.requires c.fork.new.self c.laws-2.ensures c.in_ok-fork.field-0 task c.as_slice.result.now c.in_ok-fork.ensures.begun (c.as_slice.ensures.value ∙ planned.1 ∙ numbers-are s c.laws.ensures c.requires)
    c.in_ok-fork.ensures.order c.in_ok-fork.ensures.namespaces c.in-Some.home (ap (λ v. home_id v c.in-Some.home) (sym c.controls.ensures) ∙ c.in-Some.ensures.id) refl

pub returns-clause-whole : goal.returns-clause-whole
returns-clause-whole c =
    let s = c.args.store.now in
    let planned = rw c.numbers.ensures at c.in-Ok.ensures.ok in
    let task : Task = record { children_space = 0; home = c.in-Some.home; executed = false; subreaper = false; life = Live } in
    whole-begun s c.laws.ensures c.requires c.fork.new.self c.laws-2.ensures c.in_ok-fork.field-0 task c.as_slice.result.now c.in_ok-fork.ensures.begun (c.as_slice.ensures.value ∙ planned.1 ∙ numbers-are s c.laws.ensures c.requires)
    c.in_ok-fork.ensures.order c.in_ok-fork.ensures.namespaces c.in-Some.home (ap (λ v. home_id v c.in-Some.home) (sym c.controls.ensures) ∙ c.in-Some.ensures.id) refl
    (c.root_state_is_sound.ensures s.numbering.pid_max 1 c.laws.ensures.numbering.good (omega arith)).0

pub returns-clause-threads : goal.returns-clause-threads
returns-clause-threads c = c.in_ok-fork.ensures.begun.threads
