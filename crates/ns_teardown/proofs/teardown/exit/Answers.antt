use Rattle.std.proofs.Common.{◌≡◌, ℕ, ◌==◌, None, is_some, false, Some, IsSome, option_map, sym, ap, subst, ◌∙◌}
use Rattle.std.specs.Option.{option_map_or}
use Rattle.pid_numbers.specs.Numbering.{Numbering, Identifier, identifier_at, number_of}
use Rattle.task_tree.specs.Tree.{task_at, parent_of, handed, lives}
use Rattle.pid_types.specs.declared.plain.Life.{Life}
use Rattle.pid_types.specs.declared.plain.Ended.{Ended}
use Rattle.std.specs.Prelude.{slice_index_or, slice_set}
use Rattle.task_tree.specs.declared.Task.{Task}
use Rattle.task_table.specs.Store.{Store, IsLess}
use Rattle.thread_ends.specs.Ending.{EndsProcesses, KeepsHomes}
use Rattle.thread_ends.proofs.Endings.{ends-one}
use Rattle.thread_ends.proofs.KeptHomes.{KeepsHomes-trans}
use Rattle.ns_teardown.proofs.NewParents as parents
use Rattle.ns_teardown.proofs.teardown.exit.Goals as goal

pub finish-requires-clause-visible : goal.finish-requires-clause-visible
finish-requires-clause-visible c p child =
    let same : c.hand_children.new.store.numbering ≡ c.args.store.now.numbering = ap (λ (s : Store). s.numbering) c.hand_children.ensures.rest in
    let live = ap (λ o. option_map_or lives o false) c.requires.there ∙ c.requires.live in
    let h = c.hand_children.ensures.parents in
    let was : option_map (handed c.args.found.now.key h.0) (parent_of c.args.store.now.tree c.args.found.now.key) ≡ Some p = sym (h.2 c.args.found.now.key) ∙ child in
    let seen = parents.seen_by_parent c.args.store.now c.laws.ensures c.requires.good c.args.found.now.key h.0 p live was in
    subst (λ (b : Numbering). (v : Identifier) × (identifier_at b p ≡ Some v) × IsSome (number_of b c.args.found.now.key v.space)) (sym same) seen

pub returns-clause-tree : goal.returns-clause-tree
returns-clause-tree c =
    let live = ap (λ o. option_map_or lives o false) c.requires.there ∙ c.requires.live in
    let h = c.hand_children.ensures.parents in
    let heir = (parents.heir-beside c.args.store.now c.laws.ensures c.requires.good c.args.found.now.key h.0 live c.requires.inner h.1).1 in
    let task : Task = record c.args.found.now.task { life = Life.Zombie (Ended.Exited c.args.status) } in
    let ended = parents.handed-parents c.args.store.now c.finish.new.store c.requires.good.parents c.args.found.now.key h.0 heir
    (λ k. ap (λ l. slice_index_or l k None) c.finish.ensures.parents ∙ h.2 k)
    (λ k some. ap is_some (ap (λ l. slice_index_or l k None) (c.finish.ensures.tasks ∙ ap (λ l. slice_set l c.args.found.now.key (Some task)) c.hand_children.ensures.tasks))
    ∙ parents.still-tasks c.args.store.now.tree.tasks c.args.found.now.key task k some) in
    subst (λ t. (k p : ℕ) → parent_of t k ≡ Some p → IsSome (task_at t p)) (sym c.end_others.ensures.rest.0) ended

pub returns-clause-threads : goal.returns-clause-threads
returns-clause-threads c =
    let same = ap (λ (s : Store). s.threads) c.hand_children.ensures.rest in
    subst (λ old. EndsProcesses (λ p. p == c.args.found.now.key) old c.end_others.new.store.threads) same
    (ends-one c.hand_children.new.store.threads c.finish.new.store.threads c.end_others.new.store.threads c.args.found.now.key c.finish.ensures.threads c.end_others.ensures.threads c.end_others.ensures.left)

pub returns-clause-homes : goal.returns-clause-homes
returns-clause-homes c =
    let same = ap (λ (s : Store). s.charges) c.hand_children.ensures.rest in
    subst (λ old. KeepsHomes old c.end_others.new.store.charges) same
    (KeepsHomes-trans c.hand_children.new.store.charges c.finish.new.store.charges c.end_others.new.store.charges c.finish.ensures.homes c.end_others.ensures.homes)

pub returns-clause-numbers : goal.returns-clause-numbers
returns-clause-numbers c =
    subst (λ (b : Numbering). IsLess b c.end_others.new.store.numbering) (c.finish.ensures.rest.0 ∙ ap (λ (s : Store). s.numbering) c.hand_children.ensures.rest) c.end_others.ensures.numbers
