-- The namespace that is given is the one of the task's identifier: so who is first or a subreaper in it is the task's heir
use Rattle.std.proofs.Common.{◌≡◌, ℕ, true, false, Some, None, MatchOption, option_map, is_some, refl, sym, ap, subst, ◌∙◌}
use Rattle.std.specs.Option.{option_map_or}
use Rattle.pid_numbers.specs.Numbering.{Identifier, identifier_at, number_of}
use Rattle.task_tree.specs.Tree.{task_at, lives}
use Rattle.task_table.specs.Lawful.{IsLawful}
use Rattle.task_table.specs.Store.{Store}
use Rattle.ns_teardown.specs.Heirs.{nearest_subreaper_key}
use Rattle.ns_teardown.proofs.NewParents as parents
use Rattle.ns_teardown.proofs.Visible as visible
use Rattle.ns_teardown.proofs.teardown.new_parent.Goals as goal

-- the identifier of the task, and that the namespace is its own
identifier : (s : Store) (l : IsLawful s) (key space : ℕ) (live : option_map_or lives (task_at s.tree key) false ≡ true)
    (own : (u : Identifier) → identifier_at s.numbering key ≡ Some u → space ≡ u.space)
    → (u : Identifier) × (identifier_at s.numbering key ≡ Some u) × (space ≡ u.space)
identifier s l key space live own =
    let x = visible.live_of _ live in
    let u = visible.named s l.agree key (ap is_some x.1) in
    (u.0, u.1, own u.0 u.1)

pub nearest_subreaper-requires-clause-own : goal.nearest_subreaper-requires-clause-own
nearest_subreaper-requires-clause-own c =
    let u = identifier c.args.store.now c.laws.ensures c.args.key c.args.space c.requires.live c.requires.own in
    ap (option_map (λ (u : Identifier). u.space)) u.1 ∙ ap Some (sym u.2)

pub unreachable-requires : goal.unreachable-requires
unreachable-requires c =
    let none = rw c.numbers.ensures at c.in-None.ensures in
    let u = identifier c.args.store.now c.laws.ensures c.args.key c.args.space c.requires.live c.requires.own in
    let init = parents.init_of c.args.store.now c.laws.ensures c.requires.good c.args.key u.0 u.1 c.requires.live in
    none init.key (ap (number_of c.args.store.now.numbering init.key) u.2 ∙ init.first)

pub returns-in-Some : goal.returns-in-Some
returns-in-Some c =
    let s = c.args.store.now in
    let u = identifier c.args.store.now c.laws.ensures c.args.key c.args.space c.requires.live c.requires.own in
    let nearest : nearest_subreaper_key s u.0.space c.args.key ≡ Some c.in-Some.ancestor = ap (λ sp. nearest_subreaper_key s sp c.args.key) (sym u.2) ∙ sym c.nearest_subreaper.ensures ∙ c.in-Some.is in
    record {
      identifier = u.0;
      named = u.1;
      found = subst (λ o. MatchOption o (number_of s.numbering c.in-Some.ancestor u.0.space ≡ Some 1) (λ a. c.in-Some.ancestor ≡ a)) (sym nearest) refl;
    }

pub returns : goal.returns
returns c =
    let s = c.args.store.now in
    let init = c.in-Some-find.init in
    let u = identifier c.args.store.now c.laws.ensures c.args.key c.args.space c.requires.live c.requires.own in
    let nearest : nearest_subreaper_key s u.0.space c.args.key ≡ None = ap (λ sp. nearest_subreaper_key s sp c.args.key) (sym u.2) ∙ sym c.nearest_subreaper.ensures ∙ c.in_default.is in
    let first = ap (number_of s.numbering init) (sym u.2) ∙ ap (λ b. number_of b init c.args.space) (sym c.numbers.ensures) ∙ c.in-Some-find.ensures in
    record {
      identifier = u.0;
      named = u.1;
      found = subst (λ o. MatchOption o (number_of s.numbering init u.0.space ≡ Some 1) (λ a. init ≡ a)) (sym nearest) first;
    }
