-- The numbers were planned before the task was there and are its identifier's now: the outermost is the one that the root sees
use Rattle.std.proofs.Common.{ℕ, List, ◌≡◌, ◌∙◌, ◌-◌, ◌<◌, sym, ap, subst, length, reverse, Some, IsSome, arith}
use Rattle.std.specs.Prelude.{unwrap_or, slice_index}
use Rattle.std.specs.Option.{option_map_or}
use Rattle.std.proofs.lemmas.List.{get_or-reverse}
use Rattle.pid_types.proofs.General.{held}
use Rattle.pid_types.specs.State.{root_name}
use Rattle.pid_types.specs.Names.{root_number, number_or_zero}
use Rattle.pid_types.specs.declared.reply.Reply.TheVariants.{Forked}
use Rattle.pid_numbers.specs.Numbering.{Identifier, id_at, identifier_at, number_of}
use Rattle.task_table.specs.Store.{Store}
use Rattle.task_table.specs.Lawful.{IsLawful}
use Rattle.task_table.specs.View.{name_at, name_of, state_of}
use Rattle.task_table.proofs.LookUps.{seen, root-number}
use Rattle.fork_calls.proofs.reply_for.Goals as goal

-- the root number of an identifier is the outermost of its numbers
outermost : (s : Store) → IsLawful s → (k : ℕ) → IsSome (identifier_at s.numbering k) → (numbers : List ℕ) → ((u : Identifier) → identifier_at s.numbering k ≡ Some u → u.numbers ≡ numbers)
    → slice_index numbers (length numbers - 1) ≡ root_number (name_at s.numbering k)
outermost s l k there numbers same =
    let u = held (identifier_at s.numbering k) there in
    let some : 0 < length numbers = subst (λ (ns : List ℕ). 0 < length ns) (same u.0 u.1) (l.numbering.full k u.0 u.1).0 in
    let last : length numbers - 1 ≡ length numbers - 1 - 0 = omega arith in
    ap (slice_index numbers) last ∙ sym (get_or-reverse numbers 0 0 some) ∙ ap (λ ns. slice_index (reverse ns) 0) (sym (same u.0 u.1))
    ∙ sym (ap (λ o. root_number (option_map_or (name_of s.numbering) o root_name)) u.1)

-- what the caller sees is the number in its namespace
seen_by : (s : Store) → IsLawful s → (k : ℕ) → IsSome (identifier_at s.numbering k) → (own i : ℕ) → id_at s.numbering own ≡ Some i
    → unwrap_or (number_of s.numbering k own) 0 ≡ number_or_zero (state_of s).spaces (name_at s.numbering k) i
seen_by s l k there own i at =
    let u = held (identifier_at s.numbering k) there in
    sym (seen s l own i k u.0 at u.1)

pub returns-then-own-eq0 : goal.returns-then-own-eq0
returns-then-own-eq0 c i at =
    let s = c.args.store.now in
    let u = held (identifier_at s.numbering c.args.key) c.requires.there in
    let root = outermost s c.laws.ensures c.args.key c.requires.there c.args.numbers.now c.requires.numbers in
    let child = root ∙ sym (ap (λ o. unwrap_or o 0) (root-number s c.laws.ensures c.args.key u.0 u.1)) ∙ ap (λ q. unwrap_or (number_of s.numbering c.args.key q) 0) (sym c.if-own-eq0.true)
    ∙ seen_by s c.laws.ensures c.args.key c.requires.there c.args.own i at in
    λ j. Forked (child j) (root j)

pub returns-else-own-eq0 : goal.returns-else-own-eq0
returns-else-own-eq0 c i at =
    let s = c.args.store.now in
    let root = outermost s c.laws.ensures c.args.key c.requires.there c.args.numbers.now c.requires.numbers in
    let child = c.number_seen-child.ensures ∙ seen_by s c.laws.ensures c.args.key c.requires.there c.args.own i at in
    λ j. Forked (child j) (root j)
