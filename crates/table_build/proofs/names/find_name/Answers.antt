use Rattle.std.proofs.Common.{◌≡◌, Some, None, not, ap, sym, ◌∙◌, slice_get, arith, true≢false}
use Rattle.std.specs.Option.{option_copied}
use Rattle.pid_types.proofs.General.{held}
use Rattle.pid_types.specs.Names.{root_number}
use Rattle.model_laws.proofs.Names.{same_name-refl}
use Rattle.pid_numbers.specs.Numbering.{identifier_at, number_of}
use Rattle.task_tree.specs.Tree.{task_at}
use Rattle.task_table.proofs.LookUps.{named, root-number}
use Rattle.table_build.proofs.Parts.{found-name, numbered, some-number}
use Rattle.table_build.proofs.Places.{first-is, no-first}
use Rattle.table_build.proofs.names.find_name.Goals as goal

pub returns-in_default-clause-refused : goal.returns-in_default-clause-refused
returns-in_default-clause-refused c = λ text sound part used.
    let none : slice_get c.args.name.now.numbers.items 0 ≡ None = ap (λ l. slice_get l 0) (sym c.deref.ensures.0) ∙ sym c.first.ensures.value ∙ ap option_copied c.in_default.is in
    no-first c.args.name.now.numbers.items none (some-number c.args.store.now c.laws.ensures text sound part c.args.name.now used)

pub returns-in_default-find-clause-nobody : goal.returns-in_default-find-clause-nobody
returns-in_default-find-clause-nobody c = λ _ k b.
    let first : root_number c.args.name.now ≡ c.in-Some.root.now =
    first-is c.args.name.now.numbers.items c.in-Some.root.now (ap (λ l. slice_get l 0) (sym c.deref.ensures.0) ∙ sym c.first.ensures.value ∙ ap option_copied c.in-Some.is) in
    let t = held (task_at c.args.store.now.tree k) b.there in
    let u = named c.args.store.now c.laws.ensures k t.0 t.1 in
    c.in_default-find.ensures k
    (ap (λ n. number_of n k 0) c.numbers.ensures ∙ root-number c.args.store.now c.laws.ensures k u.0 u.1 ∙ ap (λ n. Some (root_number n)) b.named ∙ ap Some first)

pub returns-clause-recent : goal.returns-clause-recent
returns-clause-recent c = grind arith

pub write_name-requires : goal.write_name-requires
write_name-requires c = grind arith

pub returns-clause-nobody : goal.returns-clause-nobody
returns-clause-nobody c = grind arith

pub returns-in_default-find-clause-recent : goal.returns-in_default-find-clause-recent
returns-in_default-find-clause-recent c = grind arith

pub returns-then-eq-clause-nobody : goal.returns-then-eq-clause-nobody
returns-then-eq-clause-nobody c = grind arith

pub returns-then-ne-clause-refused : goal.returns-then-ne-clause-refused
returns-then-ne-clause-refused c = λ text sound part used.
    let first : root_number c.args.name.now ≡ c.in-Some.root.now =
    first-is c.args.name.now.numbers.items c.in-Some.root.now (ap (λ l. slice_get l 0) (sym c.deref.ensures.0) ∙ sym c.first.ensures.value ∙ ap option_copied c.in-Some.is) in
    let found : number_of c.args.store.now.numbering c.in-Some-find.key 0 ≡ Some (root_number c.args.name.now) =
    ap (λ n. number_of n c.in-Some-find.key 0) (sym c.numbers.ensures) ∙ c.in-Some-find.ensures ∙ ap Some (sym first) in
    let u = numbered c.args.store.now.numbering (identifier_at c.args.store.now.numbering c.in-Some-find.key) 0 (root_number c.args.name.now) found in
    let name = found-name c.args.store.now c.laws.ensures text sound part c.args.name.now used c.requires.borne c.in-Some-find.key u.0 u.1 found in
    let same = same_name-refl c.write_name.new.name c.args.name.now (c.write_name.ensures ∙ name) in
    absurd (true≢false (sym (ap not (sym same) ∙ sym c.ne.ensures ∙ c.if-ne.true)))
