use Rattle.std.proofs.Common.{◌≡◌, Some, false, [], ◌∷◌, ◌++◌, length, arith, ap, sym, subst, ◌∙◌, refl}
use Rattle.pid_numbers.specs.Numbering.{id_at, path_at}
use Rattle.task_table.specs.View.{spaces_of}
use Rattle.table_build.proofs.SpaceLists.{spaces-push}
use Rattle.table_build.proofs.SpaceTrees.{key-there, order-below, path-long}
use Rattle.task_table.proofs.Results.{if_err}
use Rattle.table_build.specs.declared.fault.BuildFault.TheVariants.{NoMemory}
use Rattle.table_build.specs.Ungrouped.{IsUngrouped}
use Rattle.table_build.proofs.Steps.{ungrouped-space}
use Rattle.table_build.proofs.Places.{some_same}
use Rattle.table_build.proofs.spaces.put_space.Goals as goal

pub returns-clause-put : goal.returns-clause-put
returns-clause-put c =
    let a = c.in_ok-add_space.ensures in
    spaces-push c.args.store.now.numbering c.add_space.new.self.numbering c.laws.ensures.numbering c.in_ok-add_space.field-0 c.args.space.now.id c.in-Some-find_space.parent a.fresh a.made a.others a.order
    c.in-Some.around (ap (λ b. id_at b c.in-Some-find_space.parent) (sym c.numbers.ensures) ∙ c.in-Some-find_space.ensures)
    ∙ ap (λ o. spaces_of c.args.store.now.numbering ++ record { id = c.args.space.now.id; parent = o; cursor = 0; fallen = false } ∷ []) (sym c.in-Some.is)

pub add_space-requires-clause-above : goal.add_space-requires-clause-above
add_space-requires-clause-above c = order-below c.args.store.now.numbering c.args.last c.args.space.now.id (let a = c.if-space-last.false in omega (arith, a)) c.requires.below

pub returns-in_default-find_space-clause-rest : goal.returns-in_default-find_space-clause-rest
returns-in_default-find_space-clause-rest c = grind arith

pub returns-clause-above : goal.returns-clause-above
returns-clause-above c = grind arith

pub returns-in_default-find_space-clause-refused : goal.returns-in_default-find_space-clause-refused
returns-in_default-find_space-clause-refused c = λ _ may.
    let k = key-there c.args.store.now.numbering c.laws.ensures.numbering may.inside.0 may.inside.2 in
    let same : may.inside.0 ≡ c.in-Some.around = some_same (sym may.inside.1 ∙ c.in-Some.is) in
    c.in_default-find_space.ensures k.0 (ap (λ b. id_at b k.0) c.numbers.ensures ∙ k.1 ∙ ap Some same)

pub returns-then-level-ge-DEEPEST_SPACE-clause-rest : goal.returns-then-level-ge-DEEPEST_SPACE-clause-rest
returns-then-level-ge-DEEPEST_SPACE-clause-rest c = grind arith

pub returns-then-level-ge-DEEPEST_SPACE-clause-refused : goal.returns-then-level-ge-DEEPEST_SPACE-clause-refused
returns-then-level-ge-DEEPEST_SPACE-clause-refused c = λ _ may.
    let same : may.inside.0 ≡ c.in-Some.around = some_same (sym may.inside.1 ∙ c.in-Some.is) in
    let at = ap (λ b. id_at b c.in-Some-find_space.parent) (sym c.numbers.ensures) ∙ c.in-Some-find_space.ensures ∙ ap Some (sym same) in
    let long = path-long c.args.store.now.numbering c.laws.ensures.numbering c.in-Some-find_space.parent may.inside.0 at in
    let most = may.inside.3 in
    let level = c.level.ensures in
    let here = ap (λ b. length (path_at b c.in-Some-find_space.parent)) c.numbers-2.ensures in
    let deep = c.if-level-ge-DEEPEST_SPACE.true in
    omega (arith, long, most, level, here, deep)

pub returns-clause-rest : goal.returns-clause-rest
returns-clause-rest c =
    let a = c.in_ok-add_space.ensures in
    record {
      spaces = record { names = a.names; bound = a.bound; rest = a.rest };
      ungrouped = ungrouped-space c.args.store.now c.add_space.new.self c.in_ok-add_space.field-0 c.args.space.now.id _ a.made a.others a.names a.rest c.requires.ungrouped;
    }

pub returns-then-is_fallen-clause-refused : goal.returns-then-is_fallen-clause-refused
returns-then-is_fallen-clause-refused c = grind arith

pub add_space-requires-clause-stands : goal.add_space-requires-clause-stands
add_space-requires-clause-stands c = grind arith

pub add_space-requires-clause-shallow : goal.add_space-requires-clause-shallow
add_space-requires-clause-shallow c = grind arith

pub returns-in_err-add_space-clause-rest : goal.returns-in_err-add_space-clause-rest
returns-in_err-add_space-clause-rest c =
    let a = c.in_err-add_space.ensures in
    record { spaces = record { names = a.names; bound = a.bound; rest = a.rest }; ungrouped = subst IsUngrouped (sym a.err) c.requires.ungrouped }

pub returns-in_err-add_space-clause-refused : goal.returns-in_err-add_space-clause-refused
returns-in_err-add_space-clause-refused c = if_err c.from_residual.result _ NoMemory c.from_residual.ensures.1 (λ not. absurd (not refl))

pub returns-then-is_fallen-clause-rest : goal.returns-then-is_fallen-clause-rest
returns-then-is_fallen-clause-rest c = grind arith
