-- Tasks have identifiers, and these have numbers in the namespaces around them.
use Rattle.std.proofs.Common.{◌≡◌, ℕ, ◌<◌, ◌==◌, ◌||◌, Bool, true, false, List, [], ◌∷◌, length, Option, Some, None, is_some, IsSome, if◌then◌else◌, refl, sym, ap, ◌∙◌, arith}
use Rattle.std.specs.Option.{option_map_or}
use Rattle.pid_types.specs.Chains.{contains}
use Rattle.pid_types.specs.Names.{beside}
use Rattle.pid_types.specs.declared.call.Kind.TheVariants.{Task as AsTask}
use Rattle.pid_numbers.specs.Numbering.{Numbering, Identifier, identifier_at, path_at, number_of, number_in}
use Rattle.pid_numbers.proofs.Sweeps.{contains_at}
use Rattle.task_tree.specs.declared.Task.{Task}
use Rattle.task_tree.specs.Tree.{task_at, lives}
use Rattle.task_table.specs.Store.{Store, IsStore, uses_at, one_if}
use Rattle.task_table.proofs.Less as less
use Rattle.task_table.specs.Lawful.{HasLaws}

pub some_of : {X : Type 0} (o : Option X) → IsSome o → (x : X) × (o ≡ Some x)
some_of None some = absurd (cc)
some_of (Some x) some = (x, refl)

pub live_of : (o : Option Task) → option_map_or lives o false ≡ true → (t : Task) × (o ≡ Some t) × (lives t ≡ true)
live_of None live = absurd (cc)
live_of (Some t) live = (t, refl, live)

-- a task has an identifier
pub named : (s : Store) → IsStore s → (k : ℕ) → IsSome (task_at s.tree k) → (u : Identifier) × (identifier_at s.numbering k ≡ Some u)
named s w k some =
    let one : uses_at s.numbering AsTask k ≡ 1 = w.tasks k ∙ ap one_if some in
    less.used s.numbering AsTask k (omega (arith, one))

-- a number stands beside each key of the path
pub beside-there : (s : ℕ) (path numbers : List ℕ) → length numbers ≡ length path → contains path s ≡ true → IsSome (beside s path numbers)
beside-there s [] numbers len e = absurd (cc)
beside-there s (t ∷ ts) [] len e = absurd (omega (arith, len))
beside-there s (t ∷ ts) (n ∷ ns) len e = go (λ h. beside-there s ts ns (omega (arith, len)) h) (t == s) e
  where
    go : (contains ts s ≡ true → IsSome (beside s ts ns)) → (b : Bool) → (b || contains ts s) ≡ true → IsSome (if b then Some n else beside s ts ns)
    go again true e = refl
    go again false e = again e

module _ (b : Numbering) (laws : HasLaws b) where
  -- it is visible in each namespace around its own
  pub visible : (k space : ℕ) (u : Identifier) → identifier_at b k ≡ Some u → contains (path_at b u.space) space ≡ true → IsSome (number_of b k space)
  visible k space u is around = ap (λ o. is_some (number_in (path_at b) space o)) is ∙ beside-there space (path_at b u.space) u.numbers (laws.full k u is).1 around

  -- and in its own
  pub visible-own : (k : ℕ) (u : Identifier) → identifier_at b k ≡ Some u → IsSome (number_of b k u.space)
  visible-own k u is =
      let f = laws.full k u is in
      let some : 0 < length (path_at b u.space) = omega (arith, f.0, f.1) in
      visible k u.space u is (sym (ap (contains (path_at b u.space)) (laws.own u.space some)) ∙ contains_at (path_at b u.space) 0 some)
