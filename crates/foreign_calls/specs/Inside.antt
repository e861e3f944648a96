-- What is directly inside a namespace or a control group, as numbers, and told a page at a time.
use Rattle.std.specs.Prelude.{◌≡◌, ◌≢◌, ◌↔◌, ◌==◌, ℕ, List, Option, None, Some, option_map, option_and_then, if◌then◌else◌}
use Rattle.pid_types.specs.State.{State}
use Rattle.translate.specs.declared.inside.Inside.{Inside}
use Rattle.translate.specs.declared.inside.Tree.{Tree}
use Rattle.translate.specs.declared.inside.Tree.TheVariants.{Spaces, Controls}
use Rattle.translate.specs.Inside.{ids_inside}
use Rattle.translate.specs.Listed.{TellsList}
use Rattle.foreign_numbers.specs.declared.status.TheConstants.{DONE, OUT_OF_RANGE}
use Rattle.foreign_calls.specs.Records.{Has}

-- the tree
abbrev pub tree_chosen : ℕ → Option Tree
tree_chosen choice = if choice == 0 then Some Spaces else (if choice == 1 then Some Controls else None)

-- what is asked, if the number of the tree is one
abbrev pub inside_by : ℕ → ℕ → ℕ → Option Inside
inside_by tree id from = option_map (λ t. record { tree = t; id = id; from = from }) (tree_chosen tree)

-- the ids are in the room, and their number is told; or room and count stay as they were, where the tree has no such id
pub record AnswersInside {X : Type 0}
    (held : Option X) (state : X → State) (said : Option Inside) (old new : List ℕ) (before after : ℕ) (status : ℕ) : Type 0 where
  pub done : status ≡ DONE → (inside : Inside) × (said ≡ Some inside)
      × Has held (λ x. TellsList (ids_inside (state x) inside) inside.from old new (Some after))
  pub not_done : status ≢ DONE → (new ≡ old) × (after ≡ before)
  pub out_of_range : (status ≡ OUT_OF_RANGE) ↔ Has held (λ x. option_and_then (ids_inside (state x)) said ≡ None)
