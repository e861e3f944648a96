-- What the checks ask of each namespace, by key.
use Rattle.std.specs.Prelude.{◌≡◌, ℕ, ◌<◌, true, false, Some}
use Rattle.pid_numbers.specs.Numbering.{id_at, number_of, has_fallen_at}
use Rattle.task_tree.specs.Tree.{lives}
use Rattle.task_table.specs.declared.view.Found.{Found}
use Rattle.task_table.specs.Store.{Store}
use Rattle.task_table.specs.View.{parent_id}
use Rattle.sound_store.specs.Tasks.{IsTask}

-- a live task of the namespace is number 1 in it
pub record IsInit (s : Store) (space : ℕ) (f : Found) : Type 0 where
  pub task : IsTask s f
  pub live : lives f.task ≡ true
  pub own : f.space ≡ space
  pub one : number_of s.numbering f.key space ≡ Some 1

abbrev pub HasInitTask : Store → ℕ → Type 0
HasInitTask s space = (f : Found) × IsInit s space f

-- the namespace with the id and the key is younger than the one that it is in, and has fallen or has an init
pub record IsGoodSpace (s : Store) (id space : ℕ) : Type 0 where
  pub younger : (p : ℕ) → parent_id s.numbering space ≡ Some p → p < id
  pub init : has_fallen_at s.numbering space ≡ false → HasInitTask s space

-- the root namespace has the id 0 and stands, and each namespace is a good one
pub record HasGoodSpaces (s : Store) : Type 0 where
  pub root : id_at s.numbering 0 ≡ Some 0
  pub stands : has_fallen_at s.numbering 0 ≡ false
  pub each : (id space : ℕ) → id_at s.numbering space ≡ Some id → IsGoodSpace s id space
