-- What is true of a store at any time, all parts together.
use Rattle.std.specs.Prelude.{◌≡◌, ℕ, ◌+◌, ◌<◌, ◌≤◌, true, false, IsSome, [], ◌∷◌, length, drop, Some, None, slice_index_or}
use Rattle.std.specs.List.{AllByRecursion}
use Rattle.id_slab.specs.Ids.{key_of, AreRising}
use Rattle.pid_types.specs.Bounds.{deepest_space}
use Rattle.pid_types.specs.Settings.{HasGoodPidMax}
use Rattle.pid_types.specs.Chains.{contains}
use Rattle.pid_numbers.specs.Numbering.{Numbering, Identifier, identifier_at, id_at, number_of, path_at, taken_in, has_fallen_at}
use Rattle.task_tree.specs.Tree.{task_at, parent_of}
use Rattle.groups_sessions.specs.Membership.{Membership, membership_at, AreInSession}
use Rattle.pid_types.specs.Controls.{control_at}
use Rattle.pids_charge.specs.Charges.{stands, live_at, home_id}
use Rattle.task_table.specs.Store.{Store, IsStore, HasNoThreads, AreUsed}

-- what is true of identifiers and namespaces
pub record HasLaws (b : Numbering) : Type 0 where
  pub distinct : (i j s n : ℕ) → number_of b i s ≡ Some n → number_of b j s ≡ Some n → i ≡ j
  pub range : (i s n : ℕ) → number_of b i s ≡ Some n → (0 < n) × (n < b.pid_max)
  pub full : (i : ℕ) (u : Identifier) → identifier_at b i ≡ Some u → (0 < length u.numbers)
      × (length u.numbers ≡ length (path_at b u.space))
  pub good : HasGoodPidMax b.pid_max
  pub root : path_at b 0 ≡ 0 ∷ []
  pub own : (s : ℕ) → 0 < length (path_at b s) → slice_index_or (path_at b s) 0 0 ≡ s
  pub around : (s j : ℕ) → j < length (path_at b s) → path_at b (slice_index_or (path_at b s) j 0) ≡ drop j (path_at b s)
  pub few : (s : ℕ) → length (path_at b s) ≤ deepest_space + 1
  pub some : (s i : ℕ) → id_at b s ≡ Some i → 0 < length (path_at b s)
  pub ends : (s : ℕ) → 0 < length (path_at b s) → contains (path_at b s) 0 ≡ true
  pub fallen : (s j : ℕ) → j < length (path_at b s) → has_fallen_at b (slice_index_or (path_at b s) j 0) ≡ true → has_fallen_at b s ≡ true
  pub held : (s : ℕ) → has_fallen_at b s ≡ true → 0 < length (taken_in b s)
  pub ids : (s t i : ℕ) → id_at b s ≡ Some i → id_at b t ≡ Some i → s ≡ t
  pub listed : (s i : ℕ) → id_at b s ≡ Some i → key_of b.order i ≡ Some s
  pub each : AllByRecursion (λ p. id_at b p.1 ≡ Some p.0) b.order
  pub rising : AreRising b.order

-- the parts keep their laws, and agree
pub record IsLawful (s : Store) : Type 0 where
  pub agree : IsStore s
  pub numbering : HasLaws s.numbering
  pub absent : (k : ℕ) → task_at s.tree k ≡ None → parent_of s.tree k ≡ None
  pub known : (k p : ℕ) → parent_of s.tree k ≡ Some p → p < length s.tree.tasks
  pub together : (k : ℕ) (m : Membership) → membership_at s.members k ≡ Some m → AreInSession s.members m.group m.session
  pub ended : (c : ℕ) → stands s.charges c ≡ false → live_at s.charges c ≡ 0
  pub controls : (c d : ℕ) → stands s.charges c ≡ true → stands s.charges d ≡ true → home_id s.charges c ≡ home_id s.charges d → c ≡ d
  -- where no thread is beside a first one something uses each identifier
  pub used : HasNoThreads s.threads → AreUsed s.numbering
  pub standing : (c : ℕ) → stands s.charges c ≡ true → IsSome (control_at s.charges.controls (home_id s.charges c))
