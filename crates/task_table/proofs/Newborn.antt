-- What a new task leaves as it was, and the identifier that it has.
use Rattle.std.proofs.Common.{◌≡◌, ◌≢◌, inl, inr, ℕ, ◌+◌, List, Option, Some, None, IsSome, refl, sym, ap, ◌∙◌, option_map}
use Rattle.std.specs.Option.{option_map_or}
use Rattle.std.proofs.lemmas.Bool.{cases_eq}
use Rattle.pid_types.proofs.General.{held}
use Rattle.pid_types.specs.declared.plain.Name.{Name}
use Rattle.pid_types.specs.State.{root_name}
use Rattle.pid_numbers.specs.Numbering.{Numbering, Identifier, identifier_at, number_of, new_identifier}
use Rattle.task_tree.specs.declared.Task.{Task}
use Rattle.task_tree.specs.Tree.{task_at, parent_of}
use Rattle.groups_sessions.specs.Membership.{Membership, membership_at}
use Rattle.pids_charge.specs.Charges.{Charges, Home, home_at, home_id, ChangesHome}
use Rattle.task_table.specs.Store.{Store, Begins, bare}
use Rattle.task_table.specs.View.{name_at, row_of, row_with}
use Rattle.task_table.specs.Lawful.{IsLawful}
use Rattle.task_table.specs.Whole.{HasParents}
pub use Rattle.task_table.proofs.Drawn.{KeepsNamespaces, some_of, named_in}
use Rattle.task_table.proofs.Drawn.{DrawsOne}
use Rattle.task_table.proofs.Drawn as draws
use Rattle.task_table.proofs.LookUps.{named, group-named, session-named}
use Rattle.task_table.proofs.InUse.{member}
use Rattle.task_table.proofs.Rows.{row-ext}

abbrev pub group_in : Numbering → Option Membership → Name
group_in b o = option_map_or (name_at b) (option_map (λ m. m.group) o) root_name

abbrev pub session_in : Numbering → Option Membership → Name
session_in b o = option_map_or (name_at b) (option_map (λ m. m.session) o) root_name

-- with one task more control groups have the ids that they had
pub ids-kept : (old new : Charges) (home : ℕ) → ChangesHome old new home (option_map (λ (h : Home). record h { live = h.live + 1 }) (home_at old home)) → (c : ℕ) → home_id new c ≡ home_id old c
ids-kept old new home change c = elim (cases_eq c home) [
  | inl same ↦ ap (home_id new) same ∙ ap (λ o. option_map_or (λ h. h.id) o 0) change.here ∙ one (home_at old home) ∙ sym (ap (home_id old) same)
  | inr differs ↦ ap (λ o. option_map_or (λ h. h.id) o 0) (change.others c differs)
]
  where
    one : (o : Option Home) → option_map_or (λ h. h.id) (option_map (λ (h : Home). record h { live = h.live + 1 }) o) 0 ≡ option_map_or (λ h. h.id) o 0
    one None = refl
    one (Some h) = refl

-- a task came, of which all is known that the lemmas below need
pub record Comes (s s' : Store) (key : ℕ) (from : Option ℕ) (task : Task) (space : ℕ) (numbers : List ℕ) : Type 0 where
  pub before : IsLawful s
  pub after : IsLawful s'
  pub kin : HasParents s
  pub begun : Begins s s' key from task (new_identifier space numbers)
  pub keeps : KeepsNamespaces s.numbering s'.numbering

module _ {s s' : Store} {key : ℕ} {from : Option ℕ} {task : Task} {space : ℕ} {numbers : List ℕ} (comes : Comes s s' key from task space numbers) where
  open comes use {before as l, after as l', kin, begun, keeps}

  drawn : DrawsOne s.numbering s'.numbering key
  drawn = record { before = l.numbering; fresh = begun.fresh.1; names = begun.names; keeps = keeps }

  pub name-kept : (k : ℕ) (u : Identifier) → identifier_at s.numbering k ≡ Some u → name_at s'.numbering k ≡ name_at s.numbering k
  name-kept = draws.name-kept drawn

  pub root_kept : (k : ℕ) → k ≢ key → number_of s'.numbering k 0 ≡ number_of s.numbering k 0
  root_kept = draws.root_kept drawn

  pub home_kept : (c : ℕ) → home_id s'.charges c ≡ home_id s.charges c
  home_kept = ids-kept s.charges s'.charges task.home begun.home

  parent_name : (o : Option ℕ) → ((p : ℕ) → o ≡ Some p → IsSome (task_at s.tree p)) → option_map (name_at s'.numbering) o ≡ option_map (name_at s.numbering) o
  parent_name None h = refl
  parent_name (Some p) h = let t = held (task_at s.tree p) (h p refl) in let u = named s l p t.0 t.1 in ap Some (name-kept p u.0 u.1)

  pub group_name : (k : ℕ) (m : Membership) → membership_at s.members k ≡ Some m → name_at s'.numbering m.group ≡ name_at s.numbering m.group
  group_name k m e = let u = group-named s l k m e in name-kept m.group u.0 u.1

  pub session_name : (k : ℕ) (m : Membership) → membership_at s.members k ≡ Some m → name_at s'.numbering m.session ≡ name_at s.numbering m.session
  session_name k m e = let u = session-named s l k m e in name-kept m.session u.0 u.1

  row_kept : (k : ℕ) (t : Task) → task_at s.tree k ≡ Some t → k ≢ key → row_of s' k t ≡ row_of s k t
  row_kept k t e differs =
      let u = named s l k t e in
      let m = member s l k t e in
      row-ext (row_of s' k t) (row_of s k t) (name-kept k u.0 u.1)
      (ap (option_map (name_at s'.numbering)) (begun.parents k differs) ∙ parent_name (parent_of s.tree k) (λ p is. kin k p is))
      (ap (group_in s'.numbering) (begun.members k differs ∙ m.1) ∙ group_name k m.0 m.1 ∙ sym (ap (group_in s.numbering) m.1))
      (ap (session_in s'.numbering) (begun.members k differs ∙ m.1) ∙ session_name k m.0 m.1 ∙ sym (ap (session_in s.numbering) m.1))
      refl refl (home_kept t.home) refl refl

  pub other_rows : (k : ℕ) → k ≢ key → row_with s' k ≡ row_with s k
  other_rows k differs = go (task_at s.tree k) refl
    where
      go : (o : Option Task) → task_at s.tree k ≡ o → row_with s' k ≡ row_with s k
      go None e = ap (option_map (row_of s' k)) (begun.tasks k differs ∙ e) ∙ sym (ap (option_map (row_of s k)) e)
      go (Some t) e = ap (option_map (row_of s' k)) (begun.tasks k differs ∙ e) ∙ ap Some (row_kept k t e differs) ∙ sym (ap (option_map (row_of s k)) e)

  -- the new identifier
  pub born : (v : Identifier) × (identifier_at s'.numbering key ≡ Some v) × (v.space ≡ space) × (v.numbers ≡ numbers)
  born = go (identifier_at s'.numbering key) refl begun.named
    where
      go : (o : Option Identifier) → identifier_at s'.numbering key ≡ o → option_map bare o ≡ Some (bare (new_identifier space numbers)) → (v : Identifier) × (identifier_at s'.numbering key ≡ Some v) × (v.space ≡ space) × (v.numbers ≡ numbers)
      go None is z = absurd (cc)
      go (Some v) is z = let same = some_of (bare v) (bare (new_identifier space numbers)) z in (v, is, ap (λ (x : Identifier). x.space) same, ap (λ (x : Identifier). x.numbers) same)
