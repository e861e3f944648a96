-- The root init's fork in a bare store leaves the root state.
use Rattle.std.proofs.Common.{◌≡◌, ◌≢◌, inl, inr, ℕ, zero, suc, ◌+◌, false, List, [], ◌∷◌, map, filter_map, find, slice_get, Option, Some, None, is_none, if◌then◌else◌, refl, sym, ap, subst, ◌∙◌, option_map, option_and_then, unwrap_or}
use Rattle.std.specs.Prelude.{reverse, slice_index_or}
use Rattle.std.specs.Option.{option_map_or}
use Rattle.std.proofs.lemmas.Bool.{cases_eq}
use Rattle.pid_types.specs.declared.plain.Life.TheVariants.{Live}
use Rattle.pid_types.specs.declared.plain.Name.{Name}
use Rattle.pid_types.specs.declared.plain.Row.{Row}
use Rattle.pid_types.specs.declared.plain.Space.{Space}
use Rattle.pid_types.specs.Draw.{cyclic_draw}
use Rattle.pid_types.specs.Fork.{insert_row}
use Rattle.pid_types.specs.Sound.{IsSound}
use Rattle.pid_types.specs.State.{root_name, root_init, root_state}
use Rattle.pid_numbers.specs.Numbering.{Identifier, namespace_at, id_at, identifier_at, number_in, path_at, taken_in, draw_in, moved, new_namespace, new_identifier}
use Rattle.task_tree.specs.declared.Task.{Task}
use Rattle.task_tree.specs.Tree.{parent_of}
use Rattle.groups_sessions.specs.Membership.{membership_at}
use Rattle.pids_charge.specs.Charges.{Home, home_at, home_id}
use Rattle.task_table.specs.Store.{Store, HasNoThreads, Begins, bare}
use Rattle.task_table.specs.Collect.{collect}
use Rattle.task_table.specs.View.{name_of, name_at, key_numbered, parent_id, row_of, row_with, row_numbered, space_of, state_of}
use Rattle.task_table.specs.Lawful.{IsLawful}
use Rattle.task_table.specs.Whole.{HasParents, IsWhole}
use Rattle.task_table.proofs.Rows.{row-ext, rows-insert}
use Rattle.fork_calls.proofs.Inside.{first_draw}
use Rattle.pid_table.specs.Bare.{IsBare}

-- nothing is taken
nothing_taken : (f : Option Identifier → Option ℕ) → f None ≡ None → (xs : List (Option Identifier)) → ((i : ℕ) → slice_index_or xs i None ≡ None) → filter_map f xs ≡ []
nothing_taken f none [] all = refl
nothing_taken f none (x ∷ xs) all = rw (all 0) (rw none (nothing_taken f none xs (λ i. all (suc i))))

-- where the threads are as they were each process is still one thread
pub alone_still : (old new : Store) → new.threads ≡ old.threads → HasNoThreads old.threads → HasNoThreads new.threads
alone_still old new same alone = subst HasNoThreads (sym same) alone

module _ (s : Store) (l : IsLawful s) (b : IsBare s) where
  path : path_at s.numbering 0 ≡ 0 ∷ []
  path = l.numbering.root

  taken-none : taken_in s.numbering 0 ≡ []
  unfolding taken_in
  taken-none = nothing_taken (number_in (path_at s.numbering) 0) refl s.numbering.names b.names

  draws : draw_in s.numbering 0 ≡ Some 1
  draws =
      ap (option_and_then (λ t. cyclic_draw s.numbering.pid_max t.cursor (taken_in s.numbering 0))) b.root
      ∙ ap (cyclic_draw s.numbering.pid_max 0) taken-none ∙ first_draw s.numbering.pid_max l.numbering.good

  pub never-full : find (λ q. is_none (draw_in s.numbering q)) (path_at s.numbering 0) ≡ None
  never-full = ap (find (λ q. is_none (draw_in s.numbering q))) path ∙ ap (λ o. if is_none o then Some 0 else None) draws

  pub numbers-are : map (λ q. unwrap_or (draw_in s.numbering q) 0) (path_at s.numbering 0) ≡ 1 ∷ []
  numbers-are = ap (map (λ q. unwrap_or (draw_in s.numbering q) 0)) path ∙ ap (λ o. unwrap_or o 0 ∷ []) draws

  pub no-parents : (k : ℕ) → parent_of s.tree k ≡ None
  no-parents k = l.absent k (b.tasks k)

  no_rows : (state_of s).rows ≡ []
  no_rows = empty 0 s.numbering.pid_max
    where
      none : (n : ℕ) (o : Option ℕ) → option_and_then (row_with s) o ≡ None
      none n None = refl
      none n (Some k) = ap (option_map (row_of s k)) (b.tasks k)

      empty : (n len : ℕ) → collect (row_numbered s 0) n len ≡ []
      empty n zero = refl
      empty n (suc len) = ap (λ o. option_map_or (λ x. x ∷ collect (row_numbered s 0) (n + 1) len) o (collect (row_numbered s 0) (n + 1) len)) (none n (key_numbered s.numbering 0 n)) ∙ empty (n + 1) len

  module _ (s' : Store) (l' : IsLawful s') (key : ℕ) (task : Task) (numbers : List ℕ) (begun : Begins s s' key None task (new_identifier 0 numbers)) (one : numbers ≡ 1 ∷ [])
      (order : s'.numbering.order ≡ s.numbering.order) (now : (q : ℕ) → namespace_at s'.numbering q ≡ option_map (moved (path_at s.numbering 0) numbers q) (namespace_at s.numbering q))
      (home : ℕ) (at_root : home_id s.charges home ≡ 0) (made : task ≡ record { children_space = 0; home = home; executed = false; subreaper = false; life = Live }) where
    -- the root namespace
    stepped : namespace_at s'.numbering 0 ≡ Some (record (new_namespace 0 (0 ∷ [])) { cursor = 2 })
    stepped =
        now 0 ∙ ap (option_map (moved (path_at s.numbering 0) numbers 0)) b.root
        ∙ ap (λ p. Some (moved p numbers 0 (new_namespace 0 (0 ∷ [])))) path ∙ ap (λ ns. Some (moved (0 ∷ []) ns 0 (new_namespace 0 (0 ∷ [])))) one

    spaces-are : (state_of s').spaces ≡ record { id = 0; parent = None; cursor = 2; fallen = false } ∷ []
    spaces-are = ap (map (space_of s'.numbering)) (order ∙ b.order) ∙ ap (λ (x : Space). x ∷ []) root
      where
        parent : parent_id s'.numbering 0 ≡ None
        parent = ap (λ p. option_and_then (id_at s'.numbering) (slice_get p 1)) l'.numbering.root

        root : space_of s'.numbering (0, 0) ≡ record { id = 0; parent = None; cursor = 2; fallen = false }
        root = λ i. record { id = 0; parent = parent i; cursor = option_map_or (λ t. t.cursor) (stepped i) 0; fallen = option_map_or (λ t. t.fallen) (stepped i) false }

    -- the identifier
    abbrev named_in : ℕ → List ℕ → Name
    named_in i ns = record { space = i; numbers = record { items = reverse ns } }

    born : (o : Option Identifier) → identifier_at s'.numbering key ≡ o → option_map bare o ≡ Some (bare (new_identifier 0 numbers)) → name_at s'.numbering key ≡ root_name
    born None is z = absurd (cc)
    born (Some v) is z =
        let same : bare v ≡ bare (new_identifier 0 numbers) = ap (λ o. option_map_or (λ x. x) o (bare v)) z in
        ap (λ o. option_map_or (name_of s'.numbering) o root_name) is
        ∙ ap (λ (u : Identifier). named_in (unwrap_or (id_at s'.numbering u.space) 0) u.numbers) same
        ∙ ap (λ o. named_in (unwrap_or (option_map (λ t. t.id) o) 0) numbers) stepped
        ∙ ap (named_in 0) one

    name-born : name_at s'.numbering key ≡ root_name
    name-born = born (identifier_at s'.numbering key) refl begun.named

    member-born : membership_at s'.members key ≡ Some (record { group = key; session = key })
    member-born = begun.member

    home-born : home_id s'.charges task.home ≡ 0
    home-born =
        ap (λ o. option_map_or (λ h. h.id) o 0) begun.home.here ∙ kept (home_at s.charges task.home) ∙ ap (λ (t : Task). home_id s.charges t.home) made ∙ at_root
      where
        kept : (o : Option Home) → option_map_or (λ h. h.id) (option_map (λ (h : Home). record h { live = h.live + 1 }) o) 0 ≡ option_map_or (λ h. h.id) o 0
        kept None = refl
        kept (Some h) = refl

    row-born : row_of s' key task ≡ root_init
    row-born =
        row-ext (row_of s' key task) root_init name-born
        (ap (option_map (name_at s'.numbering)) begun.parent)
        (ap (λ o. option_map_or (name_at s'.numbering) (option_map (λ m. m.group) o) root_name) member-born ∙ name-born)
        (ap (λ o. option_map_or (name_at s'.numbering) (option_map (λ m. m.session) o) root_name) member-born ∙ name-born)
        (ap (λ (t : Task). t.executed) made) (ap (λ (t : Task). t.life) made) home-born (ap (λ (t : Task). t.children_space) made) (ap (λ (t : Task). t.subreaper) made)

    unnamed : (k : ℕ) → k ≢ key → identifier_at s'.numbering k ≡ None
    unnamed k differs = gone (identifier_at s'.numbering k) (begun.names k differs ∙ ap (option_map bare) (b.names k))
      where
        gone : (o : Option Identifier) → option_map bare o ≡ None → o ≡ None
        gone None e = refl
        gone (Some v) e = absurd (cc)

    rows-are : (state_of s').rows ≡ root_init ∷ []
    rows-are =
        rows-insert s s' l l' begun.bound key task begun.fresh.0 begun.fresh.1 begun.begun
        (λ k differs. ap (number_in (path_at s'.numbering) 0) (unnamed k differs) ∙ sym (ap (number_in (path_at s.numbering) 0) (b.names k)))
        (λ k differs. ap (option_map (row_of s' k)) (begun.tasks k differs ∙ b.tasks k) ∙ sym (ap (option_map (row_of s k)) (b.tasks k)))
        ∙ ap (insert_row (row_of s' key task)) no_rows ∙ ap (λ (r : Row). r ∷ []) row-born

    pub state-begun : state_of s' ≡ root_state s.numbering.pid_max
    state-begun = λ i. record { rows = rows-are i; threads = []; left = []; spaces = spaces-are i; controls = (begun.home.controls ∙ b.controls) i; pid_max = begun.bound i }

    parents-begun : HasParents s'
    parents-begun k p e = elim (cases_eq k key) [
      | inl same ↦ absurd (let z : None ≡ Some p = sym begun.parent ∙ ap (parent_of s'.tree) (sym same) ∙ e in cc)
      | inr differs ↦ absurd (let z : None ≡ Some p = sym (begun.parents k differs ∙ no-parents k) ∙ e in cc)
    ]

    pub whole-begun : IsSound (root_state s.numbering.pid_max) → IsWhole s'
    whole-begun sound = record { sound = subst IsSound (sym state-begun) sound; parents = parents-begun; alone = subst HasNoThreads (sym begun.threads) b.threads }
