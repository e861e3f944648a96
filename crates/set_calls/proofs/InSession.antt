-- The group with a number in a session, in the model and by keys.
use Rattle.std.proofs.Common.{◌≡◌, ℕ, ◌==◌, ◌&&◌, Bool, true, false, find, Option, Some, None, IsSome, is_some, option_map, refl, sym, ap, ◌∙◌}
use Rattle.std.specs.Option.{option_eq}
use Rattle.std.proofs.lemmas.Bool.{eq-eqb, eqb-true, and_parts, and_from}
use Rattle.pid_types.proofs.General.{some_number}
use Rattle.pid_types.specs.declared.plain.Row.{Row}
use Rattle.pid_types.specs.Membership.{IsIn}
use Rattle.pid_types.specs.Names.{is_numbered, same_name}
use Rattle.pid_types.specs.Groups.{session_group}
use Rattle.model_laws.proofs.Lists.{find-none, find-found, find-Some}
use Rattle.pid_numbers.specs.Numbering.{identifier_at, id_at, number_of}
use Rattle.task_tree.specs.declared.Task.{Task}
use Rattle.groups_sessions.specs.Membership.{Membership, membership_at}
use Rattle.groups_sessions.specs.Setpgid.{has_number, session_group_key}
use Rattle.groups_sessions.proofs.SessionGroups.{session_group-some, session_group-none}
use Rattle.task_table.specs.Store.{Store}
use Rattle.task_table.specs.View.{name_at, row_of, state_of}
use Rattle.task_table.specs.Lawful.{IsLawful}
use Rattle.task_table.proofs.Keys.{number-is_key}
use Rattle.task_table.proofs.LookUps.{group-named, session-named, same-name, in-rows, rows-in}
use Rattle.task_table.proofs.InUse.{member}
use Rattle.task_table.proofs.Seated.{group-name, session-name, who}

-- the row of who asks, whose session and namespace have these keys
module _ (s : Store) (l : IsLawful s) (row : Row) (session space : ℕ) (here : row.session ≡ name_at s.numbering session) (there : IsSome (identifier_at s.numbering session))
    (own : id_at s.numbering space ≡ Some row.name.space) (n : ℕ) where
  -- whether a task of the session is in a group with the number
  abbrev passes : Row → Bool
  passes r = same_name r.session row.session && is_numbered (state_of s).spaces r.group row.name.space n

  abbrev passes_key : Membership → Bool
  passes_key m = (m.session == session) && has_number s.numbering m.group space n

  passes-is : (k : ℕ) (t : Task) (m : Membership) → membership_at s.members k ≡ Some m → passes (row_of s k t) ≡ passes_key m
  passes-is k t m at = λ i. in_session i && numbered i
    where
      in_session : same_name (row_of s k t).session row.session ≡ (m.session == session)
      in_session =
          let z = session-named s l k m at in
          ap (λ x. same_name x row.session) (session-name s l k t m at) ∙ ap (same_name (name_at s.numbering m.session)) here ∙ same-name s l m.session session (ap is_some z.1) there

      numbered : is_numbered (state_of s).spaces (row_of s k t).group row.name.space n ≡ has_number s.numbering m.group space n
      numbered =
          let g = group-named s l k m at in
          ap (λ x. is_numbered (state_of s).spaces x row.name.space n) (group-name s l k t m at)
          ∙ ap (λ o. option_eq ◌==◌ o (Some n)) (number-is_key s.numbering l.numbering space row.name.space m.group g.0 own g.1)

  passes-group : (m : Membership) → passes_key m ≡ true → (m.session ≡ session) × (number_of s.numbering m.group space ≡ Some n)
  passes-group m e =
      let h = and_parts (m.session == session) (has_number s.numbering m.group space n) e in
      (eqb-true m.session session h.0, some_number (number_of s.numbering m.group space) n h.1)

  -- no task of the session is in such a group
  none-passes : session_group_key s.members s.numbering session space n ≡ None → (r : Row) → IsIn r (state_of s).rows → passes r ≡ false
  none-passes none r i =
      let f = in-rows s l r i in
      let m = member s l f.0 f.1 f.2 in
      ap passes f.3 ∙ passes-is f.0 f.1 m.0 m.1 ∙ go f.0 m.0 m.1 (passes_key m.0) refl
    where
      go : (k : ℕ) (m : Membership) → membership_at s.members k ≡ Some m → (x : Bool) → passes_key m ≡ x → x ≡ false
      go k m at false e = refl
      go k m at true e = let h = passes-group m e in absurd (session_group-none s.members s.numbering session space n none k m at h.0 h.1)

  -- one that is has the group's name in its row
  group-of : (g : ℕ) → number_of s.numbering g space ≡ Some n → (r : Row) → IsIn r (state_of s).rows → passes r ≡ true → r.group ≡ name_at s.numbering g
  group-of g has r i on =
      let f = in-rows s l r i in
      let m = member s l f.0 f.1 f.2 in
      let h = passes-group m.0 (sym (passes-is f.0 f.1 m.0 m.1) ∙ sym (ap passes f.3) ∙ on) in
      ap (λ (r : Row). r.group) f.3 ∙ group-name s l f.0 f.1 m.0 m.1 ∙ ap (name_at s.numbering) (l.numbering.distinct m.0.group g space n h.1 has)

  -- the group is the same
  pub session-group-is : session_group (state_of s) row n ≡ option_map (name_at s.numbering) (session_group_key s.members s.numbering session space n)
  unfolding session_group
  session-group-is = go (session_group_key s.members s.numbering session space n) refl
    where
      go : (o : Option ℕ) → session_group_key s.members s.numbering session space n ≡ o → option_map (λ (r : Row). r.group) (find passes (state_of s).rows) ≡ option_map (name_at s.numbering) o
      go None e = ap (option_map (λ (r : Row). r.group)) (find-none passes (state_of s).rows (none-passes e))
      go (Some g) e =
          let h = session_group-some s.members s.numbering session space n g e in
          let m : Membership = record { group = g; session = session } in
          let k = (h.1).0 in
          let t = who s l k m (h.1).1 in
          let on : passes_key m ≡ true = and_from (session == session) (has_number s.numbering g space n) (eq-eqb session session refl) (ap (λ o. option_eq ◌==◌ o (Some n)) h.0 ∙ eq-eqb n n refl) in
          let y = find-found passes (state_of s).rows (row_of s k t.0) (rows-in s l k t.0 t.1) (passes-is k t.0 m (h.1).1 ∙ on) in
          let z = find-Some passes (state_of s).rows y.0 y.1 in
          ap (option_map (λ (r : Row). r.group)) y.1 ∙ ap Some (group-of g h.0 y.0 z.0 z.1)
