-- An identifier with another number of uses of a kind.
use Rattle.pid_numbers.proofs.Words.{◌≡◌, ◌≢◌, ℕ, Bool, List, length, Some, IfSome, refl, sym, ap, subst, ◌∙◌, same_Some, Ids, with_mark, TreeOfSpaces, way, Kind}
use Rattle.pid_numbers.proofs.Words.{Identifier, is_used_as, with_uses, entry_on, bound_on, touched, mark_of, IsNumberTable, Table, ident_at}
use Rattle.pid_numbers.proofs.Ties as ties
use Rattle.pid_numbers.proofs.Sweeps as sweeps
use Rattle.pid_numbers.proofs.Views as views

pub record IsRecounted (old new : Table) (i : ℕ) (kind : Kind) : Type 0 where
  pub identifier : Identifier
  pub count : ℕ
  pub was : ident_at old i ≡ Some identifier
  pub now : ident_at new i ≡ Some (with_uses kind count identifier)
  pub others : (j : ℕ) → j ≢ i → ident_at new j ≡ ident_at old j

module _ {pid_max : ℕ} {tree : TreeOfSpaces} {ids : List (Ids ℕ)} {old new : Table} (k : IsNumberTable pid_max tree ids old) {i : ℕ} {kind : Kind} (r : IsRecounted old new i kind) where
  -- its path has as many levels
  pub full : IfSome (ident_at new i) (λ u. length u.numbers ≡ length (way tree.nodes u.space))
  full = subst (λ o. IfSome o (λ u. length u.numbers ≡ length (way tree.nodes u.space))) (sym r.now)
      (ap length (ties.path-kept kind r.count r.identifier).1 ∙ k.whole.numbering.tied.full i r.identifier r.was ∙ ap (λ s. length (way tree.nodes s)) (sym (ties.path-kept kind r.count r.identifier).0))

  -- all that is known stays, where it is no first and no last use of the kind
  pub counted : is_used_as kind (ident_at new i) ≡ is_used_as kind (ident_at old i) → IsNumberTable pid_max tree ids new
  counted still =
      sweeps.kept-with pid_max tree ids ids old new k refl
      (ties.numbering-counted pid_max (way tree.nodes) (entry_on ids) (entry_on ids) (bound_on ids) (bound_on ids) (ident_at old) (ident_at new) k.whole.numbering (λ s. refl)
      i kind r.count r.identifier r.was r.now r.others (ap (is_used_as kind) (sym r.now) ∙ still ∙ ap (is_used_as kind) r.was) (λ s n. refl))
      (λ s n i led. (i, led))

  -- and where it is one, once the marks are written along its path
  pub marked : (on : Bool) (ids' : List (Ids ℕ)) → is_used_as kind (ident_at new i) ≡ on → length ids' ≡ length ids → ((s : ℕ) → bound_on ids' s ≡ bound_on ids s)
      → IfSome (ident_at new i) (λ u. (s m : ℕ) → entry_on ids' s m ≡ touched (way tree.nodes u.space) u.numbers (with_mark (mark_of kind) on) (entry_on ids) s m) → IsNumberTable pid_max tree ids' new
  marked on ids' turned count bound entries =
      let is = views.marked-as kind r.count r.identifier on (way tree.nodes) (entry_on ids) (entry_on ids') (ident_at new i) entries r.now in
      sweeps.kept-with pid_max tree ids ids' old new k count
      (ties.numbering-marked pid_max (way tree.nodes) (entry_on ids) (entry_on ids') (bound_on ids) (bound_on ids') (ident_at old) (ident_at new) k.whole.numbering bound
      i kind r.count r.identifier r.was r.now r.others on (ap (is_used_as kind) (sym r.now) ∙ turned) is)
      (λ s n i led. (i, ties.leads-marked (way tree.nodes r.identifier.space) r.identifier.numbers (mark_of kind) on (entry_on ids) (entry_on ids') is s n ∙ led))

  -- what a drop leaves of it has its path and its numbers
  pub same_path : (u : Identifier) → ident_at new i ≡ Some u → (u.space ≡ r.identifier.space) × (u.numbers ≡ r.identifier.numbers)
  same_path u is =
      let e : with_uses kind r.count r.identifier ≡ u = same_Some (with_uses kind r.count r.identifier) u (sym r.now ∙ is) in
      let p = ties.path-kept kind r.count r.identifier in
      (sym (ap (λ u. u.space) e) ∙ p.0, sym (ap (λ u. u.numbers) e) ∙ p.1)
