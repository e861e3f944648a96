-- A process group or a session that loses a member is that of a task that is watched.
use Rattle.std.proofs.Common.{◌≡◌, ◌==◌, inl, inr, ℕ, true, List, map, sym, ap, subst, ◌∙◌, arith}
use Rattle.std.proofs.lemmas.Bool.{eq-eqb, eqb-true}
use Rattle.pid_types.specs.declared.call.Kind.{Kind}
use Rattle.pid_types.specs.declared.call.Kind.TheVariants.{Task, Group, Session}
use Rattle.pid_types.specs.declared.plain.Row.{Row}
use Rattle.pid_types.specs.Membership.{IsIn}
use Rattle.pid_types.specs.Names.{root_number}
use Rattle.pid_types.specs.Queries.{name_by}
use Rattle.pid_types.specs.Sound.{IsRising}
use Rattle.pid_types.specs.State.{State}
use Rattle.model_laws.proofs.Lists.{IsIn-from_map, IsIn-map, list_any-from_one, some_passes}
use Rattle.translate.specs.Pages.{AreListedFrom}
use Rattle.translate.specs.Relations.{relations_of}
use Rattle.translate.specs.declared.relations.Relations.{Relations}
use Rattle.call_effects.specs.declared.tasks.Watched.{Watched}
use Rattle.call_effects.specs.Belonging.{owner_by}
use Rattle.call_effects.specs.Effects.{has_members_as}
use Rattle.call_effects.specs.Touched.{AreWatched, MayEnd, Touches}
use Rattle.call_effects.proofs.Rows.{either, row_of_watched}

-- what is watched of a row is whose member it is
owner_is : (kind : Kind) (w : Watched) (row : Row) → w.number ≡ root_number row.name → w.before ≡ relations_of row → owner_by kind w ≡ root_number (name_by kind row)
owner_is Task w row n b = n
owner_is Group w row n b = ap (λ (r : Relations). r.group) b
owner_is Session w row n b = ap (λ (r : Relations). r.session) b

-- and so are relations
owner_stays : (kind : Kind) (a b : Row) → root_number a.name ≡ root_number b.name → relations_of a ≡ relations_of b → root_number (name_by kind a) ≡ root_number (name_by kind b)
owner_stays Task a b n r = n
owner_stays Group a b n r = ap (λ (x : Relations). x.group) r
owner_stays Session a b n r = ap (λ (x : Relations). x.session) r

-- one member is enough
pub has_member : (kind : Kind) (state : State) (row : Row) (n : ℕ) → IsIn row state.rows → root_number (name_by kind row) ≡ n → has_members_as kind state n ≡ true
has_member kind state row n i e = list_any-from_one (λ (r : Row). root_number (name_by kind r) == n) state.rows row i (eq-eqb (root_number (name_by kind row)) n e)

-- where there are members there is one
pub a_member : (kind : Kind) (state : State) (n : ℕ) → has_members_as kind state n ≡ true → (row : Row) × IsIn row state.rows × (root_number (name_by kind row) ≡ n)
a_member kind state n so =
    let p = some_passes (λ (r : Row). root_number (name_by kind r) == n) state.rows so in
    (p.0, p.1, eqb-true (root_number (name_by kind p.0)) n p.2)

pub members_may_end : (old new : State) → IsRising (map (λ (r : Row). root_number r.name) old.rows) → (numbers : List ℕ) (tasks : List Watched) → AreWatched old numbers tasks
    → Touches old new numbers → (kind : Kind) (owners : List ℕ) → AreListedFrom (map (owner_by kind) tasks) 0 owners → MayEnd (has_members_as kind) old new owners
members_may_end old new rise numbers tasks watched touches kind owners listed = record {
  rising = listed.rising;
  before = λ n on.
      let m = IsIn-from_map (owner_by kind) n tasks ((listed.each n).0 on).1 in
      let r = row_of_watched old rise numbers tasks watched m.0 m.1 in
      has_member kind old r.0 n r.1 (sym (owner_is kind m.0 r.0 r.2 r.3) ∙ sym m.2);
  rest = λ n so off.
      let r = a_member kind old n so in
      elim (either old rise numbers tasks watched new touches r.0 r.1) [
        | inl w ↦ absurd (off ((listed.each n).1 (
          omega arith,
          subst (λ m. IsIn m (map (owner_by kind) tasks)) (owner_is kind w.watched r.0 w.number w.before ∙ r.2) (IsIn-map (owner_by kind) w.watched tasks w.listed),
        )))
        | inr s ↦ has_member kind new s.now n s.there (owner_stays kind s.now r.0 s.number s.same ∙ r.2)
      ];
}
