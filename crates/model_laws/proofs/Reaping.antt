-- What a wait reaps is the least of the selected children that have ended.
use Rattle.model_laws.proofs.Words.{◌↔◌, ◌≡◌, ℕ, ◌≤◌, true, false, not, List, [], ◌∷◌, Some, None, refl, ap, ◌∙◌, subst, inl, inr, arith, not-true, not_from_false, cases_Bool, nat_tests, Which, Row, Zombie, Reaped, NoneYet, IsIn, State, number_or_zero, is_live, Outcome, matching, least_row, end_of, ended_children, Wait}
use Rattle.model_laws.proofs.Ground.{IsIn-filter, IsIn-from_filter}
use Rattle.model_laws.specs.WaitLaws.{MayBeReaped, IsReaped, WaitReapsLeast, NoneYetHasEnded}
use Rattle.model_laws.proofs.Calls.{Comes, still, waits, reaped, no_answer}
use Rattle.model_laws.proofs.EndsKept.{least_row-IsIn}
use Rattle.model_laws.proofs.Refusals.{may-match, step_comes}

-- none of the list has a lesser number than its least row
least_row-least : (state : State) (s : ℕ) (rows : List Row) (row other : Row) → least_row state s rows ≡ Some row → IsIn other rows
    → number_or_zero state.spaces row.name s ≤ number_or_zero state.spaces other.name s
least_row-least state s [] row other h i = elim i [ ]
least_row-least state s (r ∷ []) row other h i = grind arith
least_row-least state s (r ∷ q ∷ rows) row other h i = grind (arith, nat_tests, λ (x : Row). least_row-least state s (q ∷ rows) x other)

-- where there is no least row there is none
least_row-none : (state : State) (s : ℕ) (rows : List Row) (row : Row) → least_row state s rows ≡ None → IsIn row rows → ⊥
least_row-none state s [] row h i = elim i [ ]
least_row-none state s (r ∷ rows) row h i = cc

-- the children that the definition lists are those that the wait selects and that have ended
ended : (state : State) (caller : Row) (which : Which) (row : Row)
    → IsIn row (ended_children state caller which) ↔ (MayBeReaped state caller which row × (is_live row ≡ false))
ended state caller which row = (
  λ i.
      let f = IsIn-from_filter (λ r. not (is_live r)) row (matching state caller which) i in
      ((may-match state caller which row).0 f.0, not-true (is_live row) f.1),
  λ h. IsIn-filter (λ r. not (is_live r)) row (matching state caller which) ((may-match state caller which row).1 h.0) (not_from_false (is_live row) h.1),
)

-- a task that has ended is a zombie of its end
zombie_of : (row : Row) → is_live row ≡ false → row.life ≡ Zombie (end_of row)
zombie_of row h = grind arith

-- a wait reaps the least
pub wait_reaps_least : WaitReapsLeast
wait_reaps_least state stamp n which caller child how found told = go _ (step_comes state stamp (Wait n which)) told
  where
    go : (o : Outcome) → Comes state stamp (Wait n which) o → o.reply ≡ Reaped child how → (row : Row) × IsReaped state caller which child how row
    go o (still _ reply answer) told = absurd (no_answer reply (Reaped child how) answer refl told)
    go o (waits _ _ other there none) told = absurd (cc)
    go o (reaped _ _ other row there least) told =
        let same : caller ≡ other = cc in
        let number : number_or_zero state.spaces row.name other.name.space ≡ child = cc in
        let end : end_of row ≡ how = cc in
        let f = (ended state other which row).0 (least_row-IsIn state other.name.space (ended_children state other which) row least) in
        rw same (
          row,
          record {
            selected = f.0;
            life = zombie_of row f.1 ∙ ap Zombie end;
            number = number;
            least = λ x may dead. subst (λ k. k ≤ number_or_zero state.spaces x.name other.name.space) number
                (least_row-least state other.name.space (ended_children state other which) row x least ((ended state other which x).1 (may, dead)));
          },
        )

-- where a wait finds none yet, all that it selects live
pub none_yet_has_ended : NoneYetHasEnded
none_yet_has_ended state stamp n which caller found told row = go _ (step_comes state stamp (Wait n which)) told
  where
    go : (o : Outcome) → Comes state stamp (Wait n which) o → o.reply ≡ NoneYet → MayBeReaped state caller which row → is_live row ≡ true
    go o (still _ reply answer) told may = absurd (no_answer reply NoneYet answer refl told)
    go o (reaped _ _ other gone there least) told may = absurd (cc)
    go o (waits _ _ other there none) told may = elim (cases_Bool (is_live row)) [
      | inl live ↦ live
      | inr dead ↦
          let same : caller ≡ other = cc in
          absurd (least_row-none state other.name.space (ended_children state other which) row none ((ended state other which row).1 (rw same at may, dead)))
    ]
