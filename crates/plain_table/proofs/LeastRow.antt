-- The row with the least number, found by a walk over the rows.
use Rattle.std.proofs.Common.{◌≡◌, ℕ, ◌+◌, ◌<◌, Bool, true, false, ◌&&◌, not, List, [], ◌∷◌, ◌++◌, length, take, get_or, filter, Option, Some, None, refl, ap, arith, inl, inr}
use Rattle.std.specs.Prelude.{nat_lt, if◌then◌else◌}
use Rattle.std.specs.Option.{option_map_or}
use Rattle.std.proofs.lemmas.Bool.{cases_Bool}
use Rattle.std.proofs.lemmas.Bool.Decides.{nat_tests}
use Rattle.std.proofs.lemmas.List.Elements.{filter_more}
use Rattle.std.proofs.lemmas.List.{append-nil}
use Rattle.pid_types.specs.declared.call.Which.{Which}
use Rattle.pid_types.specs.declared.plain.Row.{Row}
use Rattle.pid_types.specs.State.{State}
use Rattle.pid_types.specs.Names.{number_or_zero, is_parent, is_live}
use Rattle.pid_types.specs.Wait.{least_row, is_selected, matching, ended_children}
use Rattle.plain_table.specs.Least.{lesser_of, is_ended_match}

-- the lesser of three is the same whichever two are compared first
lesser_of-three : (state : State) (s : ℕ) (m y row : Row)
    → option_map_or (λ other. if nat_lt (number_or_zero state.spaces other.name s) (number_or_zero state.spaces y.name s) then other else y) (Some (lesser_of state s (Some m) row)) y
    ≡ lesser_of state s (Some (if nat_lt (number_or_zero state.spaces m.name s) (number_or_zero state.spaces y.name s) then m else y)) row
lesser_of-three state s m y row = go (number_or_zero state.spaces m.name s) (number_or_zero state.spaces y.name s) (number_or_zero state.spaces row.name s) refl refl refl
  where
    go : (a b c : ℕ) → number_or_zero state.spaces m.name s ≡ a → number_or_zero state.spaces y.name s ≡ b → number_or_zero state.spaces row.name s ≡ c
        → option_map_or (λ other. if nat_lt (number_or_zero state.spaces other.name s) (number_or_zero state.spaces y.name s) then other else y) (Some (lesser_of state s (Some m) row)) y
        ≡ lesser_of state s (Some (if nat_lt (number_or_zero state.spaces m.name s) (number_or_zero state.spaces y.name s) then m else y)) row
    go a b c ea eb ec = elim (cases_Bool (nat_lt c a)) [
      | inl ca ↦ elim (cases_Bool (nat_lt a b)) [
        | inl ab ↦ let cb : nat_lt c b ≡ true = grind (arith, nat_tests) in rw (ea, eb, ec, ca, ec, ab, cb, ea, ca) refl
        | inr ab ↦ rw (ea, eb, ec, ca, ec, ab, eb) refl
      ]
      | inr ca ↦ elim (cases_Bool (nat_lt a b)) [
        | inl ab ↦ rw (ea, eb, ec, ca, ea, ab, ea, ca) refl
        | inr ab ↦ let cb : nat_lt c b ≡ false = grind (arith, nat_tests) in rw (ea, eb, ec, ca, ea, ab, eb, cb) refl
      ]
    ]

-- one more row is compared with the least of those before it
pub least_row-snoc : (state : State) (s : ℕ) (rows : List Row) (row : Row)
    → least_row state s (rows ++ row ∷ []) ≡ Some (lesser_of state s (least_row state s rows) row)
least_row-snoc state s [] row = refl
least_row-snoc state s (y ∷ ys) row = rw (least_row-snoc state s ys row) (ap Some (cases (least_row state s ys)))
  where
    cases : (o : Option Row)
        → option_map_or (λ other. if nat_lt (number_or_zero state.spaces other.name s) (number_or_zero state.spaces y.name s) then other else y) (Some (lesser_of state s o row)) y
        ≡ lesser_of state s (Some (option_map_or (λ other. if nat_lt (number_or_zero state.spaces other.name s) (number_or_zero state.spaces y.name s) then other else y) o y)) row
    cases None = refl
    cases (Some m) = lesser_of-three state s m y row

-- the walk goes over a row that is such a child
pub least_row-passes : (state : State) (s : ℕ) (test : Row → Bool) (rows : List Row) (i : ℕ) (row : Row) → i < length rows → row ≡ get_or rows i row → test row ≡ true
    → least_row state s (filter test (take (i + 1) rows)) ≡ Some (lesser_of state s (least_row state s (filter test (take i rows))) row)
least_row-passes state s test rows i row below is passes =
    rw (filter_more test rows i row below, ← is, passes) (least_row-snoc state s (filter test (take i rows)) row)

-- the walk goes over any other row
pub least_row-skips : (state : State) (s : ℕ) (test : Row → Bool) (rows : List Row) (i : ℕ) (row : Row) → i < length rows → row ≡ get_or rows i row → test row ≡ false
    → least_row state s (filter test (take (i + 1) rows)) ≡ least_row state s (filter test (take i rows))
least_row-skips state s test rows i row below is fails = rw (filter_more test rows i row below, ← is, fails, append-nil) refl

-- two filters are one
filter-filter : (p q : Row → Bool) (rows : List Row) → filter q (filter p rows) ≡ filter (λ row. p row && q row) rows
filter-filter p q [] = refl
filter-filter p q (row ∷ rows) = elim (cases_Bool (p row)) [
  | inl passes ↦ rw passes (elim (cases_Bool (q row)) [ inl e ↦ rw (e, filter-filter p q rows) refl | inr e ↦ rw (e, filter-filter p q rows) refl ])
  | inr fails ↦ rw fails (filter-filter p q rows)
]

-- the ended children that the wait selects are the rows that pass one test
pub ended_children-filter : (state : State) (caller : Row) (which : Which) → ended_children state caller which ≡ filter (is_ended_match state caller which) state.rows
unfolding matching
ended_children-filter state caller which = filter-filter (λ row. is_parent caller.name row && is_selected state caller which row) (λ row. not (is_live row)) state.rows
