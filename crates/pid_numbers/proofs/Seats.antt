-- Identifiers in their places.
use Rattle.std.proofs.Common.{◌≡◌, ◌≢◌, ℕ, ◌<◌, List, length, map, get_or, set, Option, Some, None, IsSome, sym, ap, ◌∙◌, arith, option_map}
use Rattle.pid_numbers.proofs.Words.{length-map, length-set, cases_eq, Ident, Identifier, Table, identifier_of, get, ident_at, shown, ChangesPlace, IsTable}
use Rattle.pid_numbers.proofs.Filled as filled
use Rattle.pid_numbers.proofs.Vacancy as vacancy

-- how many numbers it has
abbrev pub numbers_of : Ident → ℕ
numbers_of x = length x.numbers

-- who has a name is there
pub named : (o : Option Ident) (u : Identifier) → option_map identifier_of o ≡ Some u → (x : Ident) × (o ≡ Some x) × (identifier_of x ≡ u)
named o u e = grind arith

pub some-named : (o : Option Ident) → IsSome (option_map identifier_of o) → (x : Ident) × (o ≡ Some x)
some-named o e = grind arith

-- an identifier is written over, and keeps its numbers
module _ (places : List Ident) (key : ℕ) (y z : Ident) (lt : key < length places) (some : 0 < length y.numbers) (at : get_or (map shown places) key None ≡ Some y) (same : z.numbers ≡ y.numbers) where
  shows : shown z ≡ Some z
  shows = filled.show-some numbers_of (λ x. x) z (let l = ap length same in omega (arith, l, some))

  pub rewritten : get_or (map shown (set places key z)) key None ≡ Some z
  rewritten = filled.slot-set_same numbers_of (λ x. x) places key z lt ∙ shows

  pub others : (j : ℕ) → j ≢ key → get_or (map shown (set places key z)) j None ≡ get_or (map shown places) j None
  others j differs = filled.slot-set_other numbers_of (λ x. x) places key j z differs

  pub still-table : (vacant : List ℕ) (rooms : ℕ) → IsTable places vacant rooms → IsTable (set places key z) vacant rooms
  still-table vacant rooms t = record {
    vacancies =
        vacancy.vacant-as (map shown places) (map shown (set places key z)) vacant rooms t.vacancies (length-map (set places key z) shown ∙ length-set places key z ∙ sym (length-map places shown))
        (λ s none. let far = others s in grind (arith, cases_eq)) (λ s none. let far = others s in let now = rewritten in grind (arith, cases_eq));
    few = let n = length-set places key z in let f = t.few in omega (arith, n, f);
  }

-- an identifier that was put into the place with the key
pub record IsPut (old new : Table) (key : ℕ) (u : Identifier) : Type 0 where
  pub was : ident_at old key ≡ None
  pub now : ident_at new key ≡ Some u
  pub others : (j : ℕ) → j ≢ key → ident_at new j ≡ ident_at old j

pub put : (old mid new : Table) (key at : ℕ) (x : Ident) (u : Identifier) → identifier_of x ≡ u → get old key ≡ None → mid ≡ record old { ready = mid.ready } → key ≡ at → ChangesPlace mid new at (Some x) → IsPut old new key u
put old mid new key at x u e vacant same is changes = record {
  was = ap (option_map identifier_of) vacant;
  now = ap (ident_at new) is ∙ ap (option_map identifier_of) changes.changed ∙ ap Some e;
  others = λ j differs. ap (option_map identifier_of) (changes.others j (λ e. differs (e ∙ sym is))) ∙ ap (λ t. ident_at t j) same;
}
