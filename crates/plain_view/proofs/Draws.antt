-- A search for a free number below the bound.
use Rattle.std.proofs.Common.{◌≡◌, ℕ, ◌<◌, ◌≤◌, max, Bool, true, false, cond, List, Some, None, Option, refl, sym, arith, inl, inr}
use Rattle.std.specs.Prelude.{nat_lt, if◌then◌else◌}
use Rattle.std.proofs.lemmas.Bool.{cases_Bool, ltb-true}
use Rattle.std.proofs.lemmas.Bool.Decides.{nat_tests}
use Rattle.pid_types.specs.Chains.{contains}
use Rattle.pid_types.specs.Draw.{least_free, restart, cyclic_draw}
use Rattle.pid_types.proofs.LeastFree.{IsLeastFree, least_free-IsLeastFree, least_free-found}

-- the least free number, if it is below the bound
abbrev pub free_below : List ℕ → ℕ → ℕ → Option ℕ
free_below ns from pid_max = if nat_lt (least_free ns from) pid_max then Some (least_free ns from) else None

-- the first number that is not taken is the answer
pub free_below-found : (ns : List ℕ) (from r pid_max : ℕ) → from ≤ r → r < pid_max
    → ((m : ℕ) → from ≤ m → m < r → contains ns m ≡ true) → contains ns r ≡ false → Some r ≡ free_below ns from pid_max
free_below-found ns from r pid_max above below passed absent =
    let e : r ≡ least_free ns from = least_free-found ns from r above passed absent in
    let t : nat_lt r pid_max ≡ true = grind (arith, nat_tests) in
    rw (← e, t) refl

-- where all numbers below the bound are taken there is no answer
pub free_below-none : (ns : List ℕ) (from pid_max : ℕ) → ((m : ℕ) → from ≤ m → m < pid_max → contains ns m ≡ true) → None ≡ free_below ns from pid_max
free_below-none ns from pid_max passed =
    let f : IsLeastFree ns from (least_free ns from) = least_free-IsLeastFree ns from in
    elim (cases_Bool (nat_lt (least_free ns from) pid_max)) [
      | inl e ↦ let a : contains ns (least_free ns from) ≡ false = f.absent in
          let t : contains ns (least_free ns from) ≡ true = passed (least_free ns from) f.from (ltb-true _ _ e) in cc
      | inr e ↦ rw e refl
    ]

cond-Some : (b : Bool) (n r : ℕ) (o : Option ℕ) → cond b (Some n) None ≡ Some r → cond b (Some n) o ≡ Some r
cond-Some true n r o h = h
cond-Some false n r o h = cc

cond-None : (b : Bool) (n : ℕ) (o : Option ℕ) → cond b (Some n) None ≡ None → cond b (Some n) o ≡ o
cond-None true n o h = cc
cond-None false n o h = refl

-- a free number from the cursor on is the draw
pub draw-upper : (ns : List ℕ) (pid_max cursor r : ℕ) → free_below ns (max cursor (restart cursor)) pid_max ≡ Some r → Some r ≡ cyclic_draw pid_max cursor ns
unfolding cyclic_draw
draw-upper ns pid_max cursor r h = sym (cond-Some (nat_lt (least_free ns (max cursor (restart cursor))) pid_max) _ r _ h)

-- where there is none the draw is a free number from the restart on
pub draw-lower : (ns : List ℕ) (pid_max cursor : ℕ) → free_below ns (max cursor (restart cursor)) pid_max ≡ None → free_below ns (restart cursor) pid_max ≡ cyclic_draw pid_max cursor ns
unfolding cyclic_draw
draw-lower ns pid_max cursor h = sym (cond-None (nat_lt (least_free ns (max cursor (restart cursor))) pid_max) _ _ h)
