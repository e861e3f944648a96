-- What a result says, and what follows from it.
use Rattle.std.proofs.Common.{◌≡◌, ℕ, ◌<◌, true, false, IsTrue, Option, Some, None, IfSome, Result, Ok, Err, OnOk, OnErr, IfErr, refl, sym, ap, subst, arith, rules}
use Rattle.std.specs.Option.{option_map_or}
use Rattle.std.specs.Result.{IsErrAnd}

pub is_true : IsTrue true
is_true = search rules

pub never : IsTrue false → ⊥
never h = cc

-- a number that may be there, below another
pub if_some : (o : Option ℕ) (n : ℕ) → ((p : ℕ) → o ≡ Some p → p < n) → IfSome o (λ p. p < n)
if_some None n h = tt
if_some (Some p) n h = h p refl

pub from_some : (o : Option ℕ) (n : ℕ) → IfSome o (λ p. p < n) → (p : ℕ) → o ≡ Some p → p < n
from_some None n h p e = absurd (let z : None ≡ Some p = e in cc)
from_some (Some q) n h p e = let z = ap (λ o. option_map_or (λ m. m) o q) e in omega (arith, h, z)

module _ {A E : Type 0} where
  -- what is so of an error is so of the one that is handed on
  pub if_err : (r : Result A E) (P : E → Type 0) (e : E) → IsErrAnd r (λ x. x ≡ e) → P e → IfErr r P
  if_err (Ok x) P e is h = tt
  if_err (Err x) P e is h = subst P (sym is) h

  pub on_err : (r : Result A E) (P : Type 0) → P → OnErr r P
  on_err (Ok x) P h = tt
  on_err (Err e) P h = h

  -- what follows from what is so
  pub on_ok-map : (r : Result A E) (P Q : Type 0) → (P → Q) → OnOk r P → OnOk r Q
  on_ok-map (Ok x) P Q f h = f h
  on_ok-map (Err e) P Q f h = tt

  pub if_err-map : (r : Result A E) (P Q : E → Type 0) → ((e : E) → P e → Q e) → IfErr r P → IfErr r Q
  if_err-map (Ok x) P Q f h = tt
  if_err-map (Err e) P Q f h = f e h
