-- What a cut finds.
use Rattle.std.proofs.Common.{◌≡◌, ℕ, suc, ◌+◌, ◌<◌, ◌≤◌, Bool, true, false, eqb, List, [], ◌∷◌, ◌++◌, length, get_or, take, drop, Option, Some, None, refl, ap, ◌∙◌, arith, length-take-le, get_or-take, eqb-true, subst, option_map}
use Rattle.std.specs.List.{AllByRecursion}
use Rattle.std.proofs.lemmas.List.Elements.{All-from_get_or, recursion_from_All}
use Rattle.std.proofs.lemmas.Bool.{ne_eqb}
use Rattle.std.proofs.lemmas.List.{take_all}
use Rattle.std.proofs.Math.Seq.{split_at}
use Rattle.std.proofs.lemmas.Slice.{between_to_end}
use Rattle.std.proofs.lemmas.Option.{none-some, same_Some}
use Rattle.pid_script.specs.Reading.{IsFirstOf, IsFreeOf, cut}

-- no byte of the list is this one
abbrev pub Lacks : ℕ → List ℕ → Type 0
Lacks byte bs = AllByRecursion (λ b. eqb b byte ≡ false) bs

pub same_eqb : (b : ℕ) → eqb b b ≡ true
same_eqb b = grind (arith)

-- a cut ends at the first such byte
pub cut-append : (byte : ℕ) (w rest : List ℕ) → Lacks byte w → cut byte (w ++ byte ∷ rest) ≡ Some (w, rest)
cut-append byte [] rest lacks = rw (same_eqb byte)
cut-append byte (b ∷ w) rest lacks = rw (lacks.0, cut-append byte w rest lacks.1)

-- a cut at the front
pub cut-front : (byte : ℕ) (bs : List ℕ) → 0 < length bs → get_or bs 0 0 ≡ byte → cut byte bs ≡ Some ([], drop 1 bs)
cut-front byte [] long is = absurd (omega arith)
cut-front byte (b ∷ bs) long is = rw (is, same_eqb byte)

-- without such a byte there is no cut
pub cut-lacks : (byte : ℕ) (w : List ℕ) → Lacks byte w → cut byte w ≡ None
cut-lacks byte [] lacks = refl
cut-lacks byte (b ∷ w) lacks = rw (lacks.0, cut-lacks byte w lacks.1)

-- where there is no such byte before an index, what stands there lacks it
lacks_before : (byte : ℕ) (bs : List ℕ) (i : ℕ) → i ≤ length bs → IsFreeOf byte i bs → Lacks byte (take i bs)
lacks_before byte bs i within free =
    recursion_from_All (λ b. eqb b byte ≡ false) (take i bs)
    (All-from_get_or (λ b. eqb b byte ≡ false) (take i bs) 0 (λ k lt.
    let in_front : k < i = omega (arith, length-take-le i bs within) in
    rw (get_or-take i bs k 0) (ne_eqb _ _ (free k in_front))))

-- where there is no such byte, there is no cut
pub cut-missed : (byte : ℕ) (bs : List ℕ) → IsFreeOf byte (length bs) bs → cut byte bs ≡ None
cut-missed byte bs free = cut-lacks byte bs (subst (Lacks byte) (take_all (length bs) bs (omega arith)) (lacks_before byte bs (length bs) (omega arith) free))

-- what a cut at the first such byte finds
pub cut-found : (byte : ℕ) (bs : List ℕ) (i : ℕ) → IsFirstOf byte i bs → cut byte bs ≡ Some (take i bs, drop (i + 1) bs)
cut-found byte bs i first =
    let lt = first.within in
    let next : suc i ≡ i + 1 = omega arith in
    let parts : bs ≡ take i bs ++ byte ∷ drop (i + 1) bs = subst (λ n. bs ≡ take i bs ++ byte ∷ drop n bs) next (subst (λ b. bs ≡ take i bs ++ b ∷ drop (suc i) bs) first.is (split_at bs i 0 lt)) in
    ap (cut byte) parts ∙ cut-append byte (take i bs) (drop (i + 1) bs) (lacks_before byte bs i (omega arith) first.free)

pub option_map_some : {A B P : Type 0} (f : A → B) (o : Option A) (y : B) → option_map f o ≡ Some y → ((x : A) → o ≡ Some x → f x ≡ y → P) → P
option_map_some f None y is go = absurd (none-some y is)
option_map_some f (Some x) y is go = go x refl (same_Some _ y is)

-- a test holds, or it does not
pub by_test : {P : Type 0} (t : Bool) → (t ≡ true → P) → (t ≡ false → P) → P
by_test true then otherwise = then refl
by_test false then otherwise = otherwise refl

-- what a cut found, put together again
pub cut-Some : (byte : ℕ) (bs : List ℕ) (p : List ℕ × List ℕ) → cut byte bs ≡ Some p → bs ≡ p.0 ++ byte ∷ p.1
cut-Some byte [] p found = absurd (none-some p found)
cut-Some byte (b ∷ bs) p found =
    by_test (eqb b byte)
    (λ same. ap (λ x. x ∷ bs) (eqb-true _ _ same) ∙ ap (λ q. q.0 ++ byte ∷ q.1) (same_Some ([], bs) p (rw same at found)))
    (λ other. option_map_some _ (cut byte bs) p (rw other at found) (λ q later same. ap (λ rest. b ∷ rest) (cut-Some byte bs q later) ∙ ap (λ r. r.0 ++ byte ∷ r.1) same))

pub ruleset cuts = (cut-missed, cut-found, cut-front, between_to_end)
