-- How many entries go where at most so many are to be kept.
use Rattle.std.proofs.Common.{◌≡◌, ℕ, ◌+◌, ◌<◌, ◌≤◌, [], ◌∷◌, ◌++◌, Bool, true, false, cond, length, length-append, min, inl, inr, refl, ap, ◌∙◌, subst, arith}
use Rattle.std.specs.Prelude.{◌-◌, ◌⊎◌, nat_lt, if◌then◌else◌}
use Rattle.std.proofs.lemmas.Bool.{lt-ltb, le-ltb, ltb-true, ltb-false}
use Rattle.std.proofs.Math.Nat.{min-eq_left, min-eq_right}
use Rattle.pid_types.specs.declared.call.Call.{Call}
use Rattle.kept_table.specs.Calls.{after_recorded, counted, entry_of, outcome, IsWithoutFirst, to_cut, to_cut_once}
use Rattle.kept_table.specs.Chronicle.{Chronicle}
use Rattle.kept_table.proofs.Cuts.{without-after}

abbrev once : Bool → ℕ → ℕ → ℕ
once steps many keep = if nat_lt keep many then (if steps then 1 else many) else 0

abbrev twice : Bool → ℕ → ℕ → ℕ
twice steps many keep = if steps then min 2 (many - keep) else (if nat_lt keep many then many else 0)

once_above : (steps : Bool) (many keep : ℕ) → keep < many → once steps many keep ≡ (if steps then 1 else many)
once_above steps many keep above = ap (λ (b : Bool). cond {A = ℕ} b (if steps then 1 else many) 0) (lt-ltb keep many above)

once_within : (steps : Bool) (many keep : ℕ) → many ≤ keep → once steps many keep ≡ 0
once_within steps many keep within = ap (λ (b : Bool). cond {A = ℕ} b (if steps then 1 else many) 0) (le-ltb keep many within)

two_steps : (many left keep : ℕ) → many ≡ once true many keep + left → (keep < many) ⊎ (many ≤ keep) → (keep < left) ⊎ (left ≤ keep) → once true many keep + once true left keep ≡ min 2 (many - keep)
two_steps many left keep is (inl above) (inl again) =
    omega (arith, once_above true many keep above, once_above true left keep again, is, min-eq_left {n = 2} {m = many - keep} (omega (arith, once_above true many keep above, is, again)))
two_steps many left keep is (inl above) (inr within) =
    omega (arith, once_above true many keep above, once_within true left keep within, is, min-eq_right {n = many - keep} {m = 2} (omega (arith, once_above true many keep above, is, within)))
two_steps many left keep is (inr within) (inl again) = absurd (omega (arith, once_within true many keep within, is, again))
two_steps many left keep is (inr within) (inr still) =
    omega (arith, once_within true many keep within, once_within true left keep still, min-eq_right {n = many - keep} {m = 2} (omega (arith, within)))

all_steps : (many left keep : ℕ) → many ≡ once false many keep + left → (keep < many) ⊎ (many ≤ keep) → once false many keep + once false left keep ≡ (if nat_lt keep many then many else 0)
all_steps many left keep is (inl above) =
    omega (arith, once_above false many keep above, once_within false left keep (omega (arith, once_above false many keep above, is)), is, ap (λ (b : Bool). cond {A = ℕ} b many 0) (lt-ltb keep many above))
all_steps many left keep is (inr within) =
    omega (arith, once_within false many keep within, once_within false left keep (omega (arith, once_within false many keep within, is, within)), ap (λ (b : Bool). cond {A = ℕ} b many 0) (le-ltb keep many within))

or_not : (n m : ℕ) (b : Bool) → nat_lt n m ≡ b → (n < m) ⊎ (m ≤ n)
or_not n m true is = inl (ltb-true n m is)
or_not n m false is = inr (ltb-false n m is)

steps : (b : Bool) (many left keep : ℕ) → many ≡ once b many keep + left → once b many keep + once b left keep ≡ twice b many keep
steps true many left keep is = two_steps many left keep is (or_not keep many (nat_lt keep many) refl) (or_not keep left (nat_lt keep left) refl)
steps false many left keep is = all_steps many left keep is (or_not keep many (nat_lt keep many) refl)

-- two steps cut away as many as there are to be cut
pub in_two : (c d : Chronicle) (keep : ℕ) → IsWithoutFirst (to_cut_once c keep) c d → to_cut_once c keep + to_cut_once d keep ≡ to_cut c keep
in_two c d keep w =
    let same : d.by_steps ≡ c.by_steps = ap (λ (x : Chronicle). x.by_steps) w.left in
    let left : length c.entries ≡ once c.by_steps (length c.entries) keep + length d.entries = ap length w.were ∙ (length-append w.gone d.entries ∙ ap (λ n. n + length d.entries) w.many) in
    ap (λ b. to_cut_once c keep + once b (length d.entries) keep) same ∙ steps c.by_steps (length c.entries) (length d.entries) keep left

-- the same behind a call
pub kept-behind : (old made d : Chronicle) (worker : ℕ) (call : Call) (keep : ℕ) → made ≡ counted old made.entries made.present made.memory → made.entries ≡ old.entries ++ entry_of old worker call ∷ [] → made.present ≡ (outcome old call).state
    → IsWithoutFirst (to_cut made keep) made d → IsWithoutFirst (to_cut (after_recorded old worker call) keep) (after_recorded old worker call) d
kept-behind old made d worker call keep is entries present w =
    let many : to_cut made keep ≡ to_cut (after_recorded old worker call) keep =
    ap (λ b. twice b (length made.entries) keep) (ap (λ (x : Chronicle). x.by_steps) is) ∙ ap (λ es. twice old.by_steps (length es) keep) entries in
    subst (λ n. IsWithoutFirst n (after_recorded old worker call) d) many (without-after (to_cut made keep) old made d worker call is entries present w)
