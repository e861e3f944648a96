-- How many calls wait after a cut, and after a call that keeps so many entries.
use Rattle.std.proofs.Common.{◌≡◌, ◌⊎◌, ℕ, ◌+◌, ◌≤◌, ap, subst, sym, arith, inl, inr}
use Rattle.std.proofs.lemmas.Bool.Decides.{leb_tells}
use Rattle.kept_past.specs.Past.{IsCaughtUp, Waiting, nobody_waits, one_more}
use Rattle.kept_table.specs.Calls.{FewerWait, NoneWait, WaitsByCut}

none_by : (waits : Waiting) → waits ≡ nobody_waits → NoneWait waits
none_by waits is = inl (ap (λ (w : Waiting). w.many) is)

-- of the calls that waited and perhaps one more, three were made
fewer_by_three : (many : ℕ) (old new : Waiting) → many ≤ old.many + 1 → IsCaughtUp 3 (record old { many = many + 1 }) new → FewerWait old new
fewer_by_three many old new most moved = elim moved.made [
  | inl made ↦ elim (leb_tells old.many 1) [
    | inl few ↦ inr (inl (omega (arith, made, most, few.1)))
    | inr more ↦ inl (omega (arith, made, most, more.1))
  ]
  | inr starves ↦ inr (inr starves)
]

-- one entry is cut away, or all are at once
fewer_by_cut : (old new : Waiting) → IsCaughtUp 3 (one_more old) new ⊎ (new ≡ nobody_waits) → FewerWait old new
fewer_by_cut old new cut = elim cut [
  | inl moved ↦ fewer_by_three old.many old new (omega arith) moved
  | inr none ↦ inr (none_by new none)
]

one_more_at_most : (old new : Waiting) → IsCaughtUp 3 (one_more old) new ⊎ (new ≡ nobody_waits) → new.many ≤ old.many + 1
one_more_at_most old new cut = elim cut [
  | inl moved ↦ moved.none_more
  | inr none ↦ omega (arith, ap (λ (w : Waiting). w.many) none)
]

-- two cuts, each of one entry or none: as many wait, or fewer
pub fewer_by_two : (old mid new : Waiting) → WaitsByCut old mid → WaitsByCut mid new → (new ≡ old) ⊎ FewerWait old new
fewer_by_two old mid new first second = elim second [
  | inl same ↦ subst (λ (w : Waiting). (w ≡ old) ⊎ FewerWait old w) (sym same) (elim first [
    | inl stays ↦ inl stays
    | inr cut ↦ inr (fewer_by_cut old mid cut)
  ])
  | inr cut ↦ inr (elim first [
    | inl stays ↦ subst (λ (w : Waiting). FewerWait w new) stays (fewer_by_cut mid new cut)
    | inr before ↦ elim cut [
      | inl moved ↦ fewer_by_three mid.many old new (one_more_at_most old mid before) (record { made = moved.made; none_more = moved.none_more })
      | inr none ↦ inr (none_by new none)
    ]
  ])
]

-- two of those that wait are made
pub fewer_by_call : (old new : Waiting) → IsCaughtUp 2 old new → FewerWait old new
fewer_by_call old new moved = elim moved.made [
  | inl made ↦ elim (leb_tells old.many 2) [
    | inl few ↦ inr (inl (omega (arith, made, few.1)))
    | inr more ↦ inl (omega (arith, made, more.1))
  ]
  | inr starves ↦ inr (inr starves)
]

-- fewer wait than before, when no more did than at first
pub fewer_then : (old mid new : Waiting) → mid.many ≤ old.many → FewerWait mid new → FewerWait old new
fewer_then old mid new most fewer = elim fewer [
  | inl less ↦ inl (omega (arith, less, most))
  | inr none ↦ inr none
]

-- a call, and then cuts
pub fewer_after : (old mid new : Waiting) → IsCaughtUp 2 old mid → (new ≡ mid) ⊎ FewerWait mid new → FewerWait old new
fewer_after old mid new moved cuts = elim cuts [
  | inl same ↦ subst (λ (w : Waiting). FewerWait old w) (sym same) (fewer_by_call old mid moved)
  | inr fewer ↦ fewer_then old mid new moved.none_more fewer
]
