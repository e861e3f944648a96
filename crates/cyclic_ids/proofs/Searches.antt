-- Searches of a tree with a leaf beside it.
use Rattle.std.proofs.Common.{ℕ, ◌≡◌, ◌≢◌, ◌+◌, ◌-◌, ◌*◌, ◌/◌, ◌%◌, ◌<◌, ◌≤◌, min, sym, ap, ◌∙◌, arith, inl, inr, Bool, true, false, Option, Some, None, IfSome, refl}
use Rattle.std.specs.Option.{option_map}
use Rattle.std.proofs.lemmas.Bool.{cases_eq, cases_lt, false≢true}
use Rattle.index_array.specs.Place.{IsLeastIndex}
use Rattle.cyclic_ids.specs.Ids.{lesser}

-- tests that agree find the same
pub found_same : (p q : ℕ → Bool) (from end : ℕ) (r : Option ℕ) → ((k : ℕ) → p k ≡ q k) → IsLeastIndex q from end r → IsLeastIndex p from end r
found_same p q from end None same none = λ k low high. same k ∙ none k low high
found_same p q from end (Some a) same found = (found.0, found.1, same a ∙ found.2, λ k low high. same k ∙ found.3 k low high)

-- what is found below an end is so below a later one
pub found_wider : (p : ℕ → Bool) (from mid end a : ℕ) → mid ≤ end → IsLeastIndex p from mid (Some a) → IsLeastIndex p from end (Some a)
found_wider p from mid end a fits found = (found.0, omega (arith, found.1, fits), found.2, found.3)

-- a test that is one of the leaf in its block, and one of the tree elsewhere
module _ (p own tree : ℕ → Bool) (block : ℕ) (here : (k : ℕ) → k / 64 ≡ block → p k ≡ own (k % 64)) (there : (k : ℕ) → k / 64 ≢ block → p k ≡ tree k) where
  -- what the leaf finds from a number of its block on comes first
  pub found_first : (from end s : ℕ) → from / 64 ≡ block → block * 64 + 64 ≤ end → IsLeastIndex own (from % 64) 64 (Some s) → IsLeastIndex p from end (Some (block * 64 + s))
  found_first from end s start fits found =
      let below = found.1 in
      let same : (block * 64 + s) / 64 ≡ block = omega (arith, below) in
      let slot : (block * 64 + s) % 64 ≡ s = omega (arith, below) in (
        omega (arith, found.0, start),
        omega (arith, below, fits),
        here (block * 64 + s) same ∙ ap own slot ∙ found.2,
        λ k low high.
            here k (omega (arith, start, low, high, below)) ∙ found.3 (k % 64) (omega (arith, start, low, high, below)) (omega (arith, start, low, high, below)),
      )

  -- a number of the tree that passes the test is the first from itself on
  pub found_at_once : (from end : ℕ) → from / 64 ≢ block → from < end → tree from ≡ true → IsLeastIndex p from end (Some from)
  found_at_once from end off fits on = (omega arith, fits, there from off ∙ on, λ k low high. absurd (omega (arith, low, high)))

  -- what the tree finds below the block comes before all that the leaf has
  pub found_below : (from end : ℕ) (r : Option ℕ) → IfSome r (λ a. a / 64 < block) × (r ≢ None) → IsLeastIndex tree from end r → IsLeastIndex p from end r
  found_below from end None below _ = absurd (below.1 refl)
  found_below from end (Some a) below found = (
    found.0,
    found.1,
    there a (λ same. absurd (omega (arith, same, below.0))) ∙ found.2,
    λ k low high. there k (λ same. absurd (omega (arith, same, high, below.0))) ∙ found.3 k low high,
  )

  -- where the tree finds nothing below the block, what the leaf finds comes first
  module _ (from end : ℕ) (fits : block * 64 + 64 ≤ end) (none : IsLeastIndex tree from (block * 64) None) where
    pub found_next : (s : ℕ) → IsLeastIndex own (from - block * 64) 64 (Some s) → IsLeastIndex p from end (Some (block * 64 + s))
    found_next s found =
        let below = found.1 in
        let same : (block * 64 + s) / 64 ≡ block = omega (arith, below) in
        let slot : (block * 64 + s) % 64 ≡ s = omega (arith, below) in (
          omega (arith, found.0),
          omega (arith, below, fits),
          here (block * 64 + s) same ∙ ap own slot ∙ found.2,
          λ k low high. elim (cases_eq (k / 64) block) [
            | inl within ↦ here k within ∙ found.3 (k % 64) (omega (arith, within, low)) (omega (arith, within, high))
            | inr other ↦ there k other ∙ none k low (omega (arith, other, high, below))
          ],
        )

    -- and where the leaf finds nothing, what the tree finds past the block
    pub found_past : (r : Option ℕ) → from < block * 64 + 64 → IsLeastIndex own (from - block * 64) 64 None → IsLeastIndex tree (block * 64 + 64) end r → IsLeastIndex p from end r
    found_past r near bare far = go r far
      where
        passed : (k : ℕ) → from ≤ k → k < block * 64 + 64 → p k ≡ false
        passed k low high = elim (cases_eq (k / 64) block) [
          | inl within ↦ here k within ∙ bare (k % 64) (omega (arith, within, low)) (omega arith)
          | inr other ↦ there k other ∙ none k low (omega (arith, other, high))
        ]

        go : (r : Option ℕ) → IsLeastIndex tree (block * 64 + 64) end r → IsLeastIndex p from end r
        go None rest = λ k low high. elim (cases_lt k (block * 64 + 64)) [
          | inl soon ↦ passed k low soon
          | inr late ↦ there k (λ same. absurd (omega (arith, same, late))) ∙ rest k late high
        ]
        go (Some a) found = (
          omega (arith, near, found.0),
          found.1,
          there a (λ same. absurd (omega (arith, same, found.0))) ∙ found.2,
          λ k low high. elim (cases_lt k (block * 64 + 64)) [
            | inl soon ↦ passed k low soon
            | inr late ↦ there k (λ same. absurd (omega (arith, same, late))) ∙ found.3 k late high
          ],
        )

  -- where the tree passes the test in the whole block: what it finds is outside, or leads to the leaf
  module _ (all : (k : ℕ) → k / 64 ≡ block → tree k ≡ true) where
    outside : (k : ℕ) → tree k ≡ false → p k ≡ false
    outside k off = there k (λ same. false≢true (sym off ∙ all k same)) ∙ off

    pub none_outside : (from end : ℕ) → IsLeastIndex tree from end None → IsLeastIndex p from end None
    none_outside from end none = λ k low high. outside k (none k low high)

    pub found_outside : (from end a : ℕ) → a / 64 ≢ block → IsLeastIndex tree from end (Some a) → IsLeastIndex p from end (Some a)
    found_outside from end a off found = (found.0, found.1, there a off ∙ found.2, λ k low high. outside k (found.3 k low high))

    pub found_on : (from end a : ℕ) (r : Option ℕ) → IsLeastIndex tree from end (Some a) → IsLeastIndex p a end r → IsLeastIndex p from end r
    found_on from end a None found none = λ k low high.
        elim (cases_lt k a) [ inl soon ↦ outside k (found.3 k low soon) | inr late ↦ none k late high ]
    found_on from end a (Some b) found next = (
      omega (arith, found.0, next.0),
      next.1,
      next.2,
      λ k low high.
          elim (cases_lt k a) [ inl soon ↦ outside k (found.3 k low soon) | inr late ↦ next.3 k late high ],
    )

  -- where the tree passes it nowhere in the block
  module _ (nowhere : (k : ℕ) → k / 64 ≡ block → tree k ≡ false) where
    pub found_beyond : (from end : ℕ) (r : Option ℕ) → block < from / 64 → IsLeastIndex tree from end r → IsLeastIndex p from end r
    found_beyond from end None past none = λ k low high. there k (λ same. absurd (omega (arith, same, low, past))) ∙ none k low high
    found_beyond from end (Some a) past found =
        (found.0, found.1, there a (λ same. absurd (omega (arith, same, found.0, past))) ∙ found.2, λ k low high. there k (λ same. absurd (omega (arith, same, low, past))) ∙ found.3 k low high)

    -- a number is passed over by both
    neither : (k : ℕ) → (k / 64 ≡ block → own (k % 64) ≡ false) → (k / 64 ≢ block → tree k ≡ false) → p k ≡ false
    neither k f g = elim (cases_eq (k / 64) block) [ inl same ↦ here k same ∙ f same | inr other ↦ there k other ∙ g other ]

    slot_of : (s : ℕ) → s < 64 → p (block * 64 + s) ≡ own s
    slot_of s b =
        let same : (block * 64 + s) / 64 ≡ block = omega (arith, b) in
        let slot : (block * 64 + s) % 64 ≡ s = omega (arith, b) in
        here (block * 64 + s) same ∙ ap own slot

    tree_of : (a : ℕ) → tree a ≡ true → p a ≡ true
    tree_of a on = there a (λ same. false≢true (sym (nowhere a same) ∙ on)) ∙ on

    pub found_lesser : (from end : ℕ) (r q : Option ℕ) → from / 64 ≤ block → block * 64 + 64 ≤ end → IsLeastIndex tree from end r → IsLeastIndex own (from - block * 64) 64 q → IsLeastIndex p from end (lesser r (option_map (λ s. block * 64 + s) q))
    found_lesser from end None None up fits none bare = λ k low high.
        neither k (λ same. bare (k % 64) (omega (arith, same, low)) (omega arith)) (λ other. none k low high)
    found_lesser from end None (Some s) up fits none found = (
      omega (arith, found.0, up),
      omega (arith, found.1, fits),
      slot_of s found.1 ∙ found.2,
      λ k low high.
          neither k (λ same. found.3 (k % 64) (omega (arith, same, low)) (omega (arith, same, high))) (λ other. none k low (omega (arith, high, found.1, fits))),
    )
    found_lesser from end (Some a) None up fits found bare = (
      found.0,
      found.1,
      tree_of a found.2,
      λ k low high.
          neither k (λ same. bare (k % 64) (omega (arith, same, low)) (omega arith)) (λ other. found.3 k low high),
    )
    found_lesser from end (Some a) (Some s) up fits found own_found =
        elim (cases_lt a (block * 64 + s)) [
          | inl first ↦
              (let e : min a (block * 64 + s) ≡ a = omega (arith, first) in
              rw e (
                found.0,
                found.1,
                tree_of a found.2,
                λ k low high.
                    neither k (λ same. own_found.3 (k % 64) (omega (arith, same, low)) (omega (arith, same, high, first))) (λ other. found.3 k low high),
              ))
          | inr later ↦
              (let e : min a (block * 64 + s) ≡ block * 64 + s = omega (arith, later) in
              rw e (
                omega (arith, own_found.0, up),
                omega (arith, own_found.1, fits),
                slot_of s own_found.1 ∙ own_found.2,
                λ k low high.
                    neither k (λ same. own_found.3 (k % 64) (omega (arith, same, low)) (omega (arith, same, high))) (λ other. found.3 k low (omega (arith, high, later))),
              ))
        ]
