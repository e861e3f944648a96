-- The links of lists in which each key stands at most once.
use Rattle.std.specs.Prelude.{◌≡◌, ◌≢◌, ℕ, ◌<◌, ◌≤◌, ◌==◌, List, [], ◌∷◌, length, zero, suc, Option, Some, None, if◌then◌else◌, slice_index_or}
use Rattle.member_lists.specs.declared.Link.{Link}

-- no key and no owner
abbrev pub nil : ℕ
nil = 4294967295

-- a key in no list
abbrev pub lone : Link
lone = record { owner = 4294967295; next = 4294967295; prev = 4294967295 }

-- the link of a key
abbrev pub link_at : List Link → ℕ → Link
link_at links k = slice_index_or links k lone

-- the first member of an owner
abbrev pub head_at : List ℕ → ℕ → ℕ
head_at heads h = slice_index_or heads h 4294967295

-- the owner that a link tells
abbrev pub owner_in : Link → Option ℕ
owner_in link = if link.owner == 4294967295 then None else Some link.owner

-- each owner's members are a list from its head on. The rank rises along each list
pub record IsLinked (heads : List ℕ) (links : List Link) : Type 0 where
  pub rank : ℕ → ℕ
  pub few : length links ≤ nil
  pub rooms : length heads ≡ length links
  pub known : (k : ℕ) → (link_at links k).owner ≢ nil → (link_at links k).owner < length heads
  pub next : (k : ℕ) → (link_at links k).owner ≢ nil → (link_at links k).next ≢ nil
      → ((link_at links (link_at links k).next).owner ≡ (link_at links k).owner) × ((link_at links (link_at links k).next).prev ≡ k)
  pub prev : (k : ℕ) → (link_at links k).owner ≢ nil → (link_at links k).prev ≢ nil
      → ((link_at links (link_at links k).prev).owner ≡ (link_at links k).owner) × ((link_at links (link_at links k).prev).next ≡ k)
      × (rank (link_at links k).prev < rank k)
  pub first : (k : ℕ) → (link_at links k).owner ≢ nil → (link_at links k).prev ≡ nil → head_at heads (link_at links k).owner ≡ k
  pub head : (h : ℕ) → head_at heads h ≢ nil
      → ((link_at links (head_at heads h)).owner ≡ h) × ((link_at links (head_at heads h)).prev ≡ nil)

-- the keys from one on, as far as a number of them
abbrev pub chain : List Link → ℕ → ℕ → List ℕ
chain links k zero = []
chain links k (suc n) = if k == 4294967295 then [] else k ∷ chain links (link_at links k).next n

-- from a key on there are no more keys than that
abbrev pub ReachesNil : List Link → ℕ → ℕ → Type 0
ReachesNil links k zero = k ≡ nil
ReachesNil links k (suc n) = k ≢ nil → (k < length links) × ReachesNil links (link_at links k).next n

-- the members of one owner are told another, and nothing else changes
pub record AreTold (links links' : List Link) (from to : ℕ) : Type 0 where
  pub here : (k : ℕ) → (link_at links k).owner ≡ from → link_at links' k ≡ record (link_at links k) { owner = to }
  pub others : (k : ℕ) → (link_at links k).owner ≢ from → link_at links' k ≡ link_at links k
  pub len : length links' ≡ length links
