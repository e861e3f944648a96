-- Adding a key to a list and taking one out keep the links sound.
use Rattle.std.proofs.Common.{◌≡◌, ◌≢◌, inl, inr, ℕ, zero, suc, ◌+◌, ◌<◌, ◌≤◌, List, [], ◌++◌, length, map, replicate, set, if◌then◌else◌, nat_eq, Some, None, refl, sym, ap, ◌∙◌, arith, slice_index_or}
use Rattle.std.proofs.lemmas.Bool.{cases_eq}
use Rattle.std.proofs.lemmas.List.{get_or_past, get_or_default, get_or-set_same, get_or-set_other, length-set, length-append, length-replicate, length-map}
use Rattle.member_lists.specs.declared.Link.{Link}
use Rattle.member_lists.specs.Owners.{owner_of}
use Rattle.member_lists.specs.Links.{nil, lone, link_at, head_at, owner_in, IsLinked}
use Rattle.member_lists.proofs.Rooms.{get_or-append-replicate}
use Rattle.std.proofs.Math.ListN.{get_or-map}

-- a key with an owner has a link
pub within : (links : List Link) (k : ℕ) → (link_at links k).owner ≢ nil → k < length links
within links k owned = grind (arith, get_or_past links k lone)

-- what adding a key k to the owner h, before its first member f, makes of the links
pub record Added (hs hs' : List ℕ) (ls ls' : List Link) (k h f : ℕ) : Type 0 where
  pub free : (link_at ls k).owner ≡ nil
  pub owner : h < length hs
  pub key : k < length ls
  pub was : head_at hs h ≡ f
  pub here : link_at ls' k ≡ record { owner = h; next = f; prev = nil }
  pub behind : f ≢ nil → link_at ls' f ≡ record (link_at ls f) { prev = k }
  pub others : (j : ℕ) → j ≢ k → j ≢ f → link_at ls' j ≡ link_at ls j
  pub head : head_at hs' h ≡ k
  pub heads : (g : ℕ) → g ≢ h → head_at hs' g ≡ head_at hs g
  pub len : length ls' ≡ length ls
  pub owners : length hs' ≡ length hs

-- a key's link afterwards, by who the key is
data Who (ls ls' : List Link) (k h f j : ℕ) : Type 0 where
  added : j ≡ k → link_at ls' j ≡ record { owner = h; next = f; prev = nil } → Who ls ls' k h f j
  behind : j ≡ f → f ≢ nil → j ≢ k → (link_at ls j).owner ≡ h → (link_at ls j).prev ≡ nil → link_at ls' j ≡ record (link_at ls j) { prev = k } → Who ls ls' k h f j
  other : (f ≢ nil → j ≢ f) → j ≢ k → link_at ls' j ≡ link_at ls j → Who ls ls' k h f j

-- past the end nothing changes
past_end : (ls ls' : List Link) → length ls' ≡ length ls → length ls ≤ nil → link_at ls' nil ≡ link_at ls nil
past_end ls ls' len few = get_or_past ls' nil lone (omega arith) ∙ sym (get_or_past ls nil lone few)

module _ (hs hs' : List ℕ) (ls ls' : List Link) (k h f : ℕ) (w : IsLinked hs ls) (a : Added hs hs' ls ls' k h f) where
  h_ok : h ≢ nil
  h_ok = omega (arith, a.owner, w.few, w.rooms)

  first_owner : f ≢ nil → (link_at ls f).owner ≡ h
  first_owner some = let e = a.was in rw e at ((w.head h (λ z. some (sym e ∙ z))).0)

  first_prev : f ≢ nil → (link_at ls f).prev ≡ nil
  first_prev some = let e = a.was in rw e at ((w.head h (λ z. some (sym e ∙ z))).1)

  -- a key that had an owner is not k
  not_k : (j : ℕ) → (link_at ls j).owner ≢ nil → j ≢ k
  not_k j owned same = owned (ap (λ x. (link_at ls x).owner) same ∙ a.free)

  who : (j : ℕ) → Who ls ls' k h f j
  who j =
      elim (cases_eq j k) [
        | inl same ↦ added same (ap (link_at ls') same ∙ a.here)
        | inr differs ↦ elim (cases_eq j f) [
          | inl first ↦ grind (arith, cases_eq, past_end, first_owner, first_prev)
          | inr later ↦ other (λ _. later) differs (a.others j differs later)
        ]
      ]

  -- a key that had an owner and one before it is where it was
  inner : (j : ℕ) → (link_at ls j).owner ≢ nil → (link_at ls j).prev ≢ nil → link_at ls' j ≡ link_at ls j
  inner j owned some = grind (arith, cases_eq, past_end, first_prev, not_k)

  abbrev NextOk : ℕ → Type 0
  NextOk j = ((link_at ls' (link_at ls' j).next).owner ≡ (link_at ls' j).owner) × ((link_at ls' (link_at ls' j).next).prev ≡ j)

  -- the one behind a key that was there already
  next_old : (j : ℕ) → (link_at ls j).owner ≢ nil → (link_at ls j).next ≢ nil → j ≢ nil
      → ((link_at ls' (link_at ls j).next).owner ≡ (link_at ls j).owner) × ((link_at ls' (link_at ls j).next).prev ≡ j)
  next_old j owned more fits = grind (arith, inner)

  fits : (j : ℕ) → (link_at ls j).owner ≢ nil → j ≢ nil
  fits j owned = let lt = within ls j owned in omega (arith, lt, w.few)

  next_ok : (j : ℕ) → Who ls ls' k h f j → (link_at ls' j).owner ≢ nil → (link_at ls' j).next ≢ nil → NextOk j
  next_ok j (added same is) owned more = grind (arith, first_owner)
  next_ok j (behind first some differs owner none is) owned more = grind (arith, next_old, h_ok, fits)
  next_ok j (other later differs is) owned more = grind (arith, next_old, fits)

  rank' : ℕ → ℕ
  rank' j = if nat_eq j k then 0 else w.rank j + 1

  rank_k : rank' k ≡ 0
  unfolding rank'
  rank_k = grind arith

  rank_other : (j : ℕ) → j ≢ k → rank' j ≡ w.rank j + 1
  unfolding rank'
  rank_other j differs = grind arith

  abbrev PrevOk : ℕ → Type 0
  PrevOk j = ((link_at ls' (link_at ls' j).prev).owner ≡ (link_at ls' j).owner) × ((link_at ls' (link_at ls' j).prev).next ≡ j) × (rank' (link_at ls' j).prev < rank' j)

  prev_ok : (j : ℕ) → Who ls ls' k h f j → (link_at ls' j).owner ≢ nil → (link_at ls' j).prev ≢ nil → PrevOk j
  prev_ok j given owned more = grind (arith, rank_k, rank_other, who, not_k)

  known_ok : (j : ℕ) → Who ls ls' k h f j → (link_at ls' j).owner ≢ nil → (link_at ls' j).owner < length hs'
  known_ok j given owned = grind arith

  first_ok : (j : ℕ) → Who ls ls' k h f j → (link_at ls' j).owner ≢ nil → (link_at ls' j).prev ≡ nil → head_at hs' (link_at ls' j).owner ≡ j
  first_ok j given owned none = grind (arith, cases_eq, fits)

  head_ok : (g : ℕ) → head_at hs' g ≢ nil → ((link_at ls' (head_at hs' g)).owner ≡ g) × ((link_at ls' (head_at hs' g)).prev ≡ nil)
  head_ok g some = grind (arith, cases_eq, get_or_past, who, not_k)

  pub IsLinked-added : IsLinked hs' ls'
  IsLinked-added = record {
    rank = rank';
    few = omega (arith, a.len, w.few);
    rooms = omega (arith, a.owners, a.len, w.rooms);
    known = λ j owned. known_ok j (who j) owned;
    next = λ j owned more. next_ok j (who j) owned more;
    prev = λ j owned more. prev_ok j (who j) owned more;
    first = λ j owned none. first_ok j (who j) owned none;
    head = head_ok;
  }

-- the owner of a key, by its link
pub owner_of-links : (links : List Link) (k : ℕ) → owner_of (map owner_in links) k ≡ owner_in (link_at links k)
owner_of-links links k = get_or-map owner_in links k lone

-- a key with no owner, by its link
pub free_link : (links : List Link) (k : ℕ) → owner_of (map owner_in links) k ≡ None → (link_at links k).owner ≡ nil
free_link links k free = grind (arith, owner_of-links)

-- the head that was read
pub head_is : (hs : List ℕ) (h f : ℕ) → h < length hs → f ≡ slice_index_or hs h f → head_at hs h ≡ f
head_is hs h f lt e = get_or_default hs h nil f lt ∙ sym e

pub head_within : (hs : List ℕ) (ls : List Link) → IsLinked hs ls → (h f : ℕ) → head_at hs h ≡ f → f ≢ nil → f < length ls
head_within hs ls w h f e some = grind (arith, within, get_or_past)

-- what a key's own link says does not matter where it has no owner
pub IsLinked-free : (hs : List ℕ) (ls ls' : List Link) (k : ℕ) → IsLinked hs ls → (link_at ls k).owner ≡ nil → (link_at ls' k).owner ≡ nil
    → ((j : ℕ) → j ≢ k → link_at ls' j ≡ link_at ls j) → length ls' ≡ length ls → IsLinked hs ls'
IsLinked-free hs ls ls' k w free free' others len = record {
  rank = w.rank;
  few = omega (arith, len, w.few);
  rooms = omega (arith, len, w.rooms);
  known = λ j owned. rw (same j owned) (w.known j (was j owned));
  next = λ j owned. rw (same j owned) (λ more. let t = w.next j (was j owned) more in rw (others _ (not_k _ (λ z. was j owned (sym t.0 ∙ z)))) t);
  prev = λ j owned. rw (same j owned) (λ more. let t = w.prev j (was j owned) more in rw (others _ (not_k _ (λ z. was j owned (sym t.0 ∙ z)))) t);
  first = λ j owned. rw (same j owned) (w.first j (was j owned));
  head = λ h some. let t = w.head h some in rw (others _ (not_k _ (λ z. within_h h some (sym t.0 ∙ z)))) t;
}
  where
    not_k : (j : ℕ) → (link_at ls j).owner ≢ nil → j ≢ k
    not_k j owned same = owned (ap (λ x. (link_at ls x).owner) same ∙ free)

    same : (j : ℕ) → (link_at ls' j).owner ≢ nil → link_at ls' j ≡ link_at ls j
    same j owned = others j (λ z. owned (ap (λ x. (link_at ls' x).owner) z ∙ free'))

    was : (j : ℕ) → (link_at ls' j).owner ≢ nil → (link_at ls j).owner ≢ nil
    was j owned z = owned (ap (λ x. x.owner) (others j (λ y. owned (ap (λ x. (link_at ls' x).owner) y ∙ free'))) ∙ z)

    within_h : (h : ℕ) → head_at hs h ≢ nil → h ≢ nil
    within_h h some z = some (get_or_past hs h nil (omega (arith, z, w.few, w.rooms)))

-- what the code of `put_first` writes. Before it the key is in no list
pub Added-set : (hs : List ℕ) (ls mid : List Link) (k h f : ℕ) → IsLinked hs (set ls k lone) → h < length hs → k < length ls
    → head_at hs h ≡ f → (f ≢ nil → link_at mid f ≡ record (link_at ls f) { prev = k }) → ((j : ℕ) → j ≢ f → link_at mid j ≡ link_at ls j)
    → length mid ≡ length ls → Added hs (set hs h k) (set ls k lone) (set mid k (record { owner = h; next = f; prev = nil })) k h f
Added-set hs ls mid k h f w owner key was next_of others len = grind (arith, length-set, get_or-set_same, get_or-set_other)

-- what taking a key k from its owner makes of the links
pub record Removed (hs hs' : List ℕ) (ls ls' : List Link) (k : ℕ) : Type 0 where
  pub owned : (link_at ls k).owner ≢ nil
  pub here : (link_at ls' k).owner ≡ nil
  pub own : (j : ℕ) → j ≢ k → (link_at ls' j).owner ≡ (link_at ls j).owner
  pub next : (j : ℕ) → j ≢ k → j ≢ (link_at ls k).prev → (link_at ls' j).next ≡ (link_at ls j).next
  pub before : (link_at ls k).prev ≢ nil → (link_at ls' (link_at ls k).prev).next ≡ (link_at ls k).next
  pub prev : (j : ℕ) → j ≢ k → j ≢ (link_at ls k).next → (link_at ls' j).prev ≡ (link_at ls j).prev
  pub behind : (link_at ls k).next ≢ nil → (link_at ls' (link_at ls k).next).prev ≡ (link_at ls k).prev
  pub head : (link_at ls k).prev ≡ nil → head_at hs' (link_at ls k).owner ≡ (link_at ls k).next
  pub head_kept : (link_at ls k).prev ≢ nil → head_at hs' (link_at ls k).owner ≡ head_at hs (link_at ls k).owner
  pub heads : (g : ℕ) → g ≢ (link_at ls k).owner → head_at hs' g ≡ head_at hs g
  pub len : length ls' ≡ length ls
  pub owners : length hs' ≡ length hs

module _ (hs hs' : List ℕ) (ls ls' : List Link) (k : ℕ) (w : IsLinked hs ls) (a : Removed hs hs' ls ls' k) where
  abbrev o : ℕ
  o = (link_at ls k).owner

  abbrev n : ℕ
  n = (link_at ls k).next

  abbrev p : ℕ
  p = (link_at ls k).prev

  key_ok : k ≢ nil
  key_ok z = let lt = within ls k a.owned in omega (arith, lt, z, w.few)

  next_k : n ≢ nil → ((link_at ls n).owner ≡ o) × ((link_at ls n).prev ≡ k)
  next_k = w.next k a.owned

  prev_k : p ≢ nil → ((link_at ls p).owner ≡ o) × ((link_at ls p).next ≡ k) × (w.rank p < w.rank k)
  prev_k = w.prev k a.owned

  rank_n : n ≢ nil → w.rank k < w.rank n
  rank_n some = grind (arith, next_k, key_ok)

  n_not_k : n ≢ nil → n ≢ k
  n_not_k some z = let lt = rank_n some in let e = ap w.rank z in omega (arith, lt, e)

  p_not_k : p ≢ nil → p ≢ k
  p_not_k some z = let lt = (prev_k some).2 in let e = ap w.rank z in omega (arith, lt, e)

  not_gone : (j : ℕ) → (link_at ls' j).owner ≢ nil → j ≢ k
  not_gone j owned z = owned (ap (λ x. (link_at ls' x).owner) z ∙ a.here)

  was_owned : (j : ℕ) → (link_at ls' j).owner ≢ nil → (link_at ls j).owner ≢ nil
  was_owned j owned z = owned (a.own j (not_gone j owned) ∙ z)

  ok : (j : ℕ) → (link_at ls j).owner ≢ nil → j ≢ nil
  ok j owned z = let lt = within ls j owned in omega (arith, lt, z, w.few)

  known_left : (j : ℕ) → (link_at ls' j).owner ≢ nil → (link_at ls' j).owner < length hs'
  known_left j owned = grind (arith, was_owned, not_gone)

  next_left : (j : ℕ) → (link_at ls' j).owner ≢ nil → (link_at ls' j).next ≢ nil
      → ((link_at ls' (link_at ls' j).next).owner ≡ (link_at ls' j).owner) × ((link_at ls' (link_at ls' j).next).prev ≡ j)
  next_left j owned more = elim (cases_eq j p) [
    | inl at ↦ grind (arith, ok, was_owned, n_not_k, next_k, prev_k, not_gone)
    | inr differs ↦
        let e = a.next j (not_gone j owned) differs in
        let old = w.next j (was_owned j owned) (λ z. more (e ∙ z)) in
        let m = (link_at ls j).next in
        let m_not_k : m ≢ k = λ z. differs (sym old.1 ∙ ap (λ x. (link_at ls x).prev) z) in
        let m_not_n : m ≢ n = λ z. not_gone j owned (sym old.1 ∙ ap (λ x. (link_at ls x).prev) z ∙ (next_k (λ y. more (e ∙ z ∙ y))).1) in
        rw e (a.own m m_not_k ∙ old.0 ∙ sym (a.own j (not_gone j owned)), a.prev m m_not_k m_not_n ∙ old.1)
  ]

  prev_left : (j : ℕ) → (link_at ls' j).owner ≢ nil → (link_at ls' j).prev ≢ nil
      → ((link_at ls' (link_at ls' j).prev).owner ≡ (link_at ls' j).owner) × ((link_at ls' (link_at ls' j).prev).next ≡ j) × (w.rank (link_at ls' j).prev < w.rank j)
  prev_left j owned more = elim (cases_eq j n) [
    | inl at ↦ grind (arith, ok, was_owned, rank_n, prev_k, p_not_k, next_k, not_gone)
    | inr differs ↦
        let e = a.prev j (not_gone j owned) differs in
        let old = w.prev j (was_owned j owned) (λ z. more (e ∙ z)) in
        let m = (link_at ls j).prev in
        let m_not_k : m ≢ k = λ z. differs (sym old.1 ∙ ap (λ x. (link_at ls x).next) z) in
        let m_not_p : m ≢ p = λ z. not_gone j owned (sym old.1 ∙ ap (λ x. (link_at ls x).next) z ∙ (prev_k (λ y. more (e ∙ z ∙ y))).1) in
        rw e (a.own m m_not_k ∙ old.0 ∙ sym (a.own j (not_gone j owned)), a.next m m_not_k m_not_p ∙ old.1, old.2)
  ]

  first_left : (j : ℕ) → (link_at ls' j).owner ≢ nil → (link_at ls' j).prev ≡ nil → head_at hs' (link_at ls' j).owner ≡ j
  first_left j owned none = elim (cases_eq j n) [
    | inl at ↦ grind (arith, ok, was_owned, not_gone, next_k)
    | inr differs ↦ grind (arith, not_gone, was_owned, cases_eq)
  ]

  head_left : (g : ℕ) → head_at hs' g ≢ nil → ((link_at ls' (head_at hs' g)).owner ≡ g) × ((link_at ls' (head_at hs' g)).prev ≡ nil)
  head_left g some = elim (cases_eq g o) [
    | inr others ↦ grind (arith, key_ok, next_k)
    | inl mine ↦ elim (cases_eq p nil) [
      | inl without ↦ grind (arith, n_not_k, next_k)
      | inr there ↦
          let e : head_at hs' g ≡ head_at hs g = ap (head_at hs') mine ∙ a.head_kept there ∙ ap (head_at hs) (sym mine) in
          let old = w.head g (λ z. some (e ∙ z)) in
          let m = head_at hs g in
          let m_not_k : m ≢ k = λ z. there (sym (ap (λ x. (link_at ls x).prev) z) ∙ old.1) in
          let m_not_n : m ≢ n = λ z. key_ok (sym (next_k (λ y. some (e ∙ z ∙ y))).1 ∙ sym (ap (λ x. (link_at ls x).prev) z) ∙ old.1) in
          rw e (a.own m m_not_k ∙ old.0, a.prev m m_not_k m_not_n ∙ old.1)
    ]
  ]

  pub IsLinked-removed : IsLinked hs' ls'
  IsLinked-removed = record {
    rank = w.rank;
    few = omega (arith, a.len, w.few);
    rooms = omega (arith, a.owners, a.len, w.rooms);
    known = known_left;
    next = next_left;
    prev = prev_left;
    first = first_left;
    head = head_left;
  }

-- an owner without a first member has none
pub no_members : (hs : List ℕ) (ls : List Link) → IsLinked hs ls → (h : ℕ) → head_at hs h ≡ nil → (k : ℕ) → (link_at ls k).owner ≡ h → h ≢ nil → ⊥
no_members hs ls w h none k mine some = go (w.rank k + 1) k mine (omega arith)
  where
    go : (most k : ℕ) → (link_at ls k).owner ≡ h → w.rank k < most → ⊥
    go zero k mine below = omega (arith, below)
    go (suc most) k mine below =
        let owned : (link_at ls k).owner ≢ nil = λ z. some (sym mine ∙ z) in
        elim (cases_eq (link_at ls k).prev nil) [
          | inl first ↦ let lt = within ls k owned in let e : k ≡ nil = sym (w.first k owned first) ∙ ap (head_at hs) mine ∙ none in omega (arith, lt, e, w.few)
          | inr more ↦ let b = w.prev k owned more in go most (link_at ls k).prev (b.0 ∙ mine) (omega (arith, b.2, below))
        ]

-- what the code of `remove` writes
pub Removed-set : (hs hs' : List ℕ) (ls mid low : List Link) (k : ℕ) (l : Link) → IsLinked hs ls → k < length ls → l ≡ link_at ls k → l.owner ≢ nil
    → (l.next ≢ nil → link_at mid l.next ≡ record (link_at ls l.next) { prev = l.prev }) → ((j : ℕ) → j ≢ l.next → link_at mid j ≡ link_at ls j) → length mid ≡ length ls
    → (l.prev ≡ nil → head_at hs' l.owner ≡ l.next) → (l.prev ≢ nil → head_at hs' l.owner ≡ head_at hs l.owner) → ((g : ℕ) → g ≢ l.owner → head_at hs' g ≡ head_at hs g)
    → (l.prev ≢ nil → link_at low l.prev ≡ record (link_at mid l.prev) { next = l.next }) → ((j : ℕ) → j ≢ l.prev → link_at low j ≡ link_at mid j) → length low ≡ length mid
    → length hs' ≡ length hs → (last : Link) → last.owner ≡ nil
    → Removed hs hs' ls (set low k last) k
Removed-set hs hs' ls mid low k l w key is owned next-here next-others next-len head head_kept heads prev-here prev-others prev-len owners last none = record {
  owned = owned_k;
  here = rw (get_or-set_same low k last lone (omega (arith, key, next-len, prev-len))) none;
  own = λ j differs. ap (λ x. x.owner) (at_other j differs) ∙ (low_at j).0 ∙ (mid_at j).0;
  next = λ j differs later. ap (λ x. x.next) (at_other j differs ∙ prev-others j (λ z. later (z ∙ prev_is))) ∙ (mid_at j).1;
  before = λ some. ap (λ x. x.next) (at_other _ (p_not some)) ∙ sym (ap (λ x. (link_at low x).next) prev_is) ∙ ap (λ x. x.next) (prev-here (λ z. some (sym prev_is ∙ z))) ∙ next_is;
  prev = λ j differs later. ap (λ x. x.prev) (at_other j differs) ∙ (low_at j).1 ∙ ap (λ x. x.prev) (next-others j (λ z. later (z ∙ next_is)));
  behind = λ some. ap (λ x. x.prev) (at_other _ (n_not some)) ∙ (low_at _).1 ∙ sym (ap (λ x. (link_at mid x).prev) next_is) ∙ ap (λ x. x.prev) (next-here (λ z. some (sym next_is ∙ z))) ∙ prev_is;
  head = rw is at head;
  head_kept = rw is at head_kept;
  heads = rw is at heads;
  len = length-set low k last ∙ prev-len ∙ next-len;
  owners = owners;
}
  where
    next_is : l.next ≡ (link_at ls k).next
    next_is = ap (λ x. x.next) is

    prev_is : l.prev ≡ (link_at ls k).prev
    prev_is = ap (λ x. x.prev) is

    owned_k : (link_at ls k).owner ≢ nil
    owned_k z = owned (ap (λ x. x.owner) is ∙ z)

    at_other : (j : ℕ) → j ≢ k → link_at (set low k last) j ≡ link_at low j
    at_other j differs = get_or-set_other low k j last lone differs

    mid_at : (j : ℕ) → ((link_at mid j).owner ≡ (link_at ls j).owner) × ((link_at mid j).next ≡ (link_at ls j).next)
    mid_at j = elim (cases_eq j l.next) [
      | inr later ↦ (ap (λ x. x.owner) (next-others j later), ap (λ x. x.next) (next-others j later))
      | inl same ↦ elim (cases_eq l.next nil) [
        | inl past ↦ let e = past_end ls mid next-len w.few in rw (same, past, e) (refl, refl)
        | inr some ↦ rw (same, next-here some) (refl, refl)
      ]
    ]

    low_at : (j : ℕ) → ((link_at low j).owner ≡ (link_at mid j).owner) × ((link_at low j).prev ≡ (link_at mid j).prev)
    low_at j = elim (cases_eq j l.prev) [
      | inr later ↦ (ap (λ x. x.owner) (prev-others j later), ap (λ x. x.prev) (prev-others j later))
      | inl same ↦ grind (arith, same, cases_eq, past_end)
    ]

    p_not : (link_at ls k).prev ≢ nil → (link_at ls k).prev ≢ k
    p_not some z = let lt = (w.prev k owned_k some).2 in let e = ap w.rank z in omega (arith, lt, e)

    n_not : (link_at ls k).next ≢ nil → (link_at ls k).next ≢ k
    n_not some z = grind (arith, owned_k, within, p_not)

-- the link that was read
pub link_is : (ls : List Link) (k : ℕ) (l : Link) → k < length ls → l ≡ slice_index_or ls k l → l ≡ link_at ls k
link_is ls k l lt e = e ∙ get_or_default ls k l lone lt

-- an owner that a link tells, and back
pub some_link : (l : Link) (h : ℕ) → owner_in l ≡ Some h → (l.owner ≡ h) × (h ≢ nil)
some_link l h e = grind arith

pub link_some : (l : Link) (h : ℕ) → l.owner ≡ h → h ≢ nil → owner_in l ≡ Some h
link_some l h e some = grind arith

-- so many more keys and owners
pub IsLinked-grown : (hs : List ℕ) (ls : List Link) (n : ℕ) → IsLinked hs ls → length ls + n ≤ nil → IsLinked (hs ++ replicate n 4294967295) (ls ++ replicate n lone)
IsLinked-grown hs ls n w few = grind (arith, length-append, length-replicate, get_or-append-replicate)

pub IsLinked-none : IsLinked [] []
IsLinked-none = record {
  rank = λ _. 0;
  few = omega arith;
  rooms = refl;
  known = λ k owned. absurd (owned refl);
  next = λ k owned. absurd (owned refl);
  prev = λ k owned. absurd (owned refl);
  first = λ k owned. absurd (owned refl);
  head = λ h some. absurd (some refl);
}

pub link_none : (l : Link) → l.owner ≡ nil → owner_in l ≡ None
link_none l e = grind arith

-- keys whose owners are as before are as many
pub kept_key : (ls ls' : List Link) (k : ℕ) → map owner_in ls' ≡ map owner_in ls → k < length ls → k < length ls'
kept_key ls ls' k same key = let e : length (map owner_in ls') ≡ length (map owner_in ls) = ap length same in omega (arith, key, simp length-map at e)

-- whatever a key's own link says, where it tells no owner
pub IsLinked-unset : (hs : List ℕ) (ls : List Link) (k : ℕ) (l : Link) → k < length ls → IsLinked hs (set ls k lone) → l.owner ≡ nil → IsLinked hs (set ls k l)
IsLinked-unset hs ls k l key w none =
    IsLinked-free hs (set ls k lone) (set ls k l) k w (ap (λ (x : Link). x.owner) (get_or-set_same ls k lone lone key)) (ap (λ (x : Link). x.owner) (get_or-set_same ls k l lone key) ∙ none)
    (λ j differs. get_or-set_other ls k j l lone differs ∙ sym (get_or-set_other ls k j lone lone differs)) (length-set ls k l ∙ sym (length-set ls k lone))
