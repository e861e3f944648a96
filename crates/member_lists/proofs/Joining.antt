-- The list of one owner comes before that of another.
use Rattle.std.proofs.Common.{◌≡◌, ◌≢◌, ◌⊎◌, inl, inr, ℕ, ◌+◌, ◌<◌, ◌==◌, List, length, map, set, if◌then◌else◌, option_map, refl, sym, ap, ◌∙◌, arith}
use Rattle.std.proofs.lemmas.Bool.{cases_eq, eq-eqb, ne_eqb}
use Rattle.std.proofs.lemmas.List.{get_or_past, get_or-set_same, get_or-set_other, length-set}
use Rattle.member_lists.proofs.Owners.{handed-from, handed-other}
use Rattle.member_lists.specs.declared.Link.{Link}
use Rattle.member_lists.specs.Owners.{owner_of, handed}
use Rattle.member_lists.specs.Links.{nil, lone, link_at, head_at, owner_in, AreTold, IsLinked}
use Rattle.member_lists.proofs.Linked.{within, owner_of-links, link_some, link_none}

-- what joining the two lists makes of the links
pub record Joined (hs hs' : List ℕ) (ls ls' : List Link) (from to last : ℕ) : Type 0 where
  pub own_from : (k : ℕ) → (link_at ls k).owner ≡ from → (link_at ls' k).owner ≡ to
  pub own_other : (k : ℕ) → (link_at ls k).owner ≢ from → (link_at ls' k).owner ≡ (link_at ls k).owner
  pub next : (k : ℕ) → k ≢ last → (link_at ls' k).next ≡ (link_at ls k).next
  pub next_last : (link_at ls' last).next ≡ head_at hs to
  pub prev : (k : ℕ) → (head_at hs to ≢ nil → k ≢ head_at hs to) → (link_at ls' k).prev ≡ (link_at ls k).prev
  pub prev_behind : head_at hs to ≢ nil → (link_at ls' (head_at hs to)).prev ≡ last
  pub head_to : head_at hs' to ≡ head_at hs from
  pub head_from : head_at hs' from ≡ nil
  pub heads : (g : ℕ) → g ≢ from → g ≢ to → head_at hs' g ≡ head_at hs g
  pub len : length ls' ≡ length ls
  pub owners : length hs' ≡ length hs

module _ (hs hs' : List ℕ) (ls ls' : List Link) (from to last : ℕ) (w : IsLinked hs ls) (differ : from ≢ to) (room_from : from < length hs) (room_to : to < length hs)
    (some : head_at hs from ≢ nil) (is_last : ((link_at ls last).owner ≡ from) × ((link_at ls last).next ≡ nil)) (a : Joined hs hs' ls ls' from to last) where
  from_some : from ≢ nil
  from_some = omega (arith, room_from, w.few, w.rooms)

  to_some : to ≢ nil
  to_some = omega (arith, room_to, w.few, w.rooms)

  abbrev behind : ℕ
  behind = head_at hs to

  own : (k : ℕ) → (link_at ls' k).owner ≡ handed from to (link_at ls k).owner
  own k = elim (cases_eq (link_at ls k).owner from) [
    | inl mine ↦ a.own_from k mine ∙ sym (ap (handed from to) mine ∙ handed-from from to)
    | inr other ↦ a.own_other k other ∙ sym (handed-other from to (link_at ls k).owner other)
  ]

  same_owner : (j k : ℕ) → (link_at ls j).owner ≡ (link_at ls k).owner → (link_at ls' j).owner ≡ (link_at ls' k).owner
  same_owner j k e = own j ∙ ap (handed from to) e ∙ sym (own k)

  was : (k : ℕ) → (link_at ls' k).owner ≢ nil → (link_at ls k).owner ≢ nil
  was k owned z = owned (own k ∙ ap (handed from to) z ∙ handed-other from to nil (λ e. from_some (sym e)))

  fits : (k : ℕ) → (link_at ls k).owner ≢ nil → k ≢ nil
  fits k owned z = let lt = within ls k owned in omega (arith, lt, z, w.few)

  last_owned : (link_at ls last).owner ≢ nil
  last_owned z = from_some (sym is_last.0 ∙ z)

  behind_is : behind ≢ nil → ((link_at ls behind).owner ≡ to) × ((link_at ls behind).prev ≡ nil)
  behind_is more = w.head to more

  behind_not_from : behind ≢ nil → (link_at ls behind).owner ≢ from
  behind_not_from more e = differ (sym e ∙ (behind_is more).0)

  behind_owner : behind ≢ nil → (link_at ls' behind).owner ≡ to
  behind_owner more = a.own_other behind (behind_not_from more) ∙ (behind_is more).0

  -- the other's keys come behind the last of the one's
  rank' : ℕ → ℕ
  rank' k = if (link_at ls k).owner == to then w.rank k + (w.rank last + 1) else w.rank k

  rank_to : (k : ℕ) → (link_at ls k).owner ≡ to → rank' k ≡ w.rank k + (w.rank last + 1)
  unfolding rank'
  rank_to k yours = rw (eq-eqb (link_at ls k).owner to yours) refl

  rank_other : (k : ℕ) → (link_at ls k).owner ≢ to → rank' k ≡ w.rank k
  unfolding rank'
  rank_other k other = rw (ne_eqb (link_at ls k).owner to other) refl

  rank_rises : (j k : ℕ) → (link_at ls j).owner ≡ (link_at ls k).owner → w.rank j < w.rank k → rank' j < rank' k
  rank_rises j k same less = elim (cases_eq (link_at ls k).owner to) [
    | inl yours ↦ let e = rank_to j (same ∙ yours) in let f = rank_to k yours in omega (arith, e, f, less)
    | inr other ↦ let e = rank_other j (λ z. other (sym same ∙ z)) in let f = rank_other k other in omega (arith, e, f, less)
  ]

  rank_joint : behind ≢ nil → rank' last < rank' behind
  rank_joint more = grind (arith, rank_other, rank_to, behind_is)

  known_ok : (k : ℕ) → (link_at ls' k).owner ≢ nil → (link_at ls' k).owner < length hs'
  known_ok k owned = elim (cases_eq (link_at ls k).owner from) [
    | inl mine ↦ let e = a.own_from k mine in omega (arith, e, a.owners, room_to)
    | inr other ↦ let e = a.own_other k other in let lt = w.known k (was k owned) in omega (arith, e, a.owners, lt)
  ]

  next_ok : (k : ℕ) → (link_at ls' k).owner ≢ nil → (link_at ls' k).next ≢ nil
      → ((link_at ls' (link_at ls' k).next).owner ≡ (link_at ls' k).owner) × ((link_at ls' (link_at ls' k).next).prev ≡ k)
  next_ok k owned more = elim (cases_eq k last) [
    | inl same ↦
        let n : (link_at ls' k).next ≡ behind = ap (λ i. (link_at ls' i).next) same ∙ a.next_last in
        let there : behind ≢ nil = λ z. more (n ∙ z) in
        rw n (behind_owner there ∙ sym (a.own_from k (ap (λ i. (link_at ls i).owner) same ∙ is_last.0)), a.prev_behind there ∙ sym same)
    | inr differs ↦
        let n = a.next k differs in
        let o = w.next k (was k owned) (λ z. more (n ∙ z)) in
        let apart : behind ≢ nil → (link_at ls k).next ≢ behind = λ there e. fits k (was k owned) (sym o.1 ∙ ap (λ i. (link_at ls i).prev) e ∙ (behind_is there).1) in
        rw n (same_owner (link_at ls k).next k o.0, a.prev (link_at ls k).next apart ∙ o.1)
  ]

  prev_ok : (k : ℕ) → (link_at ls' k).owner ≢ nil → (link_at ls' k).prev ≢ nil
      → ((link_at ls' (link_at ls' k).prev).owner ≡ (link_at ls' k).owner) × ((link_at ls' (link_at ls' k).prev).next ≡ k) × (rank' (link_at ls' k).prev < rank' k)
  prev_ok k owned more = go (cases_eq behind nil) (cases_eq k behind)
    where
      kept : (behind ≢ nil → k ≢ behind)
          → ((link_at ls' (link_at ls' k).prev).owner ≡ (link_at ls' k).owner) × ((link_at ls' (link_at ls' k).prev).next ≡ k) × (rank' (link_at ls' k).prev < rank' k)
      kept apart =
          let p = a.prev k apart in
          let o = w.prev k (was k owned) (λ z. more (p ∙ z)) in
          let not_last : (link_at ls k).prev ≢ last = λ e. fits k (was k owned) (sym o.1 ∙ ap (λ i. (link_at ls i).next) e ∙ is_last.1) in
          rw p (same_owner (link_at ls k).prev k o.0, a.next (link_at ls k).prev not_last ∙ o.1, rank_rises (link_at ls k).prev k o.0 o.2)

      go : (behind ≡ nil) ⊎ (behind ≢ nil) → (k ≡ behind) ⊎ (k ≢ behind)
          → ((link_at ls' (link_at ls' k).prev).owner ≡ (link_at ls' k).owner) × ((link_at ls' (link_at ls' k).prev).next ≡ k) × (rank' (link_at ls' k).prev < rank' k)
      go (inl none) _ = kept (λ there. absurd (there none))
      go (inr there) (inr differs) = kept (λ _. differs)
      go (inr there) (inl same) =
          let p : (link_at ls' k).prev ≡ last = ap (λ i. (link_at ls' i).prev) same ∙ a.prev_behind there in
          let joint : rank' last < rank' k = rw same (rank_joint there) in
          rw p (a.own_from last is_last.0 ∙ sym (ap (λ i. (link_at ls' i).owner) same ∙ behind_owner there), a.next_last ∙ sym same, joint)

  first_ok : (k : ℕ) → (link_at ls' k).owner ≢ nil → (link_at ls' k).prev ≡ nil → head_at hs' (link_at ls' k).owner ≡ k
  first_ok k owned none =
      let apart : behind ≢ nil → k ≢ behind = λ there e. fits last last_owned (sym (a.prev_behind there) ∙ ap (λ i. (link_at ls' i).prev) (sym e) ∙ none) in
      let old = w.first k (was k owned) (sym (a.prev k apart) ∙ none) in
      elim (cases_eq (link_at ls k).owner from) [
        | inl mine ↦ ap (head_at hs') (a.own_from k mine) ∙ a.head_to ∙ ap (head_at hs) (sym mine) ∙ old
        | inr other ↦ elim (cases_eq (link_at ls k).owner to) [
          | inl yours ↦
              let e : behind ≡ k = ap (head_at hs) (sym yours) ∙ old in
              absurd (apart (λ z. fits k (was k owned) (sym e ∙ z)) (sym e))
          | inr others ↦ ap (head_at hs') (a.own_other k other) ∙ a.heads (link_at ls k).owner other others ∙ old
        ]
      ]

  head_ok : (g : ℕ) → head_at hs' g ≢ nil → ((link_at ls' (head_at hs' g)).owner ≡ g) × ((link_at ls' (head_at hs' g)).prev ≡ nil)
  head_ok g there = elim (cases_eq g from) [
    | inl same ↦ absurd (there (ap (head_at hs') same ∙ a.head_from))
    | inr other ↦ elim (cases_eq g to) [
      | inl yours ↦
          let e : head_at hs' g ≡ head_at hs from = ap (head_at hs') yours ∙ a.head_to in
          let o = w.head from some in
          let apart : behind ≢ nil → head_at hs from ≢ behind = λ more z. behind_not_from more (ap (λ i. (link_at ls i).owner) (sym z) ∙ o.0) in
          rw e (a.own_from (head_at hs from) o.0 ∙ sym yours, a.prev (head_at hs from) apart ∙ o.1)
      | inr others ↦
          let e = a.heads g other others in
          let o = w.head g (λ z. there (e ∙ z)) in
          let apart : behind ≢ nil → head_at hs g ≢ behind = λ more z. others (sym o.0 ∙ ap (λ i. (link_at ls i).owner) z ∙ (behind_is more).0) in
          rw e (a.own_other (head_at hs g) (λ z. other (sym o.0 ∙ z)) ∙ o.0, a.prev (head_at hs g) apart ∙ o.1)
    ]
  ]

  pub IsLinked-joined : IsLinked hs' ls'
  IsLinked-joined = record {
    rank = rank';
    few = omega (arith, a.len, w.few);
    rooms = omega (arith, a.owners, a.len, w.rooms);
    known = known_ok;
    next = next_ok;
    prev = prev_ok;
    first = first_ok;
    head = head_ok;
  }

  pub owner-joined : (k : ℕ) → owner_of (map owner_in ls') k ≡ option_map (handed from to) (owner_of (map owner_in ls) k)
  owner-joined k = owner_of-links ls' k ∙ go (cases_eq (link_at ls k).owner nil) ∙ sym (ap (option_map (handed from to)) (owner_of-links ls k))
    where
      still : ((link_at ls k).owner ≡ from) ⊎ ((link_at ls k).owner ≢ from) → (link_at ls k).owner ≢ nil → handed from to (link_at ls k).owner ≡ nil → ⊥
      still (inl mine) owned z = to_some (sym (ap (handed from to) mine ∙ handed-from from to) ∙ z)
      still (inr other) owned z = owned (sym (handed-other from to (link_at ls k).owner other) ∙ z)

      go : ((link_at ls k).owner ≡ nil) ⊎ ((link_at ls k).owner ≢ nil) → owner_in (link_at ls' k) ≡ option_map (handed from to) (owner_in (link_at ls k))
      go (inl none) =
          link_none (link_at ls' k) (a.own_other k (λ e. from_some (sym e ∙ none)) ∙ none) ∙ sym (ap (option_map (handed from to)) (link_none (link_at ls k) none))
      go (inr owned) =
          link_some (link_at ls' k) (handed from to (link_at ls k).owner) (own k) (still (cases_eq (link_at ls k).owner from) owned)
          ∙ sym (ap (option_map (handed from to)) (link_some (link_at ls k) (link_at ls k).owner refl owned))

-- where the one owner has no members, nothing is to be done
pub none_handed : (ls : List Link) (from to : ℕ) → ((k : ℕ) → (link_at ls k).owner ≡ from → ⊥) → (k : ℕ) → owner_of (map owner_in ls) k ≡ option_map (handed from to) (owner_of (map owner_in ls) k)
none_handed ls from to none k = grind (arith, owner_of-links, cases_eq, link_none, link_some, handed-other)

-- the last member is within what is written
pub last_within : (hs : List ℕ) (ls told mid : List Link) (from to last : ℕ) → IsLinked hs ls → from < length hs → (link_at ls last).owner ≡ from → AreTold ls told from to → length mid ≡ length told → last < length mid
last_within hs ls told mid from to last w room mine t len = grind (arith, within)

-- what the code of `move_list` writes
module _ (hs : List ℕ) (ls told mid : List Link) (from to last b f : ℕ) (z : Link) (w : IsLinked hs ls) (differ : from ≢ to) (room_from : from < length hs) (room_to : to < length hs)
    (is_last : ((link_at ls last).owner ≡ from) × ((link_at ls last).next ≡ nil)) (t : AreTold ls told from to) (was_f : head_at hs from ≡ f) (was_b : head_at hs to ≡ b)
    (here : b ≢ nil → link_at mid b ≡ record (link_at told b) { prev = last }) (others : (j : ℕ) → j ≢ b → link_at mid j ≡ link_at told j) (len : length mid ≡ length told)
    (read : z ≡ link_at mid last) where
  abbrev x : Link
  x = record { owner = z.owner; next = b; prev = z.prev }

  last_mid : last < length mid
  last_mid = last_within hs ls told mid from to last w room_from is_last.0 t len

  told_owner : (k : ℕ) → ((link_at ls k).owner ≡ from → (link_at told k).owner ≡ to) × ((link_at ls k).owner ≢ from → (link_at told k).owner ≡ (link_at ls k).owner)
  told_owner k = (λ mine. ap (λ (y : Link). y.owner) (t.here k mine), λ other. ap (λ (y : Link). y.owner) (t.others k other))

  told_rest : (k : ℕ) → ((link_at told k).next ≡ (link_at ls k).next) × ((link_at told k).prev ≡ (link_at ls k).prev)
  told_rest k = elim (cases_eq (link_at ls k).owner from) [
    | inl mine ↦ (ap (λ (y : Link). y.next) (t.here k mine), ap (λ (y : Link). y.prev) (t.here k mine))
    | inr other ↦ (ap (λ (y : Link). y.next) (t.others k other), ap (λ (y : Link). y.prev) (t.others k other))
  ]

  -- past the end nothing is written
  mid_nil : b ≡ nil → link_at mid b ≡ link_at told b
  mid_nil none = grind (arith, get_or_past)

  mid_owner : (k : ℕ) → ((link_at mid k).owner ≡ (link_at told k).owner) × ((link_at mid k).next ≡ (link_at told k).next)
  mid_owner k = elim (cases_eq k b) [
    | inl same ↦ elim (cases_eq b nil) [
      | inl none ↦ rw (same, mid_nil none) (refl, refl)
      | inr there ↦ rw (same, here there) (refl, refl)
    ]
    | inr differs ↦ rw (others k differs) (refl, refl)
  ]

  mid_prev : (k : ℕ) → (b ≢ nil → k ≢ b) → (link_at mid k).prev ≡ (link_at told k).prev
  mid_prev k apart = elim (cases_eq k b) [
    | inl same ↦ elim (cases_eq b nil) [
      | inl none ↦ ap (λ i. (link_at mid i).prev) same ∙ ap (λ (y : Link). y.prev) (mid_nil none) ∙ ap (λ i. (link_at told i).prev) (sym same)
      | inr there ↦ absurd (apart there same)
    ]
    | inr differs ↦ ap (λ (y : Link). y.prev) (others k differs)
  ]

  at_last : link_at (set mid last x) last ≡ x
  at_last = get_or-set_same mid last x lone last_mid

  at_other : (k : ℕ) → k ≢ last → link_at (set mid last x) k ≡ link_at mid k
  at_other k differs = get_or-set_other mid last k x lone differs

  -- what is written last changes who is next alone
  end_owner : (k : ℕ) → ((link_at (set mid last x) k).owner ≡ (link_at mid k).owner) × ((link_at (set mid last x) k).prev ≡ (link_at mid k).prev)
  end_owner k = elim (cases_eq k last) [
    | inl same ↦ rw (same, at_last) (ap (λ (y : Link). y.owner) read, ap (λ (y : Link). y.prev) read)
    | inr differs ↦ rw (at_other k differs) (refl, refl)
  ]

  pub Joined-set : Joined hs (set (set hs to f) from nil) ls (set mid last x) from to last
  Joined-set = record {
    own_from = λ k mine. (end_owner k).0 ∙ (mid_owner k).0 ∙ (told_owner k).0 mine;
    own_other = λ k other. (end_owner k).0 ∙ (mid_owner k).0 ∙ (told_owner k).1 other;
    next = λ k differs. ap (λ (y : Link). y.next) (at_other k differs) ∙ (mid_owner k).1 ∙ (told_rest k).0;
    next_last = ap (λ (y : Link). y.next) at_last ∙ sym was_b;
    prev = λ k apart. (end_owner k).1 ∙ mid_prev k (λ there e. apart (λ n. there (sym was_b ∙ n)) (e ∙ sym was_b)) ∙ (told_rest k).1;
    prev_behind = grind (arith, end_owner);
    head_to = get_or-set_other (set hs to f) from to nil nil (λ e. differ (sym e)) ∙ get_or-set_same hs to f nil room_to ∙ sym was_f;
    head_from = get_or-set_same (set hs to f) from nil nil (let l = length-set hs to f in omega (arith, l, room_from));
    heads = λ g other others. get_or-set_other (set hs to f) from g nil nil other ∙ get_or-set_other hs to g f nil others;
    len = length-set mid last x ∙ len ∙ t.len;
    owners = length-set (set hs to f) from nil ∙ length-set hs to f;
  }
