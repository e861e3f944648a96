-- The members of one owner are told another, one after the other.
use Rattle.std.proofs.Common.{◌≡◌, ◌≢◌, ◌⊎◌, inl, inr, ℕ, ◌<◌, List, length, map, set, Some, refl, ap, ◌∙◌, arith}
use Rattle.std.specs.List.{AllByRecursion}
use Rattle.std.proofs.lemmas.Bool.{cases_eq}
use Rattle.std.proofs.lemmas.List.{get_or-set_same, get_or-set_other, length-set}
use Rattle.member_lists.proofs.Owners.{times-later}
use Rattle.member_lists.specs.declared.Link.{Link}
use Rattle.member_lists.specs.Owners.{owner_of, times, AreMembers}
use Rattle.member_lists.specs.Links.{nil, link_at, owner_in, chain, AreTold, ReachesNil}
use Rattle.member_lists.proofs.Linked.{owner_of-links, some_link, link_some}
use Rattle.member_lists.proofs.Walks as walks

-- a link with its owner told
abbrev with_owner : ℕ → Link → Link
with_owner to link = record link { owner = to }

-- how far the walk has come: who was not told is still to come
pub record IsTelling (ls ls' : List Link) (from to first at last : ℕ) : Type 0 where
  pub here : (k : ℕ) → (link_at ls k).owner ≡ from → (link_at ls' k ≡ with_owner to (link_at ls k)) ⊎ ((link_at ls' k ≡ link_at ls k) × (times k (chain ls at (length ls)) ≡ 1))
  pub others : (k : ℕ) → (link_at ls k).owner ≢ from → link_at ls' k ≡ link_at ls k
  pub len : length ls' ≡ length ls
  pub ends : ReachesNil ls at (length ls)
  pub owned : AllByRecursion (λ k. owner_of (map owner_in ls) k ≡ Some from) (chain ls at (length ls))
  pub ending : (at ≡ first) ⊎ (((link_at ls last).owner ≡ from) × ((link_at ls last).next ≡ at))

-- the first of the keys still to come is a member
here_owned : (ls : List Link) (from at n : ℕ) → ReachesNil ls at n → at ≢ nil → AllByRecursion (λ k. owner_of (map owner_in ls) k ≡ Some from) (chain ls at n)
    → ((link_at ls at).owner ≡ from) × (from ≢ nil) × AllByRecursion (λ k. owner_of (map owner_in ls) k ≡ Some from) (chain ls (link_at ls at).next n)
here_owned ls from at n ends some all = grind (arith, walks.step, some_link, owner_of-links)

pub begins : (ls : List Link) (from to first : ℕ) → first ≢ nil → ReachesNil ls first (length ls) → AreMembers (map owner_in ls) from (chain ls first (length ls)) → IsTelling ls ls from to first first first
begins ls from to first there ends all =
    let some : from ≢ nil = (here_owned ls from first (length ls) ends there all.owned).1 in
    record {
      here = λ k mine. inr (refl, all.once k (owner_of-links ls k ∙ link_some (link_at ls k) from mine some));
      others = λ k other. refl;
      len = refl;
      ends = ends;
      owned = all.owned;
      ending = inl refl;
    }

module _ (ls ls' : List Link) (from to first at last : ℕ) (w : IsTelling ls ls' from to first at last) (some : at ≢ nil) where
  pub at_within : at < length ls'
  at_within = let lt = (walks.step ls at (length ls) w.ends some).inside in omega (arith, lt, w.len)

  at_owned : (link_at ls at).owner ≡ from
  at_owned = (here_owned ls from at (length ls) w.ends some w.owned).0

  -- the key keeps what else its link says
  at_kept : (link_at ls' at).next ≡ (link_at ls at).next × ((link_at ls' at).prev ≡ (link_at ls at).prev)
  at_kept = grind (arith, at_owned)

  pub turn : (z : Link) → z ≡ link_at ls' at → IsTelling ls (set ls' at (record { owner = to; next = z.next; prev = z.prev })) from to first z.next at
  turn z is = grind (arith, cases_eq, get_or-set_other, at_owned, length-set, walks.step, here_owned, get_or-set_same, at_within, times-later)

  -- fewer are to come
  pub fewer : length (chain ls (link_at ls at).next (length ls)) < length (chain ls at (length ls))
  fewer = let e = ap length (walks.step ls at (length ls) w.ends some).rest in omega (arith, e)

  pub fewer_read : (z : Link) → z ≡ link_at ls' at → length (chain ls z.next (length ls)) < length (chain ls at (length ls))
  fewer_read z is = let e : z.next ≡ (link_at ls at).next = ap (λ (y : Link). y.next) is ∙ at_kept.0 in rw e fewer

-- at the end all were told
pub all_told : (ls ls' : List Link) (from to first at last : ℕ) → IsTelling ls ls' from to first at last → at ≡ nil → AreTold ls ls' from to
all_told ls ls' from to first at last w none = grind (arith, walks.over)

pub is_last : (ls ls' : List Link) (from to first at last : ℕ) → IsTelling ls ls' from to first at last → at ≡ nil → first ≢ nil
    → ((link_at ls last).owner ≡ from) × ((link_at ls last).next ≡ nil)
is_last ls ls' from to first at last w none some = grind arith
