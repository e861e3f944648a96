-- Which namespaces of a text may have fallen in a store that has them.
use Rattle.std.proofs.Common.{◌≡◌, ◌⊎◌, inl, inr, ℕ, Bool, true, false, not, ◌==◌, ◌&&◌, List, [], ◌∷◌, length, map, slice_get, Some, None, refl, sym, ap, subst, ◌∙◌, option_and_then}
use Rattle.std.proofs.lemmas.Bool.{false_from_ne_true}
use Rattle.pid_types.specs.declared.plain.Space.{Space}
use Rattle.pid_types.specs.Bounds.{deepest_space}
use Rattle.pid_types.specs.Membership.{IsIn}
use Rattle.pid_types.specs.Names.{in_use, names_in_use, number, path_up}
use Rattle.pid_types.specs.Sound.{IsSound}
use Rattle.pid_types.specs.State.{State}
use Rattle.model_laws.proofs.Chains.{climb-None}
use Rattle.model_laws.proofs.Lists.{IsIn-map, IsIn-from_map}
use Rattle.model_laws.proofs.Rising.{find-key}
use Rattle.pid_types.specs.declared.call.Kind.TheVariants.{Task, Group, Session}
use Rattle.pid_numbers.specs.Numbering.{Numbering, Identifier, IsNumberOfThread, IsNumberUsedAs, id_at, identifier_at, is_thread, is_used_as, number_of, path_at}
use Rattle.pid_numbers.specs.Restore.{MayFall, is_flagged}
use Rattle.task_table.specs.Lawful.{HasLaws, IsLawful}
use Rattle.task_table.specs.Store.{Store}
use Rattle.task_table.specs.View.{parent_id, space_of, spaces_of, state_of}
use Rattle.task_table.proofs.Around.{around-in, space-from, space-in}
use Rattle.task_table.proofs.Alone.{in_use-rows}
use Rattle.task_table.proofs.InUse.{used-from}
use Rattle.task_table.proofs.Keys.{id_for, id_of_there, number-is_key, on_path}
use Rattle.table_build.specs.Bare.{AreFlagged, MayHaveFalls, undrawn, steady}
use Rattle.table_build.proofs.Parts.{numbered, same-number, same-up}
use Rattle.table_build.proofs.Places.{at_place, place_of}

-- a list with a second element has a first
two : (p : List ℕ) (n : ℕ) → slice_get p 1 ≡ Some n → (q : ℕ) × (qs : List ℕ) × (p ≡ q ∷ qs)
two [] n e = absurd (cc)
two (q ∷ qs) n e = (q, qs, refl)

module _ (b : Numbering) (l : HasLaws b) (spaces : List Space) (listed : map steady (spaces_of b) ≡ map undrawn spaces) where
  -- the namespace of a line is there, in the one of its line
  pub line-there : (x : Space) → IsIn x spaces → (s : ℕ) × (id_at b s ≡ Some x.id) × (parent_id b s ≡ x.parent)
  line-there x i =
      let r = IsIn-from_map steady (undrawn x) (spaces_of b) (subst (IsIn (undrawn x)) (sym listed) (IsIn-map undrawn x spaces i)) in
      let k = space-from b l r.0 r.1 in
      (k.0, k.1 ∙ ap (λ (y : Space). Some y.id) (sym r.2), sym (ap (λ (y : Space). y.parent) k.2) ∙ sym (ap (λ (y : Space). y.parent) r.2))

  -- and the other way
  pub there-line : (s i : ℕ) → id_at b s ≡ Some i → (x : Space) × IsIn x spaces × (x.id ≡ i)
  there-line s i e =
      let r = IsIn-from_map undrawn (steady (space_of b (i, s))) spaces (subst (IsIn (steady (space_of b (i, s)))) listed (IsIn-map steady (space_of b (i, s)) (spaces_of b) (space-in b l s i e))) in
      (r.0, r.1, sym (ap (λ (y : Space). y.id) r.2))

  module _ (flags : List Bool) (flagged : AreFlagged b spaces (length spaces) flags) where
    -- what each line may have, all may have
    pub may-fall : MayHaveFalls b flags spaces → MayFall b flags
    may-fall each = record {
      root = false_from_ne_true (is_flagged flags 0) (λ on. let x = flagged.only 0 on in ((each x.1 (at_place spaces x.0 x.1 x.2)).fallen 0 x.4 x.3).0 refl);
      inner = λ s outer up on.
          let p = two (path_at b s) outer up in
          let t = on_path b l s p.0 p.1 p.2 in
          let id = id_of_there b l s 0 t.0 t.1 in
          let x = there-line s (id_for b l 0 s) id in
          inside s outer up on x.0 x.1 (id ∙ ap Some (sym x.2)) x.0.fallen refl;
      held = λ s there on. let x = flagged.only s on in let n = (each x.1 (at_place spaces x.0 x.1 x.2)).fallen s x.4 x.3 in (n.1, n.2, n.3);
    }
      where
        inside : (s outer : ℕ) → slice_get (path_at b s) 1 ≡ Some outer → is_flagged flags outer ≡ true → (x : Space) → IsIn x spaces → id_at b s ≡ Some x.id → (f : Bool) → x.fallen ≡ f → is_flagged flags s ≡ true
        inside s outer up on x i id true fell =
            let j = place_of spaces x i in
            let k = flagged.each j.0 x j.2 j.1 in
            ap (is_flagged flags) (sym (l.ids k.0 s x.id k.1 id)) ∙ k.2 fell
        inside s outer up on x i id false stands = absurd (let z = sym on ∙ (each x i).stands s outer id stands up in cc)

-- a number that is in use is so as something, or is a thread's
pub used-as : (b : Numbering) (i s n : ℕ) → number_of b i s ≡ Some n
    → IsNumberUsedAs b Task s n ⊎ (IsNumberUsedAs b Group s n ⊎ (IsNumberUsedAs b Session s n ⊎ IsNumberOfThread b s n))
used-as b i s n e =
    let u = numbered b (identifier_at b i) s n e in
    go u.0 u.1 (u.0.tasks == 0) refl (u.0.groups == 0) refl (u.0.sessions == 0) refl
  where
    go : (u : Identifier) → identifier_at b i ≡ Some u → (t : Bool) → (u.tasks == 0) ≡ t → (g : Bool) → (u.groups == 0) ≡ g → (f : Bool) → (u.sessions == 0) ≡ f
        → IsNumberUsedAs b Task s n ⊎ (IsNumberUsedAs b Group s n ⊎ (IsNumberUsedAs b Session s n ⊎ IsNumberOfThread b s n))
    go u at false t g gs f fs = inl (record { key = i; has = e; used = ap (is_used_as Task) at ∙ ap not t })
    go u at true t false gs f fs = inr (inl (record { key = i; has = e; used = ap (is_used_as Group) at ∙ ap not gs }))
    go u at true t true gs false fs = inr (inr (inl (record { key = i; has = e; used = ap (is_used_as Session) at ∙ ap not fs })))
    go u at true t true gs true fs = inr (inr (inr (record { key = i; has = e; thread = ap is_thread at ∙ ap (λ x. not (not (x && ((u.groups == 0) && (u.sessions == 0))))) t ∙ ap (λ x. not (not (x && (u.sessions == 0)))) gs ∙ ap (λ x. not (not x)) fs })))

-- in a store of a sound state without threads each line may have what it says
module _ (s : Store) (l : IsLawful s) (text : State) (sound : IsSound text) (listed : map steady (spaces_of s.numbering) ≡ map undrawn text.spaces) (rows : (state_of s).rows ≡ text.rows)
    (threads : text.threads ≡ [])
    (flags : List Bool) (flagged : AreFlagged s.numbering text.spaces (length text.spaces) flags) where
  -- the namespace with the first key is the root
  root-id : (x : Space) → IsIn x text.spaces → id_at s.numbering 0 ≡ Some x.id → x.id ≡ 0
  unfolding path_up
  root-id x i e =
      let k = line-there s.numbering l.numbering text.spaces listed x i in
      let first = l.numbering.ids k.0 0 x.id k.1 e in
      let none : x.parent ≡ None = sym k.2 ∙ ap (parent_id s.numbering) first ∙ ap (λ p. option_and_then (id_at s.numbering) (slice_get p 1)) l.numbering.root in
      let up = ap (option_and_then (λ (y : Space). y.parent)) (find-key (λ (y : Space). y.id) text.spaces sound.coherent.spaces.rising x i) ∙ none in
      only (subst (IsIn 0) (climb-None _ deepest_space x.id up) (sound.coherent.spaces.chains x i))
    where
      only : IsIn 0 (x.id ∷ []) → x.id ≡ 0
      only (inl e) = sym e
      only (inr none) = absurd none

  pub may-have : MayHaveFalls s.numbering flags text.spaces
  may-have x i = record {
    there = let k = line-there s.numbering l.numbering text.spaces listed x i in (k.0, k.1);
    fallen = λ c e fell.
        let n = sound.named x i fell in
        let by_row : in_use text ≡ names_in_use (state_of s).rows = in_use-rows text threads ∙ ap names_in_use (sym rows) in
        let k = used-from s l n.0 (subst (IsIn n.0) by_row n.2) in
        let same = same-number (spaces_of s.numbering) text.spaces listed n.0 x.id ∙ n.3 in
        let at = sym (number-is_key s.numbering l.numbering c x.id k.0 k.1 e k.2) ∙ ap (λ a. number (spaces_of s.numbering) a x.id) (sym k.3) ∙ same in
        ((λ zero. let root = root-id x i (ap (id_at s.numbering) (sym zero) ∙ e) in let z = sym fell ∙ sound.coherent.root x i root in absurd (cc)), k.0, n.1, at);
    stands = λ c outer e stays up. false_from_ne_true (is_flagged flags outer) (λ on.
        let y = flagged.only outer on in
        let around = around-in s.numbering l.numbering c outer x.id y.1.id e y.4 (at_place (path_at s.numbering c) 1 outer up) in
        let fell = (sound.coherent.fallen y.1 (at_place text.spaces y.0 y.1 y.2) y.3).below x i (subst (IsIn y.1.id) (same-up (spaces_of s.numbering) text.spaces listed x.id) around) in
        let z = sym fell ∙ stays in cc);
  }
