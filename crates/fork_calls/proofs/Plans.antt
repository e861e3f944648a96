-- Why a fork has no room, in the model and in a store.
use Rattle.std.proofs.Common.{◌≡◌, ℕ, find, Option, Some, None, is_none, is_some, true, IsSome, sym, ap, ◌∙◌, option_map, refl}
use Rattle.std.specs.Option.{option_map_or}
use Rattle.pid_types.specs.declared.reply.Refusal.TheVariants.{NoNumber, PidsLimit}
use Rattle.pid_types.specs.declared.plain.Row.{Row}
use Rattle.pid_types.specs.State.{State}
use Rattle.pid_types.specs.Names.{path_up}
use Rattle.pid_types.specs.Controls.{passed_limit}
use Rattle.pid_types.specs.Draw.{draw}
use Rattle.pid_types.specs.Fork.{no_room}
use Rattle.model_laws.proofs.Lists.{find-Some}
use Rattle.pid_numbers.specs.Numbering.{Namespace, id_at, namespace_at, path_at, draw_in}
use Rattle.task_table.specs.Store.{Store, HasNoThreads}
use Rattle.task_table.specs.View.{spaces_of, state_of}
use Rattle.task_table.specs.Lawful.{IsLawful}
use Rattle.task_table.proofs.Keys.{id_for, path-is, path-there}
use Rattle.fork_calls.proofs.Draws.{IsPlanned, find-draws}
use Rattle.fork_calls.proofs.Cursors.{IsPlanned-own}

-- what has an id is there
has-id : (o : Option Namespace) (i : ℕ) → option_map (λ t. t.id) o ≡ Some i → is_some o ≡ true
has-id None i e = absurd (cc)
has-id (Some x) i e = refl

module _ (s : Store) (l : IsLawful s) (state : State) (p : IsPlanned s state) (spaces : state.spaces ≡ spaces_of s.numbering) (sp t : ℕ) (at : id_at s.numbering sp ≡ Some t) (caller : Row) where
  -- the first namespace with no number to give
  full-is : find (λ i. is_none (draw state i)) (path_up state.spaces t) ≡ option_map (id_for s.numbering l.numbering 0) (find (λ q. is_none (draw_in s.numbering q)) (path_at s.numbering sp))
  full-is =
      ap (λ x. find (λ i. is_none (draw state i)) (path_up x t)) spaces
      ∙ ap (find (λ i. is_none (draw state i))) (path-is s.numbering l.numbering sp t 0 at (l.numbering.some sp t at)) ∙ find-draws s l state p 0 sp

  -- there is a number in each, so the limits decide
  pub room-ok-in : find (λ q. is_none (draw_in s.numbering q)) (path_at s.numbering sp) ≡ None → no_room state caller t ≡ option_map PidsLimit (passed_limit state caller.home)
  unfolding no_room
  room-ok-in none = ap (λ o. option_map_or (λ i. Some (NoNumber i)) o (option_map PidsLimit (passed_limit state caller.home))) (full-is ∙ ap (option_map (id_for s.numbering l.numbering 0)) none)

  -- one has none
  pub room-full-in : (q i : ℕ) → find (λ q. is_none (draw_in s.numbering q)) (path_at s.numbering sp) ≡ Some q → id_at s.numbering q ≡ Some i → no_room state caller t ≡ Some (NoNumber i)
  unfolding no_room
  room-full-in q i full id =
      let z : Some (id_for s.numbering l.numbering 0 q) ≡ Some i = sym (path-there s.numbering l.numbering sp 0 q (find-Some (λ q. is_none (draw_in s.numbering q)) (path_at s.numbering sp) q full).0) ∙ id in
      ap (λ o. option_map_or (λ i. Some (NoNumber i)) o (option_map PidsLimit (passed_limit state caller.home))) (full-is ∙ ap (option_map (id_for s.numbering l.numbering 0)) full)
      ∙ ap (λ o. option_map NoNumber o) z

-- the namespace that has none is there
pub full-there-in : (s : Store) (l : IsLawful s) (sp q : ℕ) → find (λ q. is_none (draw_in s.numbering q)) (path_at s.numbering sp) ≡ Some q → IsSome (namespace_at s.numbering q)
full-there-in s l sp q full =
    has-id (namespace_at s.numbering q) _ (path-there s.numbering l.numbering sp 0 q (find-Some (λ q. is_none (draw_in s.numbering q)) (path_at s.numbering sp) q full).0)

-- the same of the own state of a store without threads
module _ (s : Store) (l : IsLawful s) (alone : HasNoThreads s.threads) (sp t : ℕ) (at : id_at s.numbering sp ≡ Some t) (caller : Row) where
  pub room-ok : find (λ q. is_none (draw_in s.numbering q)) (path_at s.numbering sp) ≡ None → no_room (state_of s) caller t ≡ option_map PidsLimit (passed_limit (state_of s) caller.home)
  room-ok = room-ok-in s l (state_of s) (IsPlanned-own s l alone) refl sp t at caller

  pub room-full : (q i : ℕ) → find (λ q. is_none (draw_in s.numbering q)) (path_at s.numbering sp) ≡ Some q → id_at s.numbering q ≡ Some i → no_room (state_of s) caller t ≡ Some (NoNumber i)
  room-full = room-full-in s l (state_of s) (IsPlanned-own s l alone) refl sp t at caller

  pub full-there : (q : ℕ) → find (λ q. is_none (draw_in s.numbering q)) (path_at s.numbering sp) ≡ Some q → IsSome (namespace_at s.numbering q)
  full-there = full-there-in s l sp
