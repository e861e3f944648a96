-- The namespace for the caller's children, in the model and in a store.
use Rattle.std.proofs.Common.{◌≡◌, ◌≢◌, ℕ, ◌+◌, ◌-◌, Bool, true, false, not, ◌&&◌, ◌==◌, nat_le, [], ◌∷◌, length, Option, Some, None, if◌then◌else◌, refl, sym, ap, ◌∙◌, option_map, option_and_then, arith}
use Rattle.std.specs.Option.{option_map_or}
use Rattle.std.proofs.lemmas.Bool.{eq-eqb, eqb-true, ne_eqb}
use Rattle.std.proofs.lemmas.Bool.Decides.{Decides-eqb, same_from_decides}
use Rattle.std.proofs.lemmas.List.{length-map}
use Rattle.id_slab.specs.Ids.{key_of}
use Rattle.id_slab.proofs.Keys.{entry_of}
use Rattle.pid_types.specs.declared.plain.Row.{Row}
use Rattle.pid_types.specs.declared.plain.Space.{Space}
use Rattle.pid_types.specs.declared.reply.Refusal.{Refusal}
use Rattle.pid_types.specs.declared.reply.Refusal.TheVariants.{NoCaller, TooDeep, Elsewhere, SpaceFallen}
use Rattle.pid_types.specs.Chains.{climb}
use Rattle.pid_types.specs.State.{State}
use Rattle.pid_types.specs.Names.{level, live_row, path_up, parent_space, space_at}
use Rattle.pid_types.specs.Outcome.{Outcome, for_found, refused, refuse_if, unless_found}
use Rattle.pid_types.specs.Fork.{fork, forked, no_room, is_gone, with_space}
use Rattle.pid_numbers.specs.Numbering.{id_at, path_at, has_fallen_at}
use Rattle.task_table.specs.Store.{Store}
use Rattle.task_table.specs.declared.view.Found.{Found}
use Rattle.task_table.specs.View.{row_of, space_of, spaces_of, state_of}
use Rattle.task_table.specs.Lawful.{IsLawful}
use Rattle.task_table.proofs.Keys.{id_for, path-is, space_at-is, space_at-key}
use Rattle.fork_calls.specs.Outcomes.{forked_into, space_refusal}

module _ (s : Store) (l : IsLawful s) where
  -- a namespace that is not there
  absent : (id : ℕ) → ((q : ℕ) → id_at s.numbering q ≢ Some id) → space_at (spaces_of s.numbering) id ≡ None
  absent id none = space_at-is s.numbering l.numbering id ∙ go (key_of s.numbering.order id) refl
    where
      go : (o : Option ℕ) → key_of s.numbering.order id ≡ o → option_map (λ k. space_of s.numbering (id, k)) o ≡ None
      go None e = refl
      go (Some k) e = absurd (none k (entry_of (λ i k. id_at s.numbering k ≡ Some i) s.numbering.order id k l.numbering.each e))

  pub gone-none : (id : ℕ) → ((q : ℕ) → id_at s.numbering q ≢ Some id) → is_gone (state_of s) id ≡ true
  gone-none id none = ap (λ o. option_map_or (λ (t : Space). t.fallen) o true) (absent id none)

  pub gone-is : (id q : ℕ) → id_at s.numbering q ≡ Some id → is_gone (state_of s) id ≡ has_fallen_at s.numbering q
  gone-is id q at = ap (λ o. option_map_or (λ (t : Space). t.fallen) o true) (space_at-key s.numbering l.numbering q id at)

  pub level-is : (id q : ℕ) → id_at s.numbering q ≡ Some id → level (state_of s).spaces id ≡ length (path_at s.numbering q) - 1
  unfolding level
  level-is id q at = ap (λ n. n - 1) (ap length (path-is s.numbering l.numbering q id 0 at (l.numbering.some q id at)) ∙ length-map (path_at s.numbering q) (id_for s.numbering l.numbering 0))

  pub level-none : (id : ℕ) → ((q : ℕ) → id_at s.numbering q ≢ Some id) → level (state_of s).spaces id ≡ 0
  unfolding level path_up climb
  level-none id none = ap (λ o. length (id ∷ option_map_or (climb (parent_space (spaces_of s.numbering)) 32) o []) - 1) (ap (option_and_then (λ (t : Space). t.parent)) (absent id none))

-- what the tests of a namespace tell of the namespace with its id
module _ (s : Store) (l : IsLawful s) (q id : ℕ) (there : id_at s.numbering q ≡ Some id) where
  pub deep-level : (n : ℕ) → n + 1 ≡ length (path_at s.numbering q) → nat_le 32 (level (state_of s).spaces id) ≡ nat_le 32 n
  deep-level n e = let same : length (path_at s.numbering q) - 1 ≡ n = omega (arith, e) in ap (nat_le 32) (level-is s l id q there ∙ same)

  pub same-key : (own i : ℕ) → id_at s.numbering own ≡ Some i → (id == i) ≡ (q == own)
  same-key own i at = same_from_decides {P = q ≡ own} _ _ (
    λ e. l.numbering.ids q own id there (at ∙ ap Some (sym (eqb-true _ _ e))),
    λ e. eq-eqb _ _ (let z : Some id ≡ Some i = sym there ∙ ap (id_at s.numbering) e ∙ at in cc),
  )
      (Decides-eqb q own)

-- a namespace that was dropped is not the caller's own
pub dropped : (s : Store) → IsLawful s → (caller : Row) (own : ℕ) → id_at s.numbering own ≡ Some caller.name.space → ((q : ℕ) → id_at s.numbering q ≢ Some caller.children_space)
    → (n : Bool) → space_refusal (state_of s) caller n ≡ Some (if n then Elsewhere else SpaceFallen)
dropped s l caller own at none false = ap (λ b. if b then Some SpaceFallen else None) (gone-none s l caller.children_space none)
dropped s l caller own at none true =
    let id = caller.children_space in
    let gone = is_gone (state_of s) id in
    let refusal = λ (deep same : Bool). option_map_or Some (if deep then Some TooDeep else (if not same then Some Elsewhere else None)) (if gone then Some SpaceFallen else None) in
    ap (λ n. refusal (nat_le 32 n) (id == caller.name.space)) (level-none s l id none)
    ∙ ap (refusal false) (ne_eqb id caller.name.space (λ same. none own (at ∙ ap Some (sym same))))

-- a fork is refused by the namespace, or else goes on
module _ (state : State) (stamp : ℕ) (caller : Row) (new_space : Bool) where
  abbrev planned : State
  planned = if new_space then with_space state caller.children_space stamp else state

  abbrev target : ℕ
  target = if new_space then stamp else caller.children_space

  -- what the model's fork of a live caller comes to
  abbrev pub asked : Outcome
  asked =
      refuse_if state (new_space && nat_le 32 (level state.spaces caller.children_space)) TooDeep
      (refuse_if state (new_space && not (caller.children_space == caller.name.space)) Elsewhere
      (refuse_if state (is_gone state caller.children_space) SpaceFallen
      (unless_found state (no_room planned caller target) (λ r. r) (forked planned caller target))))

  pub asked-is : asked ≡ option_map_or (refused state) (space_refusal state caller new_space) (forked_into state planned caller target)
  asked-is = go new_space (nat_le 32 (level state.spaces caller.children_space)) (not (caller.children_space == caller.name.space)) (is_gone state caller.children_space)
    where
      go : (n a b d : Bool) → refuse_if state (n && a) TooDeep (refuse_if state (n && b) Elsewhere (refuse_if state d SpaceFallen (forked_into state planned caller target)))
          ≡ option_map_or (refused state) (option_map_or Some (if n then (if a then Some TooDeep else (if b then Some Elsewhere else None)) else None) (if d then Some SpaceFallen else None)) (forked_into state planned caller target)
      go true true b d = refl
      go true false true d = refl
      go true false false true = refl
      go true false false false = refl
      go false a b true = refl
      go false a b false = refl

-- a fork that the namespace refuses
pub fork-refused : (s : Store) (stamp n : ℕ) (new_space : Bool) (found : Found) → live_row (state_of s).rows n ≡ Some (row_of s found.key found.task) → (refusal : Refusal)
    → space_refusal (state_of s) (row_of s found.key found.task) new_space ≡ Some refusal → fork (state_of s) stamp n new_space ≡ refused (state_of s) refusal
unfolding fork
fork-refused s stamp n new_space found live refusal why =
    let row = row_of s found.key found.task in
    ap (λ o. for_found (state_of s) o NoCaller (λ caller. asked (state_of s) stamp caller new_space)) live ∙ asked-is (state_of s) stamp row new_space
    ∙ ap (λ o. option_map_or (refused (state_of s)) o
    (forked_into (state_of s) (if new_space then with_space (state_of s) row.children_space stamp else state_of s) row (if new_space then stamp else row.children_space))) why
