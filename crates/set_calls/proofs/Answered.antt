-- What the calls on control groups answer by key is what they come to in the model.
use Rattle.std.proofs.Common.{◌≡◌, ◌≢◌, ℕ, ◌<◌, ◌==◌, nat_lt, not, Bool, true, false, List, [], ◌∷◌, ◌++◌, length, map, filter, Option, Some, None, IsSome, is_some, if◌then◌else◌, refl, sym, ap, ◌∙◌, arith, inl, inr, option_and_then}
use Rattle.std.specs.Option.{option_map_or}
use Rattle.std.specs.List.{AllByRecursion}
use Rattle.std.proofs.lemmas.Bool.Decides.{nat_tests}
use Rattle.pid_types.proofs.General.{held}
use Rattle.pid_types.specs.declared.plain.Control.{Control}
use Rattle.pid_types.specs.declared.reply.Reply.TheVariants.{Done, Control as ControlMade, Counted}
use Rattle.pid_types.specs.declared.reply.Refusal.{Refusal}
use Rattle.pid_types.specs.declared.reply.Refusal.TheVariants.{NoControl, RootControl, ControlBusy, ControlDepth, BadLimit}
use Rattle.pid_types.specs.Bounds.{greatest_limit, deepest_control}
use Rattle.pid_types.specs.Membership.{IsIn}
use Rattle.pid_types.specs.State.{State}
use Rattle.pid_types.specs.Controls.{control_at, control_path, parent_control, count}
use Rattle.pid_types.specs.Outcome.{Outcome, answered, changed, refused, for_found, refuse_if, sweep}
use Rattle.pid_types.specs.Changes.{is_busy, limited, with_control, without_control, with_limit, make_control, remove_control, set_limit, count_tasks}
use Rattle.pids_charge.specs.Charges.{home_at, handed_on, stands, home_id, remove_refusal, limit_refusal}
use Rattle.task_table.specs.Store.{Store, HasNoThreads}
use Rattle.task_table.specs.View.{state_of}
use Rattle.task_table.specs.Lawful.{IsLawful}
use Rattle.task_table.proofs.InUse.{homed}
use Rattle.set_calls.proofs.Busy.{busy-is}
use Rattle.set_calls.proofs.Rehomed.{in_home, unmoved, handed}

-- what holds of each control group holds of all
pub all-of : (P : Control → Type 0) (cs : List Control) → ((c : Control) → IsIn c cs → P c) → AllByRecursion P cs
all-of P [] each = tt
all-of P (c ∷ cs) each = (each c (inl refl), all-of P cs (λ d i. each d (inr i)))

-- a call on a control group: refused for the root, refused by a test, or done
abbrev asked : State → ℕ → Bool → Refusal → (ℕ → Outcome) → Outcome
asked state id test why done = for_found state (control_at state.controls id) NoControl (λ c. for_found state c.parent RootControl (λ parent. refuse_if state test why (done parent)))

-- the same refusals by key
abbrev first_of_two : Option ℕ → Bool → Refusal → Option Refusal
first_of_two parent test why = if is_some parent then (if test then Some why else None) else Some RootControl

module _ (state : State) (id : ℕ) (there : IsSome (control_at state.controls id)) (test : Bool) (why : Refusal) (done : ℕ → Outcome) where
  asked-at : asked state id test why done ≡ for_found state (parent_control state.controls id) RootControl (λ parent. refuse_if state test why (done parent))
  asked-at =
      let g = held (control_at state.controls id) there in
      ap (λ o. for_found state o NoControl (λ c. for_found state c.parent RootControl (λ parent. refuse_if state test why (done parent)))) g.1
      ∙ sym (ap (λ o. for_found state (option_and_then (λ (c : Control). c.parent) o) RootControl (λ parent. refuse_if state test why (done parent))) g.1)

  refused-at : (r : Refusal) → first_of_two (parent_control state.controls id) test why ≡ Some r → asked state id test why done ≡ refused state r
  refused-at r e = asked-at ∙ go (parent_control state.controls id) test e
    where
      out : (a : Refusal) → Some a ≡ Some r → refused state a ≡ refused state r
      out a e = let z : a ≡ r = ap (λ o. option_map_or (λ x. x) o a) e in ap (refused state) z

      go : (o : Option ℕ) (b : Bool) → first_of_two o b why ≡ Some r → for_found state o RootControl (λ parent. refuse_if state b why (done parent)) ≡ refused state r
      go None b e = out RootControl e
      go (Some p) true e = out why e
      go (Some p) false e = absurd (cc)

  done-at : first_of_two (parent_control state.controls id) test why ≡ None → (p : ℕ) × (parent_control state.controls id ≡ Some p) × (asked state id test why done ≡ done p)
  done-at e = let h = go (parent_control state.controls id) test e in (h.0, h.1, asked-at ∙ h.2)
    where
      go : (o : Option ℕ) (b : Bool) → first_of_two o b why ≡ None → (p : ℕ) × (o ≡ Some p) × (for_found state o RootControl (λ parent. refuse_if state b why (done parent)) ≡ done p)
      go None b e = absurd (cc)
      go (Some p) true e = absurd (cc)
      go (Some p) false e = (p, refl, refl)

module _ (s : Store) (l : IsLawful s) (c id : ℕ) (standing : stands s.charges c ≡ true) (is : home_id s.charges c ≡ id) (there : IsSome (control_at s.charges.controls id)) where
  abbrev state : State
  state = state_of s

  -- removal
  removal : HasNoThreads s.threads → remove_refusal s.charges c ≡ first_of_two (parent_control s.charges.controls id) (is_busy state id) ControlBusy
  removal alone =
      ap (λ b. first_of_two (parent_control s.charges.controls (home_id s.charges c)) b ControlBusy) (sym (busy-is s l alone c standing))
      ∙ ap (λ i. first_of_two (parent_control s.charges.controls i) (is_busy state i) ControlBusy) is

  pub not-removed : HasNoThreads s.threads → (r : Refusal) → remove_refusal s.charges c ≡ Some r → remove_control state id ≡ refused state r
  unfolding remove_control
  not-removed alone r e = refused-at state id there (is_busy state id) ControlBusy (λ parent. changed (without_control state id parent) Done) r (sym (removal alone) ∙ e)

  pub removed : HasNoThreads s.threads → remove_refusal s.charges c ≡ None → (p : ℕ) × (parent_control s.charges.controls id ≡ Some p) × (remove_control state id ≡ changed (without_control state id p) Done)
  unfolding remove_control
  removed alone e = done-at state id there (is_busy state id) ControlBusy (λ parent. changed (without_control state id parent) Done) (sym (removal alone) ∙ e)

  -- limits
  limiting : (limit : Option ℕ) → limit_refusal s.charges c limit ≡ first_of_two (parent_control s.charges.controls id) (option_map_or (nat_lt greatest_limit) limit false) BadLimit
  limiting limit = ap (λ i. first_of_two (parent_control s.charges.controls i) (option_map_or (nat_lt greatest_limit) limit false) BadLimit) is

  pub is-limited : (limit : Option ℕ) → limit_refusal s.charges c limit ≡ None → set_limit state id limit ≡ changed (with_limit state id limit) Done
  unfolding set_limit
  is-limited limit e =
      let h = done-at state id there (option_map_or (nat_lt greatest_limit) limit false) BadLimit (λ parent. changed (with_limit state id limit) Done) (sym (limiting limit) ∙ e) in
      h.2

  pub not-limited : (limit : Option ℕ) (r : Refusal) → limit_refusal s.charges c limit ≡ Some r → set_limit state id limit ≡ refused state r
  unfolding set_limit
  not-limited limit r e =
      refused-at state id there (option_map_or (nat_lt greatest_limit) limit false) BadLimit (λ parent. changed (with_limit state id limit) Done) r (sym (limiting limit) ∙ e)

  -- new ones
  made-at : (stamp : ℕ) → make_control state stamp id
      ≡ refuse_if state (nat_lt deepest_control (length (control_path s.charges.controls id))) ControlDepth (changed (with_control state id stamp) (ControlMade stamp))
  unfolding make_control
  made-at stamp =
      let g = held (control_at s.charges.controls id) there in
      ap (λ o. for_found state o NoControl (λ (c : Control). refuse_if state (nat_lt deepest_control (length (control_path s.charges.controls id))) ControlDepth (changed (with_control state id stamp) (ControlMade stamp)))) g.1

  -- by the depth of the one above
  pub made-by : (stamp : ℕ) (b : Bool) → nat_lt deepest_control (length (control_path s.charges.controls (home_id s.charges c))) ≡ b
      → make_control state stamp id ≡ refuse_if state b ControlDepth (changed (with_control state id stamp) (ControlMade stamp))
  made-by stamp b e =
      made-at stamp ∙ ap (λ b. refuse_if state b ControlDepth (changed (with_control state id stamp) (ControlMade stamp)))
      (ap (λ i. nat_lt deepest_control (length (control_path s.charges.controls i))) (sym is) ∙ e)

  pub is-made : (stamp : ℕ) → (deepest_control < length (control_path s.charges.controls (home_id s.charges c)) → ⊥) → make_control state stamp id ≡ changed (with_control state id stamp) (ControlMade stamp)
  is-made stamp shallow = made-by stamp false (go (nat_lt deepest_control (length (control_path s.charges.controls (home_id s.charges c)))) refl)
    where
      go : (b : Bool) → nat_lt deepest_control (length (control_path s.charges.controls (home_id s.charges c))) ≡ b → b ≡ false
      go false e = refl
      go true e = absurd (shallow (grind (arith, nat_tests, e)))

  module _ (alone : HasNoThreads s.threads) (s' : Store) (l' : IsLawful s') (rest : s' ≡ record s { charges = s'.charges }) where
    -- what the changes leave
    pub after-removal : (p : ℕ) → s'.charges.controls ≡ filter (λ g. not (g.id == home_id s.charges c)) s.charges.controls
        → ((k : ℕ) → home_at s'.charges k ≡ option_and_then (handed_on (home_id s.charges c) p) (home_at s.charges k)) → sweep (without_control state id p) ≡ state_of s'
    unfolding without_control
    after-removal p controls homes =
        ap (λ (cs : List Control). sweep (record state { rows = map (in_home (λ i. if i == id then p else i)) state.rows; controls = cs })) (sym (controls ∙ ap (λ i. filter (λ g. not (g.id == i)) s.charges.controls) is))
        ∙ handed s s' l l' rest alone id p (λ k. homes k ∙ ap (λ i. option_and_then (handed_on i p) (home_at s.charges k)) is)

    pub after-limit : (limit : Option ℕ) → s'.charges.controls ≡ map (limited (home_id s.charges c) limit) s.charges.controls
        → ((k : ℕ) → home_at s'.charges k ≡ home_at s.charges k) → sweep (with_limit state id limit) ≡ state_of s'
    unfolding with_limit
    after-limit limit controls homes =
        ap (λ (cs : List Control). sweep (record state { controls = cs })) (sym (controls ∙ ap (λ i. map (limited i limit) s.charges.controls) is))
        ∙ unmoved s s' l l' rest alone (λ k t e. homes t.home)

    pub after-making : (stamp key : ℕ) → s'.charges.controls ≡ s.charges.controls ++ record { id = stamp; parent = Some (home_id s.charges c); limit = None } ∷ []
        → home_at s.charges key ≡ None → ((k : ℕ) → k ≢ key → home_at s'.charges k ≡ home_at s.charges k) → sweep (with_control state id stamp) ≡ state_of s'
    unfolding with_control
    after-making stamp key controls fresh others =
        ap (λ (cs : List Control). sweep (record state { controls = cs })) (sym (controls ∙ ap (λ (i : ℕ). s.charges.controls ++ record { id = stamp; parent = Some i; limit = None } ∷ []) is))
        ∙ unmoved s s' l l' rest alone (λ k t e. others t.home (λ same.
        let h = homed s l k t e in
        let z : None ≡ Some h.0 = sym fresh ∙ ap (home_at s.charges) (sym same) ∙ h.1 in
        cc))

-- a count
pub is-counted : (state : State) (id : ℕ) → IsSome (control_at state.controls id) → count_tasks state id ≡ answered state (Counted (count state id))
unfolding count_tasks
is-counted state id there =
    let g = held (control_at state.controls id) there in
    ap (λ o. for_found state o NoControl (λ (c : Control). answered state (Counted (count state id)))) g.1
