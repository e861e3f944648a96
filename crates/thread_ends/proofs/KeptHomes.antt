-- Control groups that are kept.
use Rattle.std.proofs.Common.{◌≡◌, inl, inr, ℕ, ◌+◌, ◌-◌, ◌==◌, ◌||◌, Bool, true, false, nat_lt, Option, Some, None, is_some, IsSome, if◌then◌else◌, refl, sym, ap, ◌∙◌, option_and_then}
use Rattle.std.specs.Option.{option_map_or}
use Rattle.std.proofs.lemmas.Bool.{cases_eq, eq-eqb, ne_eqb}
use Rattle.pids_charge.specs.Charges.{Charges, Home, home_at, kept, ChangesHome}
use Rattle.task_table.specs.Store.{Uncharges}
use Rattle.thread_ends.specs.Ending.{KeepsHomes}

pub KeepsHomes-refl : (v : Charges) → KeepsHomes v v
KeepsHomes-refl v = record {
  controls = refl;
  ids = λ c h e. (h, e, refl, refl);
  standing = λ c g e on. ap is_some e;
}

pub KeepsHomes-trans : (u v w : Charges) → KeepsHomes u v → KeepsHomes v w → KeepsHomes u w
KeepsHomes-trans u v w first second = record {
  controls = second.controls ∙ first.controls;
  ids = λ c h e.
      let g = second.ids c h e in
      let f = first.ids c g.0 g.1 in
      (f.0, f.1, f.2 ∙ g.2, f.3 ∙ g.3);
  standing = λ c g e on. further c g e on (home_at v c) refl (first.standing c g e on);
}
  where
    further : (c : ℕ) (g : Home) → home_at u c ≡ Some g → g.stands ≡ true → (o : Option Home) → home_at v c ≡ o → IsSome o → IsSome (home_at w c)
    further c g e on None at some = absurd (cc)
    further c g e on (Some h) at some =
        let f = first.ids c h at in
        let same : f.0.stands ≡ g.stands = ap (λ o. option_map_or (λ (h : Home). h.stands) o f.0.stands) (sym f.1 ∙ e) in
        second.standing c h at (sym f.3 ∙ same ∙ on)

-- homes that are changed at each key so that their control group stays, and that go only where they are none's own
module _ (u v : Charges) (controls : v.controls ≡ u.controls) (change : ℕ → Home → Option Home) (each : (c : ℕ) → home_at v c ≡ option_and_then (change c) (home_at u c))
    (same : (c : ℕ) (g h : Home) → change c g ≡ Some h → (g.id ≡ h.id) × (g.stands ≡ h.stands)) (stays : (c : ℕ) (g : Home) → g.stands ≡ true → IsSome (change c g)) where
  abbrev Was : ℕ → Home → Type 0
  Was c h = (g : Home) × (home_at u c ≡ Some g) × (g.id ≡ h.id) × (g.stands ≡ h.stands)

  was : (c : ℕ) (h : Home) → home_at v c ≡ Some h → (o : Option Home) → home_at u c ≡ o → Was c h
  was c h e None at = absurd (let z : None ≡ Some h = sym (each c ∙ ap (option_and_then (change c)) at) ∙ e in cc)
  was c h e (Some g) at = let one = same c g h (sym (each c ∙ ap (option_and_then (change c)) at) ∙ e) in (g, at, one.0, one.1)

  pub changed-keeps : KeepsHomes u v
  changed-keeps = record {
    controls = controls;
    ids = λ c h e. was c h e (home_at u c) refl;
    standing = λ c g e on. ap is_some (each c ∙ ap (option_and_then (change c)) e) ∙ stays c g on;
  }

-- what is kept of a home has its control group, and a control group's own is kept
pub kept-same : (g h : Home) → kept g ≡ Some h → (g.id ≡ h.id) × (g.stands ≡ h.stands)
kept-same g h = go (g.stands || nat_lt 0 (g.live + g.zombies))
  where
    go : (b : Bool) → (if b then Some g else None) ≡ Some h → (g.id ≡ h.id) × (g.stands ≡ h.stands)
    go true e = (ap (λ o. option_map_or (λ x. x.id) o g.id) e, ap (λ o. option_map_or (λ x. x.stands) o g.stands) e)
    go false e = absurd (cc)

pub kept-stays : (g : Home) → g.stands ≡ true → IsSome (kept g)
kept-stays g on = ap (λ b. is_some (if b || nat_lt 0 (g.live + g.zombies) then Some g else None)) on

-- one home changes, and the others stay
module _ (u v : Charges) (key : ℕ) (change : Home → Home) (alike : (g : Home) → ((change g).id ≡ g.id) × ((change g).stands ≡ g.stands))
    (x : ChangesHome u v key (option_and_then (λ g. kept (change g)) (home_at u key))) where
  abbrev at_key : ℕ → Home → Option Home
  at_key c g = if c == key then kept (change g) else Some g

  each : (c : ℕ) → home_at v c ≡ option_and_then (at_key c) (home_at u c)
  each c = elim (cases_eq c key) [
    | inl same ↦
        ap (home_at v) same ∙ x.here
        ∙ sym (ap (λ (b : Bool). option_and_then (λ g. if b then kept (change g) else Some g) (home_at u c)) (eq-eqb c key same) ∙ ap (λ k. option_and_then (λ g. kept (change g)) (home_at u k)) same)
    | inr differs ↦
        x.others c differs ∙ as_is (home_at u c)
        ∙ sym (ap (λ (b : Bool). option_and_then (λ g. if b then kept (change g) else Some g) (home_at u c)) (ne_eqb c key differs))
  ]
    where
      as_is : (o : Option Home) → o ≡ option_and_then (λ g. Some g) o
      as_is None = refl
      as_is (Some g) = refl

  -- so each has its control group
  pub one-keeps : KeepsHomes u v
  one-keeps = changed-keeps u v x.controls at_key each (λ c g h. same (c == key) g h) (λ c g. stays (c == key) g)
    where
      same : (b : Bool) (g h : Home) → (if b then kept (change g) else Some g) ≡ Some h → (g.id ≡ h.id) × (g.stands ≡ h.stands)
      same true g h e = let k = kept-same (change g) h e in (sym (alike g).0 ∙ k.0, sym (alike g).1 ∙ k.1)
      same false g h e = (ap (λ o. option_map_or (λ x. x.id) o g.id) e, ap (λ o. option_map_or (λ x. x.stands) o g.stands) e)

      stays : (b : Bool) (g : Home) → g.stands ≡ true → IsSome (if b then kept (change g) else Some g)
      stays true g on = kept-stays (change g) ((alike g).1 ∙ on)
      stays false g on = refl

-- a live task's charge that goes
pub uncharged-keeps : (u v : Charges) (c : ℕ) → Uncharges u v c → KeepsHomes u v
uncharged-keeps u v c x = one-keeps u v c (λ (g : Home). record g { live = g.live - 1 }) (λ g. (refl, refl)) x.home
