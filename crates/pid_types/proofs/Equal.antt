-- `==` at what a snapshot lists is true exactly where the two are one.
use Rattle.std.proofs.Common.{◌≡◌, Bool, ◌==◌, Option, Some, None, refl, ap}
use Rattle.std.specs.Bool.{Decides}
use Rattle.std.specs.Option.{option_eq}
use Rattle.std.specs.Cmp.{booleans_Decides}
use Rattle.std.proofs.lemmas.Bool.Decides.{Decides-eqb, Decides-and, Decides-like}
use Rattle.std.proofs.lemmas.Slice.Eq.{bytes_eq-Decides}
use Rattle.pid_types.specs.declared.plain.Name.{Name}
use Rattle.pid_types.specs.declared.plain.Ended.{Ended}
use Rattle.pid_types.specs.declared.plain.Ended.TheVariants.{Exited, Killed}
use Rattle.pid_types.specs.declared.plain.Life.{Life}
use Rattle.pid_types.specs.declared.plain.Life.TheVariants.{Live, Zombie}
use Rattle.pid_types.specs.declared.plain.Row.{Row}
use Rattle.pid_types.specs.declared.plain.Space.{Space}
use Rattle.pid_types.specs.declared.plain.ControlRow.{ControlRow}
use Rattle.pid_types.specs.Names.{same_name}
use Rattle.pid_types.specs.contracts.plain.EndedPartialEq.TheImpl as ended
use Rattle.pid_types.specs.contracts.plain.LifePartialEq.TheImpl as life
use Rattle.pid_types.specs.contracts.plain.RowPartialEq.TheImpl as row
use Rattle.pid_types.specs.contracts.plain.SpacePartialEq.TheImpl as space
use Rattle.pid_types.specs.contracts.plain.ControlRowPartialEq.TheImpl as control

-- of two options, where it is so of what they hold
option_Decides : {T : Type 0} (E : T → T → Bool) → ((a b : T) → Decides (E a b) (a ≡ b)) → (o p : Option T) → Decides (option_eq E o p) (o ≡ p)
option_Decides E each None None = (λ e. refl, λ e. refl)
option_Decides E each None (Some b) = (λ e. absurd (cc), λ e. absurd (cc))
option_Decides E each (Some a) None = (λ e. absurd (cc), λ e. absurd (cc))
option_Decides {T} E each (Some a) (Some b) = Decides-like (E a b) (λ (e : a ≡ b). ap Some e) (λ (e : Some a ≡ Some b). let same : a ≡ b = cc in same) (each a b)

-- of two names
pub name_Decides : (a b : Name) → Decides (same_name a b) (a ≡ b)
name_Decides a b =
    let parts = Decides-and _ _ (Decides-eqb a.space b.space) (bytes_eq-Decides a.numbers.items b.numbers.items) in
    Decides-like _
    (λ h i. record { space = h.0 i; numbers = record { items = h.1 i } })
    (λ e. (ap (λ n. n.space) e, ap (λ n. n.numbers.items) e))
    parts

-- of two ends
ended_Decides : (a b : Ended) → Decides (ended.eq-value.it a b) (a ≡ b)
ended_Decides (Exited m) (Exited n) = Decides-like (m == n) (λ (e : m ≡ n). ap Exited e) (λ (e : Exited m ≡ Exited n). let same : m ≡ n = cc in same) (Decides-eqb m n)
ended_Decides (Exited m) Killed = (λ e. absurd (cc), λ e. absurd (cc))
ended_Decides Killed (Exited n) = (λ e. absurd (cc), λ e. absurd (cc))
ended_Decides Killed Killed = (λ e. refl, λ e. refl)

-- of a task's life
life_Decides : (a b : Life) → Decides (life.eq-value.it a b) (a ≡ b)
life_Decides Live Live = (λ e. refl, λ e. refl)
life_Decides Live (Zombie b) = (λ e. absurd (cc), λ e. absurd (cc))
life_Decides (Zombie a) Live = (λ e. absurd (cc), λ e. absurd (cc))
life_Decides (Zombie a) (Zombie b) = Decides-like (ended.eq-value.it a b) (λ (e : a ≡ b). ap Zombie e) (λ (e : Zombie a ≡ Zombie b). let same : a ≡ b = cc in same) (ended_Decides a b)

-- of two tasks
pub row_Decides : (a b : Row) → Decides (row.eq-value.it a b) (a ≡ b)
row_Decides a b =
    let parts = Decides-and _ _ (name_Decides a.name b.name)
    (Decides-and _ _ (option_Decides same_name name_Decides a.parent b.parent)
    (Decides-and _ _ (name_Decides a.group b.group)
    (Decides-and _ _ (name_Decides a.session b.session)
    (Decides-and _ _ (booleans_Decides a.executed b.executed)
    (Decides-and _ _ (life_Decides a.life b.life)
    (Decides-and _ _ (Decides-eqb a.home b.home)
    (Decides-and _ _ (Decides-eqb a.children_space b.children_space)
    (booleans_Decides a.subreaper b.subreaper)))))))) in
    Decides-like _
    (λ h i. record {
      name = h.0 i;
      parent = h.1.0 i;
      group = h.1.1.0 i;
      session = h.1.1.1.0 i;
      executed = h.1.1.1.1.0 i;
      life = h.1.1.1.1.1.0 i;
      home = h.1.1.1.1.1.1.0 i;
      children_space = h.1.1.1.1.1.1.1.0 i;
      subreaper = h.1.1.1.1.1.1.1.1 i;
    })
    (λ e. (
      ap (λ r. r.name) e,
      (
        ap (λ r. r.parent) e,
        (
          ap (λ r. r.group) e,
          (
            ap (λ r. r.session) e,
            (
              ap (λ r. r.executed) e,
              (
                ap (λ r. r.life) e,
                (ap (λ r. r.home) e, (ap (λ r. r.children_space) e, ap (λ r. r.subreaper) e)),
              ),
            ),
          ),
        ),
      ),
    ))
    parts

-- of two namespaces
pub space_Decides : (a b : Space) → Decides (space.eq-value.it a b) (a ≡ b)
space_Decides a b =
    let parts = Decides-and _ _ (Decides-eqb a.id b.id)
    (Decides-and _ _ (option_Decides ◌==◌ Decides-eqb a.parent b.parent)
    (Decides-and _ _ (Decides-eqb a.cursor b.cursor) (booleans_Decides a.fallen b.fallen))) in
    Decides-like _
    (λ h i. record { id = h.0 i; parent = h.1.0 i; cursor = h.1.1.0 i; fallen = h.1.1.1 i })
    (λ e. (ap (λ s. s.id) e, (ap (λ s. s.parent) e, (ap (λ s. s.cursor) e, ap (λ s. s.fallen) e))))
    parts

-- of two control groups with their counts
pub control_Decides : (a b : ControlRow) → Decides (control.eq-value.it a b) (a ≡ b)
control_Decides a b =
    let parts = Decides-and _ _ (Decides-eqb a.id b.id)
    (Decides-and _ _ (option_Decides ◌==◌ Decides-eqb a.parent b.parent)
    (Decides-and _ _ (option_Decides ◌==◌ Decides-eqb a.limit b.limit) (Decides-eqb a.count b.count))) in
    Decides-like _
    (λ h i. record { id = h.0 i; parent = h.1.0 i; limit = h.1.1.0 i; count = h.1.1.1 i })
    (λ e. (ap (λ c. c.id) e, (ap (λ c. c.parent) e, (ap (λ c. c.limit) e, ap (λ c. c.count) e))))
    parts
