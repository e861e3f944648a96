-- Where no thread is beside a first one, the state with its threads is the one without.
use Rattle.std.proofs.Common.{◌≡◌, ℕ, zero, suc, ◌+◌, [], ◌∷◌, Option, Some, None, refl, sym, ap, subst, ◌∙◌, if◌then◌else◌}
use Rattle.std.specs.Option.{option_map_or}
use Rattle.pid_types.specs.Sound.{IsSound}
use Rattle.task_table.specs.Store.{Store, HasNoThreads}
use Rattle.task_table.specs.Collect.{collect}
use Rattle.task_table.specs.View.{name_at, key_numbered, state_of}
use Rattle.task_table.specs.Whole.{IsWhole}
use Rattle.std.specs.Prelude.{option_map, option_and_then}
use Rattle.thread_view.specs.Full.{thread_row_of, thread_row_with, thread_row_numbered, mark_with, mark_numbered, full_state}
use Rattle.thread_view.specs.Calling.{IsWholeWithThreads}

-- a list of nothing
pub collect-none : {X : Type 0} (f : ℕ → Option X) (n len : ℕ) → ((i : ℕ) → f i ≡ None) → collect f n len ≡ []
collect-none f n zero none = refl
collect-none f n (suc len) none = ap (λ o. option_map_or (λ x. x ∷ collect f (n + 1) len) o (collect f (n + 1) len)) (none n) ∙ collect-none f (n + 1) len none

module _ (s : Store) (alone : HasNoThreads s.threads) where
  pub no-threads : (full_state s).threads ≡ []
  no-threads = collect-none (thread_row_numbered s) 0 s.numbering.pid_max (λ n. at (key_numbered s.numbering 0 n))
    where
      at : (o : Option ℕ) → option_and_then (thread_row_with s) o ≡ None
      at None = refl
      at (Some k) = ap (option_map (thread_row_of s k)) (alone.none k)

  pub no-marks : (full_state s).left ≡ []
  no-marks = collect-none (mark_numbered s) 0 s.numbering.pid_max (λ n. at (key_numbered s.numbering 0 n))
    where
      at : (o : Option ℕ) → option_and_then (mark_with s) o ≡ None
      at None = refl
      at (Some k) = ap (λ b. if b then Some (name_at s.numbering k) else None) (alone.stays k)

  pub full-alone : full_state s ≡ state_of s
  full-alone = λ i. record (state_of s) { threads = no-threads i; left = no-marks i }

  -- so what is whole without threads is so with them
  pub full-whole : IsWhole s → IsWholeWithThreads s
  full-whole w = record {
    sound = subst IsSound (sym full-alone) w.sound;
    parents = w.parents;
    processes = λ k t e. absurd (let z : None ≡ Some t = sym (alone.none k) ∙ e in cc);
  }

  pub whole-full : IsWholeWithThreads s → IsWhole s
  whole-full f = record { sound = subst IsSound full-alone f.sound; parents = f.parents; alone = alone }
