-- Limits, in the model and in a store.
use Rattle.std.proofs.Common.{◌≡◌, ℕ, ◌+◌, false, nat_lt, find, refl, sym, ap, ◌∙◌, option_map, option_and_then}
use Rattle.std.specs.Option.{option_map_or}
use Rattle.pid_types.specs.declared.reply.Refusal.TheVariants.{PidsLimit}
use Rattle.pid_types.specs.State.{State}
use Rattle.pid_types.specs.Controls.{control_at, control_path, is_limited_below, passed_limit, count as count_in}
use Rattle.model_laws.proofs.Lists.{find-same}
use Rattle.pids_charge.specs.Charges.{charge_refusal, charged_count, is_full, control_limit}
use Rattle.task_table.specs.Store.{Store, HasNoThreads}
use Rattle.task_table.specs.View.{state_of}
use Rattle.task_table.specs.Lawful.{IsLawful}
use Rattle.task_table.proofs.Counts.{count-is}

-- the nearest control group that is full is that of a state with a store's control groups and counts
pub limit-in : (s : Store) (state : State) → state.controls ≡ s.charges.controls → ((id : ℕ) → charged_count s.charges id ≡ count_in state id)
    → (home : ℕ) → charge_refusal s.charges home ≡ option_map PidsLimit (passed_limit state home)
unfolding passed_limit
limit-in s state controls counts home =
    ap (option_map PidsLimit) (find-same (is_full s.charges) (λ c. is_limited_below state (count_in state c + 1) c) (control_path s.charges.controls home) (λ c i. full c)
    ∙ ap (λ x. find (λ c. is_limited_below state (count_in state c + 1) c) (control_path x home)) (sym controls))
  where
    full : (c : ℕ) → is_full s.charges c ≡ is_limited_below state (count_in state c + 1) c
    full c =
        ap (λ n. option_map_or (λ limit. nat_lt limit (n + 1)) (control_limit s.charges c) false) (counts c)
        ∙ ap (λ x. option_map_or (λ limit. nat_lt limit (count_in state c + 1)) (option_and_then (λ g. g.limit) (control_at x c)) false) (sym controls)

-- so it is the model's where no thread is beside a first one
pub limit-is : (s : Store) → IsLawful s → HasNoThreads s.threads → (home : ℕ) → charge_refusal s.charges home ≡ option_map PidsLimit (passed_limit (state_of s) home)
limit-is s l alone home = limit-in s (state_of s) refl (count-is s l alone) home
