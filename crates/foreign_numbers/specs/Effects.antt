-- What a call did to others, as numbers.
use Rattle.std.specs.Prelude.{ℕ}
use Rattle.pid_types.specs.declared.plain.Ended.{Ended as End}
use Rattle.pid_types.specs.declared.plain.Ended.TheVariants.{Exited, Killed}
use Rattle.call_effects.specs.declared.effect.Effect.{Effect}
use Rattle.call_effects.specs.declared.effect.Effect.TheVariants.{Ended, Adopted, Gone, GroupGone, SessionGone, SpaceFell, SpaceGone}
use Rattle.foreign_numbers.specs.declared.effects.EffectNumbers.{EffectNumbers}

-- how a task ended: its status, or a number above them all
abbrev pub end_number : End → ℕ
end_number (Exited status) = status
end_number Killed = 256

-- what a call did to a task, a process group, a session or a namespace
abbrev pub effect_numbers : Effect → EffectNumbers
effect_numbers (Ended n end) = record { what = 0; number = n; value = end_number end }
effect_numbers (Adopted n parent) = record { what = 1; number = n; value = parent }
effect_numbers (Gone n) = record { what = 2; number = n; value = 0 }
effect_numbers (GroupGone n) = record { what = 3; number = n; value = 0 }
effect_numbers (SessionGone n) = record { what = 4; number = n; value = 0 }
effect_numbers (SpaceFell id) = record { what = 5; number = 0; value = id }
effect_numbers (SpaceGone id) = record { what = 6; number = 0; value = id }
