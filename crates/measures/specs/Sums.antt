-- Sums of 64 bits.
use Rattle.std.specs.Prelude.{ℕ, ◌+◌, max, if◌then◌else◌, Some, None, Option, nat_le}
use Rattle.measures.specs.Operations.{Operations}
use Rattle.measures.specs.declared.step.Step.{Step}

-- The sum of two numbers, none where it does not fit 64 bits.
-- (The numbers of the logic have no width. One that does not fit 64 bits, which no value does, counts as fitting here,
-- so that adding 0 alters no number whatever, and the laws need no premise about widths.)
abbrev pub added : ℕ → ℕ → Option ℕ
added a b = if nat_le (a + b) (max 18446744073709551615 (max a b)) then Some (a + b) else None

-- the measure that sums a number of each step
abbrev pub summed : (Step → ℕ) → Operations ℕ
summed f = record { nothing = 0; step_value = f; joined = added; at_most = nat_le }
