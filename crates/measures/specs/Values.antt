-- The two measures: dwell, and faults first.
use Rattle.std.specs.Prelude.{ℕ, Bool, ◌&&◌, ◌||◌, Some, Option, ◌==◌, nat_le, nat_lt}
use Rattle.measures.specs.declared.step.Step.{Step}
use Rattle.measures.specs.declared.faults_first.FaultsFirst.{FaultsFirst}
use Rattle.std.specs.Option.{option_and_then}
use Rattle.measures.specs.Operations.{Operations}
use Rattle.measures.specs.Sums.{added, summed}

-- the milliseconds that a step counts for
abbrev pub step_ms : Step → ℕ
step_ms s = s.dwell

-- the measure of dwell: the sum of the milliseconds
abbrev pub dwell : Operations ℕ
dwell = summed step_ms

-- faults-first: no faults and no milliseconds
abbrev pub no_faults : FaultsFirst
no_faults = record { faults = 0; ms = 0 }

-- faults-first of a step
abbrev pub faults_first_step : Step → FaultsFirst
faults_first_step s = record { faults = s.faults; ms = step_ms s }

-- faults-first: both sums, where both exist
abbrev pub faults_first_joined : FaultsFirst → FaultsFirst → Option FaultsFirst
faults_first_joined a b =
    option_and_then (λ f. option_and_then (λ t. Some (record { faults = f; ms = t })) (added a.ms b.ms)) (added a.faults b.faults)

-- faults-first: fewer faults rank first, then fewer milliseconds
abbrev pub faults_first_at_most : FaultsFirst → FaultsFirst → Bool
faults_first_at_most a b = nat_lt a.faults b.faults || (a.faults == b.faults && nat_le a.ms b.ms)

-- the measure of faults first: the operations above
abbrev pub faults_first : Operations FaultsFirst
faults_first = record { nothing = no_faults; step_value = faults_first_step; joined = faults_first_joined; at_most = faults_first_at_most }
