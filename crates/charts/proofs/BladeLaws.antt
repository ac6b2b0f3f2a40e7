-- Mode numbers and the states that they stand for.
use Rattle.std.specs.Prelude.{◌≡◌, ℕ, ◌/◌, ◌%◌, ◌<◌}
use Rattle.std.proofs.Common.{arith}
use Rattle.std.proofs.lemmas.Bool.Decides.{nat_tests}
use Rattle.charts.specs.Blades.{state_number, state_numbered, mode_of, blades_of}

state_back : (n : ℕ) → state_number (state_numbered n) ≡ n % 4
state_back n = grind (arith, nat_tests)

-- each mode number has states of its own
pub mode_back : (p : ℕ) → p < 64 → mode_of (blades_of p) ≡ p
mode_back p h = omega (arith, state_back (p / 16), state_back (p / 4), state_back p)
