-- The blade chart keeps to what every chart keeps to.
use Rattle.std.specs.Prelude.{◌≡◌, ℕ, ◌/◌, ◌%◌, ◌<◌, ◌≤◌, Bool, true, false, if◌then◌else◌, ◌&&◌, List, Some, None, Option, nat_lt}
use Rattle.std.proofs.Common.{arith, lit≤}
use Rattle.std.specs.Option.{option_map}
use Rattle.std.proofs.lemmas.Bool.Decides.{nat_tests}
use Rattle.charts.specs.Blades.{state_number, mode_of, blades_of, state_at, with_state}
use Rattle.charts.specs.BladeMeaning.{event_numbered, turn, turn_lead, blade_lead, blade_meaning}
use Rattle.charts.specs.Meaning.{Lawful}
use Rattle.charts.specs.declared.lead.Lead.{Lead}
use Rattle.charts.specs.declared.blade.Turn.{Turn}
use Rattle.charts.specs.declared.blades.State.{State}
use Rattle.charts.specs.declared.blades.State.TheVariants.{Working, Holding, Feathering, Feathered}

state_small : (s : State) → state_number s ≤ 3
state_small Working = lit≤ tt
state_small Holding = lit≤ tt
state_small Feathering = lit≤ tt
state_small Feathered = lit≤ tt

mode_small : (s : List State) → mode_of s < 64
mode_small s = omega (arith, state_small (state_at s 0), state_small (state_at s 1), state_small (state_at s 2))

-- a turn leads to a mode that exists
target_known : (s : List State) (b : ℕ) (o : Option Turn) (l : Lead) → option_map (turn_lead s b) o ≡ Some l → l.to < 64
target_known s b None l h = let z : ◌≡◌ {A = ℕ} 0 1 = cc in omega arith
target_known s b (Some t) l h =
    let e : l.to ≡ mode_of (with_state s b t.to) = cc in
    omega (arith, mode_small (with_state s b t.to))

-- and so does an exit that a test leaves open
known : (t : Bool) (o : Option Lead) (l : Lead) → ((l : Lead) → o ≡ Some l → l.to < 64) → (if t then o else None) ≡ Some l → l.to < 64
known true o l h e = h l e
known false o l h e = let z : ◌≡◌ {A = ℕ} 0 1 = cc in omega arith

-- past the exits of a mode nothing is open
absent : (p e : ℕ) (o : Option Lead) → (if nat_lt p 64 then 12 else 0) ≤ e → (if nat_lt p 64 && nat_lt e 12 then o else None) ≡ None
absent p e o h = grind (arith, nat_tests)

pub blade_lawful : Lawful blade_meaning
blade_lawful = record {
  some_mode = lit≤ tt;
  few_modes = lit≤ tt;
  few_exits = λ p. grind (arith, nat_tests);
  unknown_mode = λ p h. grind (arith, nat_tests);
  absent_exit = λ p e h. absent p e (blade_lead (blades_of p) (e / 4) (event_numbered (e % 4))) h;
  known_target = λ p e l h. known (nat_lt p 64 && nat_lt e 12) (blade_lead (blades_of p) (e / 4) (event_numbered (e % 4))) l (target_known (blades_of p) (e / 4) (turn (state_at (blades_of p) (e / 4)) (event_numbered (e % 4)))) h;
}
