-- What the blade chart means: the events of each blade.
use Rattle.std.specs.Prelude.{ℕ, min, List, ◌/◌, ◌%◌, if◌then◌else◌, ◌&&◌, Some, None, Option, ◌==◌, nat_lt}
use Rattle.std.proofs.Math.Nat.{min-le_right}
use Rattle.std.specs.Option.{option_map}
use Rattle.measures.specs.declared.step.Step.{Step}
use Rattle.charts.specs.Blades.{mode_of, blades_of, state_at, with_state}
use Rattle.charts.specs.Meaning.{Meaning}
use Rattle.charts.specs.declared.lead.Lead.{Lead}
use Rattle.charts.specs.declared.blade.Event.{Event}
use Rattle.charts.specs.declared.blade.Event.TheVariants.{Hold, Resume, Feather, Finish}
use Rattle.charts.specs.declared.blade.Turn.{Turn}
use Rattle.charts.specs.declared.blades.State.{State}
use Rattle.charts.specs.declared.blades.State.TheVariants.{Working, Holding, Feathering, Feathered}

-- the event that an exit's remainder by 4 names
abbrev pub event_numbered : ℕ → Event
event_numbered n = if n == 0 then Hold else if n == 1 then Resume else if n == 2 then Feather else Finish

-- the step of so many faults and milliseconds, each capped at the most that a step holds
abbrev pub step_of : (faults dwell : ℕ) → Step
step_of f d = record { faults = min f 255; dwell = min d 4294967295; few = min-le_right f 255; short = min-le_right d 4294967295 }

-- a turn to a state, with its faults and its dwell in milliseconds
abbrev pub turned : State → (faults dwell : ℕ) → Turn
turned s f d = record { to = s; step = step_of f d }

-- what an event does to a blade; None where it cannot happen
abbrev pub turn : State → Event → Option Turn
turn Working Hold = Some (turned Holding 1 200)
turn Holding Hold = None
turn Feathering Hold = None
turn Feathered Hold = None
turn Working Resume = None
turn Holding Resume = Some (turned Working 0 500)
turn Feathering Resume = None
turn Feathered Resume = None
turn Working Feather = Some (turned Feathering 1 100)
turn Holding Feather = Some (turned Feathering 0 300)
turn Feathering Feather = None
turn Feathered Feather = None
turn Working Finish = None
turn Holding Finish = None
turn Feathering Finish = Some (turned Feathered 0 6000)
turn Feathered Finish = Some (turned Working 0 30000)

-- a turn of one blade leads to the mode in which that blade alone has turned
abbrev pub turn_lead : List State → ℕ → Turn → Lead
turn_lead s b t = record { to = mode_of (with_state s b t.to); step = t.step }

-- where an event of one blade leads
abbrev pub blade_lead : List State → ℕ → Event → Option Lead
blade_lead s b v = option_map (turn_lead s b) (turn (state_at s b) v)

-- 64 modes of 12 exits, 4 for each blade
abbrev pub blade_meaning : Meaning
blade_meaning = record {
  modes = 64;
  exits = λ p. if nat_lt p 64 then 12 else 0;
  exit = λ p e. if nat_lt p 64 && nat_lt e 12 then blade_lead (blades_of p) (e / 4) (event_numbered (e % 4)) else None;
}
