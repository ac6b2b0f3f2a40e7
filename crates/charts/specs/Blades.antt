-- Three blades, what each is doing, and the mode number that says so.
use Rattle.std.specs.Prelude.{ℕ, ◌+◌, ◌*◌, ◌/◌, ◌%◌, if◌then◌else◌, List, [], ◌∷◌, ◌==◌, slice_set, slice_index_or}
use Rattle.charts.specs.declared.blades.State.{State}
use Rattle.charts.specs.declared.blades.State.TheVariants.{Working, Holding, Feathering, Feathered}

-- the number of each state
abbrev pub state_number : State → ℕ
state_number Working = 0
state_number Holding = 1
state_number Feathering = 2
state_number Feathered = 3

-- the state of a number, of which the remainder by 4 counts
abbrev pub state_numbered : ℕ → State
state_numbered n = if n % 4 == 0 then Working else if n % 4 == 1 then Holding else if n % 4 == 2 then Feathering else Feathered

-- what one blade is doing
abbrev pub state_at : List State → ℕ → State
state_at s b = slice_index_or s b Working

-- the same mode, but for what one blade is doing
abbrev pub with_state : List State → ℕ → State → List State
with_state s b t = slice_set s b t

-- a mode's number puts the states of its three blades side by side
abbrev pub mode_of : List State → ℕ
mode_of s = 16 * state_number (state_at s 0) + 4 * state_number (state_at s 1) + state_number (state_at s 2)

-- and so its states are found in it again
abbrev pub blades_of : ℕ → List State
blades_of p = state_numbered (p / 16) ∷ state_numbered (p / 4) ∷ state_numbered p ∷ []
