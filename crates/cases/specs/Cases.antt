-- Worked cases: small charts, and the courses that they have.
use Rattle.std.specs.Prelude.{◌≡◌, ℕ, if◌then◌else◌, T, List, [], ◌∷◌, map, Some, None, nat_le}
use Rattle.std.proofs.Common.{lit≤}
use Rattle.std.specs.List.{slice_get}
use Rattle.std.specs.Option.{option_and_then}
use Rattle.measures.specs.Operations.{Operations}
use Rattle.measures.specs.Values.{dwell, faults_first}
use Rattle.charts.specs.LockMeaning.{lock_on}
use Rattle.charts.specs.Locks.{locked}
use Rattle.charts.specs.declared.lead.Lead.{Lead}
use Rattle.courses.specs.Courses.{Exits, Course, Leads, modes_along, value_of, Dead, Detour, ChainOf, OffersInOrder, Listed, FirstCourses}

-- an open exit to a mode, by a step of so many faults and milliseconds
abbrev pub lead : (to faults ms : ℕ) → T (nat_le faults 255) → T (nat_le ms 4294967295) → Lead
lead to faults ms few short = record { to = to; step = record { faults = faults; dwell = ms; few = lit≤ few; short = lit≤ short } }

-- the chart with a row of open exits for each mode
abbrev pub chart : List (List Lead) → Exits
chart rows p e = option_and_then (λ row. slice_get row e) (slice_get rows p)

-- two modes with a way back between them, each with an exit to mode 2
abbrev pub hub : Exits
hub = chart ((lead 1 1 200 tt tt ∷ lead 2 2 50 tt tt ∷ []) ∷ (lead 0 0 500 tt tt ∷ lead 2 0 300 tt tt ∷ []) ∷ [] ∷ [])

-- the hub with exit 1 of mode 0 locked
abbrev pub hub_locked : Exits
hub_locked p e = if locked (lock_on 0 1 ∷ []) p e then None else hub p e

-- two equal exits of mode 0 to mode 1
abbrev pub pair : Exits
pair = chart ((lead 1 0 10 tt tt ∷ lead 1 0 10 tt tt ∷ []) ∷ [] ∷ [])

-- two modes with two equal exits to mode 1 each
abbrev pub twins : Exits
twins = chart ((lead 1 0 10 tt tt ∷ lead 1 0 10 tt tt ∷ []) ∷ (lead 1 0 10 tt tt ∷ lead 1 0 10 tt tt ∷ []) ∷ [])

-- a mode with an exit to itself that dwells no time
abbrev pub loop : Exits
loop = chart ((lead 0 0 0 tt tt ∷ []) ∷ [])

-- the rows are the first courses from s to t, each with its value
pub record Begins {V : Type 0} (m : Operations V) (x : Exits) (s t : ℕ) (rows : List (Course × V)) : Type 0 where
  pub first : FirstCourses m x s t (map (λ r. r.0) rows)
  pub values : map (λ r. value_of m x s r.0) rows ≡ map (λ r. Some r.1) rows

-- and there is no other course
abbrev pub Ends : Exits → (s t : ℕ) → List Course → Type 0
Ends x s t ds = (a : Course) → Leads x s t a → Listed a ds

pub record WorkedCases : Type 0 where
  -- the hub by each measure, and with its short way locked
  pub by_dwell : Begins dwell hub 0 2 ((1 ∷ [], 50) ∷ (0 ∷ 1 ∷ [], 500) ∷ (0 ∷ 0 ∷ 1 ∷ [], 750) ∷ [])
  pub by_faults : Begins faults_first hub 0 2 ((0 ∷ 1 ∷ [], record { faults = 1; ms = 500 }) ∷ (1 ∷ [], record { faults = 2; ms = 50 }) ∷ (0 ∷ 0 ∷ 0 ∷ 1 ∷ [], record { faults = 2; ms = 1200 }) ∷ [])
  pub locked_way : Begins dwell hub_locked 0 2 ((0 ∷ 1 ∷ [], 500) ∷ (0 ∷ 0 ∷ 0 ∷ 1 ∷ [], 1200) ∷ [])
  -- one course of the hub has another chain by each measure
  pub chain_by_dwell : ChainOf dwell hub 2 0 (0 ∷ 0 ∷ 1 ∷ []) ((0, 0) ∷ (1, 0) ∷ [])
  pub chain_by_faults : ChainOf faults_first hub 2 0 (0 ∷ 0 ∷ 1 ∷ []) ((1, 0) ∷ (2, 1) ∷ [])
  -- its modes on the way, and an exit to a dead mode, which is no detour
  pub modes_met : modes_along hub 0 (0 ∷ 0 ∷ 1 ∷ []) ≡ 0 ∷ 1 ∷ 0 ∷ 2 ∷ []
  pub dead_end : Detour dwell hub 1 0 1 → ⊥
  -- offers stand by their positions, then by their exits
  pub offers_listed : OffersInOrder dwell twins 1 0 (0 ∷ []) ((0, 1, 1 ∷ []) ∷ (1, 0, 0 ∷ 0 ∷ []) ∷ (1, 1, 0 ∷ 1 ∷ []) ∷ [])
  -- of two equal exits the lower comes first, and there is no third course
  pub equal_exits : Begins dwell pair 0 1 ((0 ∷ [], 10) ∷ (1 ∷ [], 10) ∷ [])
  pub no_third : Ends pair 0 1 ((0 ∷ []) ∷ (1 ∷ []) ∷ [])
  -- where the start is watched and no exit is open, the empty course is the only one
  pub start_watched : Begins dwell (chart ([] ∷ [])) 0 0 (([], 0) ∷ [])
  pub no_second : Ends (chart ([] ∷ [])) 0 0 ([] ∷ [])
  -- courses of one value: fewer steps first
  pub idle_loop : Begins dwell loop 0 0 (([], 0) ∷ (0 ∷ [], 0) ∷ (0 ∷ 0 ∷ [], 0) ∷ [])
  -- a watched mode that no exit leads to
  pub out_of_reach : Dead (chart ([] ∷ [] ∷ [])) 1 0
