-- The number of each refusal, the place that it names, and its text.
use Rattle.std.specs.Prelude.{ℕ, List, [], ◌++◌, Some, None, Option, codes, decimal}
use Rattle.charts.specs.declared.fault.ChartFault.{ChartFault}
use Rattle.charts.specs.declared.fault.ChartFault.TheVariants.{OffsetCount, BadOffset, UnknownTarget}
use Rattle.charts.specs.declared.fault.LockFault.{LockFault}
use Rattle.charts.specs.declared.fault.LockFault.TheVariants.{UnknownMode, UnknownExit, LocksFull}

-- the number of a table's refusal
abbrev pub chart_number : ChartFault → ℕ
chart_number OffsetCount = 10
chart_number (BadOffset i) = 11
chart_number (UnknownTarget j) = 12

-- the offset or the entry at fault
abbrev pub chart_place : ChartFault → Option ℕ
chart_place OffsetCount = None
chart_place (BadOffset i) = Some i
chart_place (UnknownTarget j) = Some j

-- the number of a lock's refusal, which names no place
abbrev pub lock_number : LockFault → ℕ
lock_number UnknownMode = 20
lock_number UnknownExit = 21
lock_number LocksFull = 22

-- the place of a table's refusal, by its word
abbrev pub chart_place_text : ChartFault → List ℕ
chart_place_text OffsetCount = []
chart_place_text (BadOffset i) = codes " offset " ++ decimal i
chart_place_text (UnknownTarget j) = codes " entry " ++ decimal j

-- a table's refusal: its number and place
abbrev pub chart_text : ChartFault → List ℕ
chart_text f = codes "chart " ++ (decimal (chart_number f) ++ chart_place_text f)

-- a lock's refusal: its number
abbrev pub lock_text : LockFault → List ℕ
lock_text f = codes "lock " ++ decimal (lock_number f)
