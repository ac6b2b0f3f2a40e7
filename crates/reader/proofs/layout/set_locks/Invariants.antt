use Rattle.std.proofs.Common.{◌≡◌, drop}
use Rattle.charts.specs.LockMeaning.{locks_of}
use Rattle.reader.proofs.Layouts.{LeftToSet}
use Rattle.reader.proofs.layout.set_locks.Given as goal

abbrev pub invariant-loop-number : goal.invariant-loop-number
invariant-loop-number g l =
    (l.chart.below ≡ l.initial.chart.below)
    × LeftToSet (g.C.Chart.means l.initial.chart.below) (locks_of l.chart) (drop l.number l.locks) l.number (locks_of l.initial.chart) l.locks
