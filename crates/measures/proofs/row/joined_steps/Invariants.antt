use Rattle.std.proofs.Common.{◌≡◌, drop}
use Rattle.measures.specs.Rows.{row_from}
use Rattle.measures.proofs.row.joined_steps.Given as goal

-- what is left of the row gives its value
abbrev pub invariant-loop-step : goal.invariant-loop-step
invariant-loop-step g l =
    let m = g.M.Measure.operations in
    row_from m l.value (drop l.step-index l.steps) ≡ row_from m m.nothing l.steps
