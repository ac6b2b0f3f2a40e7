use Rattle.std.proofs.Common.{ap}
use Rattle.measures.specs.declared.step.Step.{Step}
use Rattle.charts.specs.declared.blade.Turn.{Turn}
use Rattle.charts.proofs.Steps.{same_step_of}
use Rattle.charts.proofs.blade.Turn.to.Goals as goal

pub returns : goal.returns
returns c =
    let by : Step → Turn = λ s. record { to = c.args.to; step = s } in
    ap by (same_step_of c.new.result c.args.faults c.args.dwell c.new.ensures.faults c.new.ensures.dwell)
