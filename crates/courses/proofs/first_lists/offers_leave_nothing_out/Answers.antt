use Rattle.courses.proofs.Bounds.{bounded}
use Rattle.courses.proofs.Heart as heart
use Rattle.courses.proofs.first_lists.offers_leave_nothing_out.Goals as goal

pub returns : goal.returns
returns g c chart lawful s t ds first few =
    let laws = g.met.M.Measure.lawful in
    let x = chart.exit in
    let n = chart.modes in
    let bound = bounded chart lawful in
    record {
      next = heart.first_waiting_is_next laws x n bound s t ds first few;
      none_left = heart.none_waiting_is_all laws x n bound s t ds first few;
    }
