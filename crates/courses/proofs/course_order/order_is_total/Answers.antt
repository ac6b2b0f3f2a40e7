use Rattle.courses.proofs.Order as order
use Rattle.courses.proofs.Fronts.{before_front}
use Rattle.courses.proofs.course_order.order_is_total.Goals as goal

pub returns : goal.returns
returns g c =
    let laws = g.met.M.Measure.lawful in
    record {
      strict = order.before_never laws;
      carries = order.before_through laws;
      total = order.before_either laws;
      fronts_keep = before_front laws;
    }
