use Rattle.courses.proofs.Bounds.{bounded}
use Rattle.courses.proofs.Direct as walks
use Rattle.courses.proofs.LeastCourses as least
use Rattle.courses.proofs.Settled as settled
use Rattle.courses.proofs.least_courses.least_courses_exist.Goals as goal

pub returns : goal.returns
returns g c chart lawful =
    let laws = g.met.M.Measure.lawful in
    let x = chart.exit in
    let n = chart.modes in
    let bound = bounded chart lawful in
    record {
      direct = walks.direct laws x n bound;
      least_or_dead = least.least_or_dead laws x n bound;
      before_long = settled.least_before_long laws x n bound;
      at_watched = settled.least_at_watched laws x;
      rest_is_least = settled.rest_is_least laws x n bound;
      least_is_settled = settled.least_is_settled laws x n bound;
      settled_is_least = settled.settled_is_least laws x n bound;
    }
