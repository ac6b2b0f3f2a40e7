use Rattle.courses.proofs.Bounds.{bounded}
use Rattle.courses.proofs.Chains as chains
use Rattle.courses.proofs.course_offers.chains_are_courses.Goals as goal

pub returns : goal.returns
returns g c chart lawful s t =
    chains.chains_are_courses g.met.M.Measure.lawful chart.exit chart.modes (bounded chart lawful) t s
