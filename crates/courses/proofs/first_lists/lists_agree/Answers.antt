use Rattle.courses.proofs.Lists as lists
use Rattle.courses.proofs.first_lists.lists_agree.Goals as goal

pub returns : goal.returns
returns g c = lists.lists_agree g.met.M.Measure.lawful
