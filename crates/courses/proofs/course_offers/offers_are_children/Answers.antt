use Rattle.courses.proofs.Bounds.{bounded}
use Rattle.courses.proofs.Offers as offers
use Rattle.courses.proofs.OfferLists as lists
use Rattle.courses.proofs.course_offers.offers_are_children.Goals as goal

pub returns : goal.returns
returns g c chart lawful s t =
    let laws = g.met.M.Measure.lawful in
    let x = chart.exit in
    let n = chart.modes in
    let bound = bounded chart lawful in
    record {
      is_course = offers.is_course laws x n bound t s;
      one_more = offers.one_more laws x n bound t s;
      every_one = offers.every_one laws x n bound t s;
      offered = offers.offered laws x n bound t s;
      once = offers.once laws x n bound t s;
      after = offers.after laws x n bound t s;
      has_list = lists.has_list laws x n bound t s;
      one_list = lists.one_list;
    }
