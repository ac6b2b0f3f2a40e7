use Rattle.measures.proofs.Rows as rows
use Rattle.measures.proofs.row.row_value.Goals as goal

pub returns : goal.returns
returns g c =
    let laws = g.met.M.Measure.lawful in
    record {
      value = c.joined_steps.ensures;
      rows_exist = rows.rows_exist laws;
      rows_join = rows.rows_join laws;
      one_value = rows.one_value laws;
      fronts_keep = rows.fronts_keep laws;
      ends_keep = rows.ends_keep laws;
      nothing_least = rows.nothing_least laws;
      joins_grow = rows.joins_grow laws;
    }
