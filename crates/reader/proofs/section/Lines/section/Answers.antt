use Rattle.std.proofs.Common.{map, vec_items, arith}
use Rattle.std.proofs.lemmas.Result.{err_from_is_err_and, MatchResult-weaker}
use Rattle.reader.proofs.Sections.{count_refused, section_refused, section_read}
use Rattle.reader.proofs.section.Lines.section.Goals as goal

pub returns-in_err-count : goal.returns-in_err-count
returns-in_err-count g c =
    let T = g.T.Row in
    let p = err_from_is_err_and c.from_residual.result c.from_residual.ensures.1 in
    rw (p.1, p.2) (count_refused T.form c.args.modes T.LEAST T.MOST c.args.self.now.line c.args.self.now.rest.now c.in_err-count.field-0.0 c.in_err-count.ensures)

pub returns : goal.returns
returns g c =
    let T = g.T.Row in
    let counted = c.in_ok-count.ensures in
    MatchResult-weaker c.rows.result c.rows.ensures
    (λ v read. (section_read T.form c.args.modes T.LEAST T.MOST c.in_ok-count.count c.args.self.now.rest.now c.count.new.self.rest.now (map T.told (vec_items v)) c.rows.new.self.rest.now counted.0 read.0, let long = read.0.0 in let on = read.1 in let first = counted.1 in omega arith))
    (λ e refused. section_refused T.form c.args.modes T.LEAST T.MOST c.args.self.now.line c.in_ok-count.count c.args.self.now.rest.now c.count.new.self.rest.now e counted.0 (rw counted.1 at refused))
