use Rattle.std.proofs.Common.{sym, refl}
use Rattle.std.proofs.lemmas.Result.{err_from_is_err_and}
use Rattle.reader.specs.Sections.{no_row, slips}
use Rattle.reader.proofs.Sections.{at_none, no_next, line_is}
use Rattle.reader.proofs.section.Lines.row.Goals as goal

pub returns-in_err-text : goal.returns-in_err-text
returns-in_err-text g c =
    let p = err_from_is_err_and c.from_residual.result c.from_residual.ensures.1 in
    rw (p.1, p.2) (no_next _ _ _ _ _ _ c.in_err-text.ensures)

pub returns-in_err-row : goal.returns-in_err-row
returns-in_err-row g c =
    let p = err_from_is_err_and c.from_residual-in_err-row.result c.from_residual-in_err-row.ensures.1 in
    let n = at_none c.in_ok-read.field-0 _ _ _ c.ok_or.ensures.value c.in_err-row.was in
    rw (p.1, p.2, n.1, c.refused.ensures) (refl, no_row _ _ c.in_ok-text.ensures.0 (rw n.0 at c.in_ok-read.ensures))

pub returns-in-Err : goal.returns-in-Err
returns-in-Err g c =
    let reads = rw c.in_ok-row.ensures.ok_part at c.in_ok-read.ensures in
    rw c.refused-in-Err.ensures
    (refl, slips (g.T.Row.told c.in_ok-row.row) c.in_ok-text.behind.rest.now _ (line_is _ _ _ _ c.in_ok-text.ensures.0 reads.1) reads.0 (sym c.in-Err.ensures))
