use Rattle.std.proofs.Common.{refl, inl, inr, ◌⊎◌, ◌<◌, ◌≤◌, rules}
use Rattle.std.proofs.lemmas.Result.{err_from_is_err_and}
use Rattle.reader.specs.Sections.{no_row, slips}
use Rattle.reader.proofs.Sections.{at_none, no_next, line_is, out_of_range}
use Rattle.reader.proofs.section.Lines.count.Goals as goal
use Rattle.reader.proofs.section.Lines.count.Goals.{then-count-LEAST-via-then-count-LEAST, then-count-LEAST-via-else-count-LEAST+then-count-MOST}

pub returns-in_err-text : goal.returns-in_err-text
returns-in_err-text g c =
    let p = err_from_is_err_and c.from_residual.result c.from_residual.ensures.1 in
    rw (p.1, p.2) (no_next _ _ _ _ _ _ c.in_err-text.ensures)

pub returns-in_err-count : goal.returns-in_err-count
returns-in_err-count g c =
    let p = err_from_is_err_and c.from_residual-in_err-count.result c.from_residual-in_err-count.ensures.1 in
    let n = at_none c.number.result _ _ _ c.ok_or.ensures.value c.in_err-count.was in
    rw (p.1, p.2, n.1, c.refused.ensures) (refl, no_row _ _ c.in_ok-text.ensures.0 (rw n.0 at c.number.ensures))

pub returns-then-count-LEAST : goal.returns-then-count-LEAST
returns-then-count-LEAST g c =
    let reads = rw c.in_ok-count.ensures.ok_part at c.number.ensures in
    let count = c.in_ok-count.count in
    let least = g.T.Row.LEAST in
    let most = g.T.Row.MOST in
    let out : (count < least) ⊎ ((least ≤ count) × (most < count)) =
    elim c.then-count-LEAST.branch [
      | then-count-LEAST-via-then-count-LEAST w ↦ inl (search rules)
      | then-count-LEAST-via-else-count-LEAST+then-count-MOST w ↦ inr (search rules, search rules)
    ] in
    rw c.refused-then-count-LEAST.ensures
    (refl, slips count c.in_ok-text.behind.rest.now _ (line_is _ _ _ _ c.in_ok-text.ensures.0 reads.1) reads.0 (out_of_range least most count out))
