use Rattle.std.proofs.Common.{◌≡◌, ◌+◌, [], ◌∷◌, ◌++◌, map, vec_items, sym, ap, ◌∙◌, subst, arith, rules}
use Rattle.std.proofs.lemmas.List.{map_push}
use Rattle.std.proofs.lemmas.Result.{err_from_is_err_and}
use Rattle.reader.specs.Sections.{RowsRead}
use Rattle.reader.proofs.Sections.{rows_more, rows_refused}
use Rattle.reader.proofs.section.Lines.rows.Goals as goal

pub loop-preserved : goal.loop-preserved
loop-preserved g c =
    let T = g.T.Row in
    let pushed : vec_items c.push.new.self ≡ vec_items c.loop.rows ++ c.in_ok-row.row ∷ [] = search rules in
    let told = ap (map T.told) pushed ∙ map_push T.told (vec_items c.loop.rows) c.in_ok-row.row in
    let read = rw c.deref.ensures.value at c.in_ok-row.ensures in
    record {
      line = let on = read.1 in let so_far = c.loop.invariant.line in omega arith;
      read = subst
          (λ rows. RowsRead T.form c.args.modes (c.loop.counter + 1) c.args.self.now.rest.now rows c.row.new.self.rest.now)
          (sym told)
          (rows_more T.form c.args.modes c.loop.counter c.args.self.now.rest.now (map T.told (vec_items c.loop.rows)) c.loop.self.rest.now (T.told c.in_ok-row.row) c.row.new.self.rest.now c.loop.invariant.read read.0);
    }

pub returns-in_err-row : goal.returns-in_err-row
returns-in_err-row g c =
    let T = g.T.Row in
    let p = err_from_is_err_and c.from_residual.result c.from_residual.ensures.1 in
    let refused = rw (c.deref.ensures.value, c.loop.invariant.line) at c.in_err-row.ensures in
    rw (p.1, p.2) (rows_refused T.form c.args.modes c.args.count c.loop.counter c.args.self.now.line c.args.self.now.rest.now (map T.told (vec_items c.loop.rows)) c.loop.self.rest.now c.in_err-row.field-0.0 c.loop.invariant.read (omega arith) refused)
