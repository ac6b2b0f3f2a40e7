use Rattle.std.proofs.Common.{◌≡◌, ◌+◌, map, vec_items}
use Rattle.reader.specs.Sections.{RowsRead}
use Rattle.reader.proofs.section.Lines.rows.Given as goal

abbrev pub invariant-loop : goal.invariant-loop
invariant-loop g l =
    record {
      line : l.self.line ≡ l.fn.self.line + l.counter;
      read : RowsRead g.T.Row.form l.modes l.counter l.fn.self.rest.now (map g.T.Row.told (vec_items l.rows)) l.self.rest.now;
    }
