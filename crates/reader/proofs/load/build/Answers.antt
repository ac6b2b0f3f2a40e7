use Rattle.std.proofs.Common.{length, refl, ap, arith}
use Rattle.std.proofs.lemmas.Result.{err_from_is_err_and}
use Rattle.charts.specs.LockMeaning.{locks_of}
use Rattle.reader.proofs.Loads.{Laid, bounds, bad_lock, good_load}
use Rattle.reader.proofs.load.build.Goals as goal

pub invariant_of-table : goal.invariant_of-table
invariant_of-table c =
    let b = bounds c.args.content c.requires in
    record {
      few = omega (arith, ap length c.deref.ensures.value, b.exits);
      small = omega (arith, c.len-modes.ensures, b.modes);
      rising = rw c.deref.ensures.value b.rising;
    }

pub returns-in_err-set_locks : goal.returns-in_err-set_locks
returns-in_err-set_locks c =
    let p = err_from_is_err_and c.from_residual-in_err-set_locks.result c.from_residual-in_err-set_locks.ensures.1 in
    let told = c.in_err-set_locks.ensures.locks in
    let laid : Laid c.args.content c.len-modes.result c.len-exit_lines.result c.deref.result.now c.deref-2.result.now c.in_ok-table.table = record {
      modes_are = omega (arith, c.len-modes.ensures);
      exits_are = omega (arith, c.len-exit_lines.ensures);
      exits_same = c.deref.ensures.value;
      locks_same = c.deref-2.ensures.value;
      table = c.in_ok-table.ensures;
    } in
    rw (p.1, p.2) (bad_lock laid c.new-chart.result.below (locks_of c.new-chart.result) c.in_err-set_locks.field-0.0.fault _ c.new-chart.ensures.below c.new-chart.ensures.no_locks told.0 told.1)

pub returns : goal.returns
returns c =
    let told = c.in_ok-set_locks.ensures in
    let laid : Laid c.args.content c.len-modes.result c.len-exit_lines.result c.deref.result.now c.deref-2.result.now c.in_ok-table.table = record {
      modes_are = omega (arith, c.len-modes.ensures);
      exits_are = omega (arith, c.len-exit_lines.ensures);
      exits_same = c.deref.ensures.value;
      locks_same = c.deref-2.ensures.value;
      table = c.in_ok-table.ensures;
    } in
    good_load laid c.new-chart.result.below (locks_of c.new-chart.result) _ c.new-chart.ensures.below c.new-chart.ensures.no_locks told.locks.0 told.same_below told.locks.1 refl refl refl (omega (arith, c.len-lock_lines.ensures, ap length c.deref-2.ensures.value))
