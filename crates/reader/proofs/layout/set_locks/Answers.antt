use Rattle.std.proofs.Common.{refl, ap, ◌∙◌}
use Rattle.reader.proofs.Layouts.{lock_more, lock_declined}
use Rattle.reader.proofs.layout.set_locks.Goals as goal

pub returns-in-Err-clause-locks : goal.returns-in-Err-clause-locks
returns-in-Err-clause-locks g c =
    let told = c.in-Err.ensures in
    (lock_declined _ _ _ _ c.args.locks.now c.loop-number.number (record { mode = 0; exit = 0 }) c.in-Err.fault c.loop-number-test.true (ap g.C.Chart.means c.loop-number.invariant.0) c.loop-number.invariant.1 told.answer, refl)

pub loop-number-preserved : goal.loop-number-preserved
loop-number-preserved g c =
    let told = c.in_default.ensures in
    (told.same_below ∙ c.loop-number.invariant.0, lock_more _ _ _ _ _ c.args.locks.now c.loop-number.number (record { mode = 0; exit = 0 }) c.loop-number-test.true (ap g.C.Chart.means c.loop-number.invariant.0) c.loop-number.invariant.1 told.answer told.locks)
