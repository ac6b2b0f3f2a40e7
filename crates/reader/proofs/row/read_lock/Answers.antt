use Rattle.reader.proofs.Words.{field_once}
use Rattle.reader.proofs.row.read_lock.Goals as goal

pub returns-in_err-exit : goal.returns-in_err-exit
returns-in_err-exit c =
    rw c.from_residual-in_err-exit.ensures
    (λ x fits e0.
    let e1 = (field_once _ _ _ _ _ (fits.0, e0) c.in_ok-mode.ensures).1 in
    c.in_err-exit.ensures _ fits.1 e1)
