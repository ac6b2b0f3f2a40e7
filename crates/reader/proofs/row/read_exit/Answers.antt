use Rattle.std.proofs.Common.{◌≡◌, ℕ, None, Ok, Err, Result, sym, ◌∙◌, arith}
use Rattle.std.specs.Result.{OkIff, result_ok}
use Rattle.reader.proofs.Words.{field_once}
use Rattle.reader.proofs.row.read_exit.Goals as goal

unfit : {E : Type 0} (r : Result ℕ E) (P : Type 0) (v : ℕ) → OkIff r P v → result_ok r ≡ None → P → ⊥
unfit (Ok x) P v h e p = cc
unfit (Err x) P v h e p = h p

pub returns-in_err-to : goal.returns-in_err-to
returns-in_err-to c =
    rw c.from_residual-in_err-to.ensures
    (λ x fits e0.
    let e1 = (field_once _ _ _ _ _ (fits.0, e0) c.in_ok-from.ensures).1 in
    c.in_err-to.ensures _ _ (fits.1, e1))

pub returns-in_err-faults : goal.returns-in_err-faults
returns-in_err-faults c =
    rw c.from_residual-in_err-faults.ensures
    (λ x fits e0.
    let e1 = (field_once _ _ _ _ _ (fits.0, e0) c.in_ok-from.ensures).1 in
    let e2 = (field_once _ _ _ _ _ (fits.1, e1) c.in_ok-to.ensures).1 in
    c.in_err-faults.ensures x.faults _ (omega (arith, fits.2), e2))

pub returns-in_err-dwell : goal.returns-in_err-dwell
returns-in_err-dwell c =
    rw c.from_residual-in_err-dwell.ensures
    (λ x fits e0.
    let e1 = (field_once _ _ _ _ _ (fits.0, e0) c.in_ok-from.ensures).1 in
    let e2 = (field_once _ _ _ _ _ (fits.1, e1) c.in_ok-to.ensures).1 in
    let e3 = (field_once _ x.faults _ _ _ (omega (arith, fits.2), e2) c.in_ok-faults.ensures).1 in
    c.in_err-dwell.ensures _ fits.3 e3)

pub returns-in_err-ok : goal.returns-in_err-ok
returns-in_err-ok c =
    rw c.from_residual-in_err-ok.ensures
    (λ x fits e0.
    let e1 = (field_once _ _ _ _ _ (fits.0, e0) c.in_ok-from.ensures).1 in
    let e2 = (field_once _ _ _ _ _ (fits.1, e1) c.in_ok-to.ensures).1 in
    let e3 = (field_once _ x.faults _ _ _ (omega (arith, fits.2), e2) c.in_ok-faults.ensures).0 in
    unfit _ _ _ c.try_from.ensures (sym c.ok.ensures.value ∙ c.in_err-ok.was) (omega arith))
