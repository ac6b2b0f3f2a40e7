use Rattle.reader.proofs.Words.{field_once, letter_once}
use Rattle.reader.proofs.row.read_question.Goals as goal

pub returns-in_err-watched : goal.returns-in_err-watched
returns-in_err-watched c =
    rw c.from_residual-in_err-watched.ensures
    (λ x fits e0.
    let e1 = (field_once _ _ _ _ _ (fits.0, e0) c.in_ok-start.ensures).1 in
    c.in_err-watched.ensures _ _ (fits.1, e1))

pub returns-in_err-letter : goal.returns-in_err-letter
returns-in_err-letter c =
    rw c.from_residual-in_err-letter.ensures
    (λ x fits e0.
    let e1 = (field_once _ _ _ _ _ (fits.0, e0) c.in_ok-start.ensures).1 in
    let e2 = (field_once _ _ _ _ _ (fits.1, e1) c.in_ok-watched.ensures).1 in
    c.in_err-letter.ensures x.letter _ e2)

pub returns-in_err-k : goal.returns-in_err-k
returns-in_err-k c =
    rw c.from_residual-in_err-k.ensures
    (λ x fits e0.
    let e1 = (field_once _ _ _ _ _ (fits.0, e0) c.in_ok-start.ensures).1 in
    let e2 = (field_once _ _ _ _ _ (fits.1, e1) c.in_ok-watched.ensures).1 in
    let e3 = letter_once _ x.letter _ _ _ e2 c.in_ok-letter.ensures in
    c.in_err-k.ensures _ fits.2 e3)
