use Rattle.reader.proofs.Words.{no_field_uncut, no_field_word}
use Rattle.reader.proofs.text.field.Goals as goal

pub returns-in_err-word : goal.returns-in_err-word
returns-in_err-word c = rw c.from_residual.ensures (no_field_uncut _ c.in_err-word.ensures)

pub returns-in_err-number : goal.returns-in_err-number
returns-in_err-number c =
    rw c.from_residual-in_err-number.ensures (no_field_word _ _ _ c.in_ok-word.ensures c.in_err-number.ensures)
