use Rattle.std.proofs.Common.{◌≡◌, ◌<◌, length, get_or, rules}
use Rattle.reader.proofs.Words.{number_read, no_number_empty, no_number_zero}
use Rattle.reader.proofs.text.number.Goals as goal
use Rattle.reader.proofs.text.number.Goals.{in_default-via-then-word-lt2, in_default-via-else-word-lt2+in_default-1}

pub returns-in_default : goal.returns-in_default
returns-in_default c =
    let some : 0 < length c.args.word.now = search rules in
    let lead : get_or c.args.word.now 0 0 ≡ 48 → length c.args.word.now ≡ 1 =
    elim c.in_default.branch [
      | in_default-via-then-word-lt2 w ↦ search rules
      | in_default-via-else-word-lt2+in_default-1 w ↦ search rules
    ] in
    number_read _ _ some lead c.digits_value.ensures

pub returns-in-empty : goal.returns-in-empty
returns-in-empty c = no_number_empty _ (search rules)

pub returns-in-empty-2 : goal.returns-in-empty-2
returns-in-empty-2 c = no_number_zero _ (search rules) (search rules)
