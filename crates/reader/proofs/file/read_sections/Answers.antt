use Rattle.std.proofs.Common.{vec_items, string_bytes, arith}
use Rattle.std.proofs.lemmas.List.{length-map}
use Rattle.std.proofs.lemmas.Result.{err_from_is_err_and}
use Rattle.reader.proofs.Files.{in_locks, in_questions, behind_names, behind_exits, behind_locks, behind_questions, some_left}
use Rattle.reader.proofs.file.read_sections.Goals as goal

pub returns-in_err-locks : goal.returns-in_err-locks
returns-in_err-locks c =
    let p = err_from_is_err_and c.from_residual-in_err-locks.result c.from_residual-in_err-locks.ensures.1 in
    let e = c.in_err-locks.field-0.0 in
    rw (p.1, p.2) (behind_names _ _ c.len-modes.result _ _ e (omega (arith, c.len-modes.ensures, length-map (vec_items c.in_ok-names.names) string_bytes)) c.in_ok-names.ensures (behind_exits _ _ _ _ _ _ e c.in_ok-exits.ensures (in_locks _ _ _ e c.in_err-locks.ensures)))

pub returns-in_err-questions : goal.returns-in_err-questions
returns-in_err-questions c =
    let p = err_from_is_err_and c.from_residual-in_err-questions.result c.from_residual-in_err-questions.ensures.1 in
    let e = c.in_err-questions.field-0.0 in
    rw (p.1, p.2) (behind_names _ _ c.len-modes.result _ _ e (omega (arith, c.len-modes.ensures, length-map (vec_items c.in_ok-names.names) string_bytes)) c.in_ok-names.ensures (behind_exits _ _ _ _ _ _ e c.in_ok-exits.ensures (behind_locks _ _ _ _ _ _ e c.in_ok-locks.ensures (in_questions _ _ _ e c.in_err-questions.ensures))))

pub returns-then-not-is_empty : goal.returns-then-not-is_empty
returns-then-not-is_empty c =
    let e = c.refused.result in
    behind_names _ _ c.len-modes.result _ _ e (omega (arith, c.len-modes.ensures, length-map (vec_items c.in_ok-names.names) string_bytes)) c.in_ok-names.ensures (behind_exits _ _ _ _ _ _ e c.in_ok-exits.ensures (behind_locks _ _ _ _ _ _ e c.in_ok-locks.ensures (behind_questions _ _ _ _ _ _ e c.in_ok-questions.ensures c.refused.ensures (some_left _ c.if-not-is_empty.ensures))))
