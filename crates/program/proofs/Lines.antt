-- The lines of the questions, one after the other.
use Rattle.std.proofs.Common.{◌≡◌, ℕ, ◌+◌, ◌<◌, List, ◌++◌, map, length, get_or, drop, sym, ap, ◌∙◌, append_assoc}
use Rattle.std.proofs.lemmas.List.{drop_more}
use Rattle.reader.specs.declared.content.Question.{Question}
use Rattle.reader.specs.Rows.{question_told}
use Rattle.program.specs.Report.{question_line, question_lines}

-- one question more
pub lines_more : (names : List (List ℕ)) (qs : List Question) (i : ℕ) (d : Question) (front : List ℕ) → i < length qs → (front ++ question_line names i (question_told (get_or qs i d))) ++ question_lines names (i + 1) (map question_told (drop (i + 1) qs)) ≡ front ++ question_lines names i (map question_told (drop i qs))
lines_more names qs i d front within =
    append_assoc front _ _ ∙ sym (ap (λ rest. front ++ question_lines names i (map question_told rest)) (drop_more qs i d within))
