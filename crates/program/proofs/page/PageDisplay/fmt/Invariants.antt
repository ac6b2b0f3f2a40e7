use Rattle.std.proofs.Common.{◌≡◌, ℕ, List, ◌++◌, map, string_bytes, vec_items, drop}
use Rattle.std.specs.Fmt.{IsPlainFormatter, HasWritten}
use Rattle.reader.specs.Rows.{question_told}
use Rattle.program.specs.Report.{question_lines, loaded_page}
use Rattle.program.proofs.page.PageDisplay.fmt.Given as goal

-- what is written so far, followed by the lines of the questions that are left, is the page
abbrev pub invariant-loop-number : goal.invariant-loop-number
invariant-loop-number g l =
    let loaded = l.self.0.now in
    IsPlainFormatter l.fn.f → (front : List ℕ) × HasWritten g.W.Write.write_str_gives l.fn.f front l.f × (front ++ question_lines (map string_bytes (vec_items loaded.names)) l.number (map question_told (drop l.number (vec_items loaded.questions))) ≡ loaded_page loaded)
