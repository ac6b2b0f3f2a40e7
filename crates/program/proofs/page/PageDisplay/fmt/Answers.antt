use Rattle.std.proofs.Common.{◌++◌, map, get_or, vec_items, string_bytes, ◌∙◌, rules}
use Rattle.std.proofs.Output.{has_written_append}
use Rattle.reader.specs.Rows.{question_told}
use Rattle.reader.specs.declared.content.Letter.TheVariants.{Dwell}
use Rattle.reader.specs.declared.content.Question.{Question}
use Rattle.program.specs.Report.{question_line}
use Rattle.program.proofs.Lines.{lines_more}
use Rattle.program.proofs.page.PageDisplay.fmt.Goals as goal

pub loop-number-preserved : goal.loop-number-preserved
loop-number-preserved g c plain =
    let i = c.loop-number.number in
    let names = map string_bytes (vec_items c.args.self.now.0.now.names) in
    let questions = vec_items c.args.self.now.0.now.questions in
    let so_far = c.loop-number.invariant plain in
    -- what a place past the end would hold
    let none : Question = record { start = 0; watched = 0; letter = Dwell; k = 0 } in
    let line = question_line names i (question_told (get_or questions i none)) in
    (so_far.0 ++ line, has_written_append _ _ _ _ _ _ so_far.1 (rw (← c.deref.ensures.value, ← c.deref-question-items.ensures.value) (search rules)), lines_more names questions i none so_far.0 (search rules) ∙ so_far.2)
