use Rattle.std.proofs.Common.{ℕ, List, ◌∙◌, inl, inr}
use Rattle.std.proofs.lemmas.Result.{IfOk-weaker}
use Rattle.program.specs.Report.{Reported, ReportedAs}
use Rattle.program.proofs.OneReport.{one_report}
use Rattle.program.proofs.Pages.{loaded_is_page}
use Rattle.program.proofs.report.report.Goals as goal

-- what is reported is the only report
only : (bytes text : List ℕ) → Reported bytes text → ReportedAs bytes text
only bytes text h = (h, λ other k. one_report bytes other text k h)

pub returns-in-Ok : goal.returns-in-Ok
returns-in-Ok c =
    let said = c.in-Ok.ensures.loaded in
    record { reported = IfOk-weaker c.to_string.result _ _ (λ t h. only _ _ (inl (said.0, said.1, (said.2.sound, said.2.accepted), h ∙ loaded_is_page said.0 c.in-Ok.loaded said.2))) c.to_string.ensures.ok }

pub returns-in-Err : goal.returns-in-Err
returns-in-Err c =
    let refusal = c.in-Err.ensures.refusal in
    record { reported = IfOk-weaker c.fault_line.result _ _ (λ t h. only _ _ (inr (c.in-Err.fault, refusal, h))) c.fault_line.ensures }
