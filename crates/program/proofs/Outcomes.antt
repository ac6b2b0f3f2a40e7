-- What is reported on a file that reads well, from its modes, exit lines and lock lines: one text.
use Rattle.std.proofs.Common.{◌≡◌, ℕ, ◌+◌, List, [], map, length, Some, None, Option, sym, ap, ◌∙◌}
use Rattle.std.proofs.lemmas.Option.{none-some}
use Rattle.charts.specs.Faults.{lock_number}
use Rattle.charts.specs.Meaning.{Meaning}
use Rattle.charts.specs.Tables.{table_meaning, AnswerOfTable}
use Rattle.charts.specs.declared.fault.ChartFault.{ChartFault}
use Rattle.charts.specs.declared.fault.LockFault.{LockFault}
use Rattle.reader.specs.Layout.{offsets_of, lead_of, chart_line as line_of, AllSet, Declined}
use Rattle.reader.specs.declared.content.ExitLine.{ExitLine}
use Rattle.reader.specs.declared.content.LockLine.{LockLine}
use Rattle.program.specs.Report.{chart_line, lock_line}
use Rattle.program.proofs.LockAnswers.{none_declined, declined_once}

-- the check of the table that the exit lines lay out finds this
abbrev pub Laid : ℕ → List ExitLine → Option ChartFault → Type 0
Laid modes exits a = AnswerOfTable (offsets_of modes exits) (map lead_of exits) a

-- what that table means
abbrev pub laid : ℕ → List ExitLine → Meaning
laid modes exits = table_meaning (offsets_of modes exits) (map lead_of exits)

-- the page, where the table is sound and the locks are accepted; else the line of the table's fault, or of the first
-- lock that is declined
pub data Outcome (modes : ℕ) (exits : List ExitLine) (locks : List LockLine) (page text : List ℕ) : Type 0 where
  well : Laid modes exits None → AllSet (laid modes exits) [] locks → text ≡ page → Outcome modes exits locks page text
  no_chart : (f : ChartFault) → Laid modes exits (Some f) → text ≡ chart_line f (line_of modes f) → Outcome modes exits locks page text
  no_lock : (i : ℕ) (f : LockFault) → Laid modes exits None → Declined (laid modes exits) [] locks i f → text ≡ lock_line (lock_number f) i (modes + length exits + 4 + i) → Outcome modes exits locks page text

module _ (modes : ℕ) (exits : List ExitLine) where
  -- a table is not both sound and refused
  not_both : (f : ChartFault) → Laid modes exits None → Laid modes exits (Some f) → ⊥
  not_both f sound bad = none-some f (bad.1 None sound.0)

  one_fault : (f g : ChartFault) → Laid modes exits (Some f) → Laid modes exits (Some g) → f ≡ g
  one_fault f g bad other = let e : Some f ≡ Some g = other.1 (Some f) bad.0 in cc

  pub one_outcome : (locks : List LockLine) (page a b : List ℕ) → Outcome modes exits locks page a → Outcome modes exits locks page b → a ≡ b
  one_outcome locks page a b (well s l e) (well s' l' e') = e ∙ sym e'
  one_outcome locks page a b (well s l e) (no_chart f bad e') = absurd (not_both f s bad)
  one_outcome locks page a b (well s l e) (no_lock i f s' bad e') = absurd (none_declined (laid modes exits) [] locks i f l bad)
  one_outcome locks page a b (no_chart f bad e) (well s l e') = absurd (not_both f s bad)
  one_outcome locks page a b (no_chart f bad e) (no_chart g bad' e') = e ∙ ap (λ h. chart_line h (line_of modes h)) (one_fault f g bad bad') ∙ sym e'
  one_outcome locks page a b (no_chart f bad e) (no_lock i g s bad' e') = absurd (not_both f s bad)
  one_outcome locks page a b (no_lock i f s bad e) (well s' l e') = absurd (none_declined (laid modes exits) [] locks i f l bad)
  one_outcome locks page a b (no_lock i f s bad e) (no_chart g bad' e') = absurd (not_both g s bad')
  one_outcome locks page a b (no_lock i f s bad e) (no_lock j g s' bad' e') =
      let r = declined_once (laid modes exits) [] locks i j f g bad bad' in
      e ∙ (λ k. lock_line (lock_number (r.1 k)) (r.0 k) (modes + length exits + 4 + r.0 k)) ∙ sym e'
