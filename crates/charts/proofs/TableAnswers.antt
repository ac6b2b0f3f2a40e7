-- A table has one answer: it is a chart, or it is refused for one fault at one place.
use Rattle.std.proofs.Common.{◌≡◌, ℕ, ◌<◌, List, length, Some, None, Option, refl, ap, ⊎_elim}
use Rattle.std.proofs.lemmas.Bool.{cases_order}
use Rattle.charts.specs.Tables.{table_modes, GoodOffset, KnownTarget, CheckedTable, AnswerOfTable}
use Rattle.charts.specs.declared.fault.ChartFault.{ChartFault}
use Rattle.charts.specs.declared.fault.ChartFault.TheVariants.{OffsetCount, BadOffset, UnknownTarget}
use Rattle.charts.specs.declared.lead.Lead.{Lead}

-- the least number without a property is one number
same_least : (P : ℕ → Type 0) (i j : ℕ) → (P i → ⊥) → ((k : ℕ) → k < i → P k) → (P j → ⊥) → ((k : ℕ) → k < j → P k) → j ≡ i
same_least P i j not-i below-i not-j below-j =
    ⊎_elim (λ e. e) (⊎_elim (λ h. absurd (not-j (below-i j h))) (λ h. absurd (not-i (below-j i h)))) (cases_order j i)

module _ (os : List ℕ) (es : List Lead) where
  one_answer : (a b : Option ChartFault) → CheckedTable os es a → CheckedTable os es b → b ≡ a
  one_answer None None sound found = refl
  one_answer None (Some OffsetCount) sound found = absurd (found sound.0)
  one_answer None (Some (BadOffset i)) sound found = absurd (found.1.1 (sound.1 i found.1.0))
  one_answer None (Some (UnknownTarget j)) sound found = absurd (found.2.1 (sound.2 j found.2.0))
  one_answer (Some OffsetCount) None found sound = absurd (found sound.0)
  one_answer (Some OffsetCount) (Some OffsetCount) found other = refl
  one_answer (Some OffsetCount) (Some (BadOffset i)) found other = absurd (found other.0)
  one_answer (Some OffsetCount) (Some (UnknownTarget j)) found other = absurd (found other.0)
  one_answer (Some (BadOffset i)) None found sound = absurd (found.1.1 (sound.1 i found.1.0))
  one_answer (Some (BadOffset i)) (Some OffsetCount) found other = absurd (other found.0)
  one_answer (Some (BadOffset i)) (Some (BadOffset j)) found other =
      ap (λ k. Some (BadOffset k)) (same_least (GoodOffset os (length es)) i j found.1.1 found.1.2 other.1.1 other.1.2)
  one_answer (Some (BadOffset i)) (Some (UnknownTarget j)) found other = absurd (found.1.1 (other.1 i found.1.0))
  one_answer (Some (UnknownTarget i)) None found sound = absurd (found.2.1 (sound.2 i found.2.0))
  one_answer (Some (UnknownTarget i)) (Some OffsetCount) found other = absurd (other found.0)
  one_answer (Some (UnknownTarget i)) (Some (BadOffset j)) found other = absurd (other.1.1 (found.1 j other.1.0))
  one_answer (Some (UnknownTarget i)) (Some (UnknownTarget j)) found other =
      ap (λ k. Some (UnknownTarget k))
      (same_least (KnownTarget (table_modes os) es) i j found.2.1 found.2.2 other.2.1 other.2.2)

  pub answer_from_checked : (a : Option ChartFault) → CheckedTable os es a → AnswerOfTable os es a
  answer_from_checked a found = (found, (λ b other. one_answer a b found other))
