-- Lines and words of a file, and the numbers on them.
use Rattle.std.specs.Prelude.{◌≡◌, ℕ, ◌^◌, ◌<◌, List, ◌∷◌, ◌++◌, Some, None, decimal, Option, ◌≢◌}
use Rattle.std.specs.List.{AllByRecursion}
use Rattle.reader.specs.declared.fault.Cause.{Cause}

-- the mark stands nowhere in the text
abbrev pub Free : ℕ → List ℕ → Type 0
Free mark text = AllByRecursion (λ b. b ≢ mark) text

-- front is what stands before the first mark of the text, and rest what stands behind it
abbrev pub Cut : ℕ → List ℕ → List ℕ → List ℕ → Type 0
Cut mark text front rest = Free mark front × (text ≡ front ++ mark ∷ rest)

-- What the lines of a section hold: the rows, each row's text (without the line's end), which rows are well formed,
-- and what is wrong with a well-formed row, given the number of modes and the rows before it.
pub record Form : Type 1 where
  pub Row : Type 0
  pub text : Row → List ℕ
  pub Formed : Row → Type 0
  pub slip : ℕ → List Row → Row → Option Cause

-- a line is read as the row whose text it is, and as none only if it is no row's text
abbrev pub Reads : (F : Form) → List ℕ → Option F.Row → Type 0
Reads F line None = (x : F.Row) → F.Formed x → F.text x ≢ line
Reads F line (Some x) = F.Formed x × (F.text x ≡ line)

-- a number by itself: base ten, no leading zeros, up to 4,294,967,295
abbrev pub number_form : Form
number_form = record { Row = ℕ; text = decimal; Formed = λ n. n < 2 ^ 32; slip = λ _ _ _. None }

-- the line begins with the number n, then one space, then rest
abbrev pub Field : List ℕ → ℕ → List ℕ → Type 0
Field line n rest = (n < 2 ^ 32) × (decimal n ++ 32 ∷ rest ≡ line)

-- the line does not begin with a number and a space
abbrev pub NoField : List ℕ → Type 0
NoField line = (n : ℕ) (rest : List ℕ) → Field line n rest → ⊥
