-- A section of a file: its count on a line, then a line for each row.
use Rattle.std.specs.Prelude.{◌≡◌, ℕ, ◌+◌, ◌^◌, ◌<◌, ◌≤◌, if◌then◌else◌, ◌&&◌, List, [], ◌∷◌, ◌++◌, length, Some, None, decimal, nat_le}
use Rattle.reader.specs.declared.fault.Cause.{Cause}
use Rattle.reader.specs.declared.fault.Cause.TheVariants.{NotOfForm, OutOfRange, Short}
use Rattle.reader.specs.Lines.{Free, Cut, Form, Reads}

-- a line: its text, then byte 10, then what follows it
abbrev pub line : List ℕ → List ℕ → List ℕ
line text rest = text ++ 10 ∷ rest

-- the lines of the rows, then what follows them
abbrev pub lines : (F : Form) → List F.Row → List ℕ → List ℕ
lines F [] rest = rest
lines F (x ∷ xs) rest = line (F.text x) (lines F xs rest)

-- a section, then what follows it
abbrev pub section : (F : Form) → List F.Row → List ℕ → List ℕ
section F rows rest = line (decimal (length rows)) (lines F rows rest)

-- each row is well formed and has no slip after those before it
abbrev pub Fine : (F : Form) → ℕ → List F.Row → List F.Row → Type 0
Fine F modes before [] = Unit {0}
Fine F modes before (x ∷ xs) = F.Formed x × (F.slip modes before x ≡ None) × Fine F modes (before ++ x ∷ []) xs

-- the section has from least to most rows, all of them fine
abbrev pub Stands : (F : Form) → ℕ → ℕ → ℕ → List F.Row → Type 0
Stands F modes least most rows = (least ≤ length rows) × (length rows ≤ most) × Fine F modes [] rows

-- the next line, after the rows before it, holds the row x and is fine, and rest follows
abbrev pub LineRead : (F : Form) → ℕ → List F.Row → List ℕ → F.Row → List ℕ → Type 0
LineRead F modes before bytes x rest = (bytes ≡ line (F.text x) rest) × F.Formed x × (F.slip modes before x ≡ None)

-- the next n lines hold these rows, all fine, and rest follows
abbrev pub RowsRead : (F : Form) → ℕ → ℕ → List ℕ → List F.Row → List ℕ → Type 0
RowsRead F modes n bytes rows rest = (length rows ≡ n) × Fine F modes [] rows × (bytes ≡ lines F rows rest)

-- the bytes begin with the section of these rows, which stands, and rest follows
abbrev pub SectionRead : (F : Form) → ℕ → ℕ → ℕ → List ℕ → List F.Row → List ℕ → Type 0
SectionRead F modes least most bytes rows rest = Stands F modes least most rows × (bytes ≡ section F rows rest)

-- a count line: a number from least to most
abbrev pub count_form : ℕ → ℕ → Form
count_form least most = record { Row = ℕ; text = decimal; Formed = λ n. n < 2 ^ 32; slip = λ _ _ n. if nat_le least n && nat_le n most then None else Some OutOfRange }

-- why the next line is refused, after the rows before it: there is none, it is not of the form, or its row has a slip
pub data LineRefused (F : Form) (modes : ℕ) (before : List F.Row) (bytes : List ℕ) : Cause → Type 0 where
  no_line : Free 10 bytes → LineRefused F modes before bytes Short
  no_row : (text rest : List ℕ) → Cut 10 bytes text rest → Reads F text None → LineRefused F modes before bytes NotOfForm
  slips : (x : F.Row) (rest : List ℕ) (c : Cause) → bytes ≡ line (F.text x) rest → F.Formed x → F.slip modes before x ≡ Some c → LineRefused F modes before bytes c

-- why one of the next n rows is refused, on a line so far behind the first of them: fewer rows stand well, and the
-- line behind them is refused
pub data RowsRefused (F : Form) (modes n : ℕ) (bytes : List ℕ) : Cause → ℕ → Type 0 where
  at_row : (rows : List F.Row) (rest : List ℕ) (c : Cause) → length rows < n → Fine F modes [] rows → bytes ≡ lines F rows rest → LineRefused F modes rows rest c → RowsRefused F modes n bytes c (length rows)

-- why a section is refused, on a line so far behind its first: its count line is refused, or one of its rows
pub data SectionRefused (F : Form) (modes least most : ℕ) (bytes : List ℕ) : Cause → ℕ → Type 0 where
  at_count : (c : Cause) → LineRefused (count_form least most) 0 [] bytes c → SectionRefused F modes least most bytes c 0
  at_rows : (n : ℕ) (rest : List ℕ) (c : Cause) (behind : ℕ) → least ≤ n → n ≤ most → bytes ≡ line (decimal n) rest → RowsRefused F modes n rest c behind → SectionRefused F modes least most bytes c (1 + behind)
