-- The rows of the four sections: what a line of each holds, and how it is written.
use Rattle.std.specs.Prelude.{◌≡◌, ℕ, ◌^◌, ◌<◌, ◌≤◌, Bool, true, if◌then◌else◌, ◌&&◌, ◌||◌, List, [], ◌∷◌, ◌++◌, length, Some, None, decimal, Option, ◌==◌, nat_le, nat_lt}
use Rattle.std.specs.List.{AllByRecursion}
use Rattle.reader.specs.declared.content.ExitLine.{ExitLine}
use Rattle.reader.specs.declared.content.LockLine.{LockLine}
use Rattle.reader.specs.declared.content.Question.{Question}
use Rattle.reader.specs.declared.content.Letter.{Letter}
use Rattle.reader.specs.declared.content.Letter.TheVariants.{Dwell, FaultsFirst}
use Rattle.reader.specs.declared.fault.Cause.{Cause}
use Rattle.reader.specs.declared.fault.Cause.TheVariants.{OutOfRange, FromMode}
use Rattle.reader.specs.Lines.{Form}

-- a byte of a name: a to z, 0 to 9 or a hyphen
abbrev pub name_byte : ℕ → Bool
name_byte b = (nat_le 97 b && nat_le b 122) || ((nat_le 48 b && nat_le b 57) || b == 45)

-- a name: 1 to 16 such bytes
abbrev pub Name : List ℕ → Type 0
Name name = (1 ≤ length name) × (length name ≤ 16) × AllByRecursion (λ b. name_byte b ≡ true) name

-- mode lines: a name each
abbrev pub name_form : Form
name_form = record { Row = List ℕ; text = λ name. name; Formed = Name; slip = λ _ _ _. None }

-- exit lines: the mode left, the mode led to, faults and dwell
pub record Exit : Type 0 where
  pub from : ℕ
  pub to : ℕ
  pub faults : ℕ
  pub dwell : ℕ

abbrev pub exit_told : ExitLine → Exit
exit_told x = record { from = x.from; to = x.to; faults = x.step.faults; dwell = x.step.dwell }

abbrev pub exit_text : Exit → List ℕ
exit_text x = decimal x.from ++ 32 ∷ (decimal x.to ++ 32 ∷ (decimal x.faults ++ 32 ∷ decimal x.dwell))

abbrev pub ExitFits : Exit → Type 0
ExitFits x = (x.from < 2 ^ 32) × (x.to < 2 ^ 32) × (x.faults < 256) × (x.dwell < 2 ^ 32)

-- the mode left in the last of these exit lines, or 0 if there is none
abbrev pub last_from : ℕ → List Exit → ℕ
last_from n [] = n
last_from n (x ∷ xs) = last_from x.from xs

-- the mode left is one of the modes and not below that of the exit line before
abbrev pub exit_slip : ℕ → List Exit → Exit → Option Cause
exit_slip modes before x = if nat_lt x.from modes && nat_le (last_from 0 before) x.from then None else Some FromMode

abbrev pub exit_form : Form
exit_form = record { Row = Exit; text = exit_text; Formed = ExitFits; slip = exit_slip }

-- lock lines: mode and exit
pub record Lock : Type 0 where
  pub mode : ℕ
  pub exit : ℕ

abbrev pub lock_told : LockLine → Lock
lock_told x = record { mode = x.mode; exit = x.exit }

abbrev pub lock_text : Lock → List ℕ
lock_text x = decimal x.mode ++ 32 ∷ decimal x.exit

abbrev pub LockFits : Lock → Type 0
LockFits x = (x.mode < 2 ^ 32) × (x.exit < 2 ^ 32)

abbrev pub lock_form : Form
lock_form = record { Row = Lock; text = lock_text; Formed = LockFits; slip = λ _ _ _. None }

-- question lines: start, watched, the measure's letter and how many courses
pub record Asked : Type 0 where
  pub start : ℕ
  pub watched : ℕ
  pub letter : Letter
  pub k : ℕ

abbrev pub question_told : Question → Asked
question_told x = record { start = x.start; watched = x.watched; letter = x.letter; k = x.k }

-- d for dwell, f for faults first
abbrev pub letter_byte : Letter → ℕ
letter_byte Dwell = 100
letter_byte FaultsFirst = 102

-- the letter as a text
abbrev pub letter_text : Letter → List ℕ
letter_text letter = letter_byte letter ∷ []

-- the line begins with the letter, then one space, then rest
abbrev pub LetterField : List ℕ → Letter → List ℕ → Type 0
LetterField line l rest = letter_byte l ∷ 32 ∷ rest ≡ line

-- the line does not begin with a letter and a space
abbrev pub NoLetterField : List ℕ → Type 0
NoLetterField line = (l : Letter) (rest : List ℕ) → LetterField line l rest → ⊥

abbrev pub question_text : Asked → List ℕ
question_text x = decimal x.start ++ 32 ∷ (decimal x.watched ++ 32 ∷ (letter_byte x.letter ∷ 32 ∷ decimal x.k))

abbrev pub AskedFits : Asked → Type 0
AskedFits x = (x.start < 2 ^ 32) × (x.watched < 2 ^ 32) × (x.k < 2 ^ 32)

-- k is at most 99
abbrev pub question_slip : ℕ → List Asked → Asked → Option Cause
question_slip modes before x = if nat_le x.k 99 then None else Some OutOfRange

abbrev pub question_form : Form
question_form = record { Row = Asked; text = question_text; Formed = AskedFits; slip = question_slip }
