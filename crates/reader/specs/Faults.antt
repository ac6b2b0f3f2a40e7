-- Why a file is refused: the number of each cause, and the texts.
use Rattle.std.specs.Prelude.{◌≡◌, ℕ, ◌+◌, List, ◌++◌, codes, decimal}
use Rattle.charts.specs.Faults.{chart_text, lock_text}
use Rattle.reader.specs.declared.fault.Cause.{Cause}
use Rattle.reader.specs.declared.fault.Cause.TheVariants.{TooLong, NotOfForm, OutOfRange, FromMode, Short, Excess}
use Rattle.reader.specs.declared.fault.DeclinedLock.{DeclinedLock}
use Rattle.reader.specs.declared.fault.LoadFault.{LoadFault}
use Rattle.reader.specs.declared.fault.ReadFault.{ReadFault}
use Rattle.reader.specs.declared.fault.ReadFault.TheVariants.{Slip, NoMemory}

-- the number of each cause
abbrev pub number_of : Cause → ℕ
number_of TooLong = 1
number_of NotOfForm = 2
number_of OutOfRange = 3
number_of FromMode = 4
number_of Short = 5
number_of Excess = 6

-- what holds of the cause and the line of a refusal; want of memory has neither
abbrev pub Refusing : ReadFault → (Cause → ℕ → Type 0) → Type 0
Refusing (Slip at) P = P at.fault at.line
Refusing NoMemory P = Unit {0}

-- the refusal is on this line, for a cause of which P holds
abbrev pub RefusedOn : ReadFault → (line : ℕ) → (Cause → Type 0) → Type 0
RefusedOn e line P = Refusing e (λ c at. (at ≡ line) × P c)

-- the refusal is on a line that is k behind this one, for a cause of which P holds at k
abbrev pub RefusedFrom : ReadFault → (line : ℕ) → (Cause → ℕ → Type 0) → Type 0
RefusedFrom e line P = Refusing e (λ c at. (k : ℕ) × (at ≡ line + k) × P c k)

-- a fault of reading as a fault of loading
abbrev pub passed_on : ReadFault → LoadFault
passed_on (Slip at) = LoadFault.Reading at
passed_on NoMemory = LoadFault.NoMemory

-- a cause: its number
abbrev pub cause_text : Cause → List ℕ
cause_text c = codes "reading " ++ decimal (number_of c)

-- a declined lock: the number of its fault, and which lock it is
abbrev pub declined_text : DeclinedLock → List ℕ
declined_text d = lock_text d.fault ++ (codes " lock " ++ decimal d.lock)

-- a fault's text, and the line of the file where it shows
abbrev pub with_line : List ℕ → (line : ℕ) → List ℕ
with_line text line = text ++ (codes " line " ++ decimal line)

-- a fault of reading: its cause with its line, or that memory is wanting
abbrev pub read_text : ReadFault → List ℕ
read_text (Slip at) = with_line (cause_text at.fault) at.line
read_text NoMemory = codes "out of memory"

-- a fault of loading: `fault`, then what is at fault with its line; or that memory is wanting
abbrev pub load_text : LoadFault → List ℕ
load_text (LoadFault.Reading at) = codes "fault " ++ with_line (cause_text at.fault) at.line
load_text (LoadFault.Chart at) = codes "fault " ++ with_line (chart_text at.fault) at.line
load_text (LoadFault.Lock at) = codes "fault " ++ with_line (declined_text at.fault) at.line
load_text LoadFault.NoMemory = codes "out of memory"
