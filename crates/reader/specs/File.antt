-- A chart file: what it says, its one text, and why bytes are refused.
use Rattle.std.specs.Prelude.{◌≡◌, ℕ, ◌+◌, ◌<◌, ◌≤◌, ◌⊎◌, List, [], map, length, vec_items, string_bytes}
use Rattle.reader.specs.declared.content.Content.{Content}
use Rattle.reader.specs.declared.fault.Cause.{Cause}
use Rattle.reader.specs.declared.fault.Cause.TheVariants.{TooLong, Excess}
use Rattle.reader.specs.Lines.{Form}
use Rattle.reader.specs.Rows.{Exit, Lock, Asked, name_form, exit_form, lock_form, question_form, exit_told, lock_told, question_told}
use Rattle.reader.specs.Sections.{section, Stands, SectionRead, SectionRefused}

-- what a file says, section by section
pub record File : Type 0 where
  pub names : List (List ℕ)
  pub exits : List Exit
  pub locks : List Lock
  pub questions : List Asked

-- the content that is answered, as the file says it
abbrev pub told : Content → File
told c = record { names = map string_bytes (vec_items c.names); exits = map exit_told (vec_items c.exits); locks = map lock_told (vec_items c.locks); questions = map question_told (vec_items c.questions) }

-- the text of a file: its four sections in order
abbrev pub file_text : File → List ℕ
file_text f = section name_form f.names (section exit_form f.exits (section lock_form f.locks (section question_form f.questions [])))

-- the four sections stand: 1 to 64 modes, 0 to 512 exits, 0 to 32 locks, 1 to 8 questions
pub record AllStand (f : File) : Type 0 where
  pub names : Stands name_form 0 1 64 f.names
  pub exits : Stands exit_form (length f.names) 0 512 f.exits
  pub locks : Stands lock_form (length f.names) 0 32 f.locks
  pub questions : Stands question_form (length f.names) 1 8 f.questions

-- the counts and ranges of a file: its sections stand, and its text has at most 16,384 bytes
abbrev pub InRanges : File → Type 0
InRanges f = (length (file_text f) ≤ 16384) × AllStand f

-- the section whose count stands on the line `first` is refused on the line `at`; or it stands, and what follows is refused
abbrev pub HereOrLater : (F : Form) → ℕ → ℕ → ℕ → ℕ → List ℕ → Cause → ℕ → (List F.Row → ℕ → List ℕ → Type 0) → Type 0
HereOrLater F modes least most first bytes c at Later =
    ((k : ℕ) × (at ≡ first + k) × SectionRefused F modes least most bytes c k)
    ⊎ ((rows : List F.Row) × (rest : List ℕ) × SectionRead F modes least most bytes rows rest × Later rows (first + 1 + length rows) rest)

-- refused from the questions on: the section, or bytes behind it
abbrev pub FromQuestions : ℕ → ℕ → List ℕ → Cause → ℕ → Type 0
FromQuestions modes first bytes c at =
    HereOrLater question_form modes 1 8 first bytes c at (λ _ next rest. (c ≡ Excess) × (at ≡ next) × (0 < length rest))

-- refused from the locks on
abbrev pub FromLocks : ℕ → ℕ → List ℕ → Cause → ℕ → Type 0
FromLocks modes first bytes c at = HereOrLater lock_form modes 0 32 first bytes c at (λ _ next rest. FromQuestions modes next rest c at)

-- refused from the exits on
abbrev pub FromExits : ℕ → ℕ → List ℕ → Cause → ℕ → Type 0
FromExits modes first bytes c at = HereOrLater exit_form modes 0 512 first bytes c at (λ _ next rest. FromLocks modes next rest c at)

-- refused from the modes on
abbrev pub FromModes : List ℕ → Cause → ℕ → Type 0
FromModes bytes c at = HereOrLater name_form 0 1 64 1 bytes c at (λ names next rest. FromExits (length names) next rest c at)

-- the bytes are refused for the cause c at the line `at`: they are too many, or else the first faulty line decides
abbrev pub Refused : List ℕ → Cause → ℕ → Type 0
Refused bytes c at = ((16384 < length bytes) × (c ≡ TooLong) × (at ≡ 0)) ⊎ ((length bytes ≤ 16384) × FromModes bytes c at)

-- the bytes are refused so, and in no other way
abbrev pub RefusedAs : List ℕ → Cause → ℕ → Type 0
RefusedAs bytes c at = Refused bytes c at × ((d : Cause) (line : ℕ) → Refused bytes d line → (d ≡ c) × (line ≡ at))
