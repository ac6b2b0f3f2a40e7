-- From a file's bytes to its chart with the locks set.
use Rattle.std.specs.Prelude.{◌≡◌, ℕ, ◌+◌, List, [], map, length, Some, None, Ok, Err, vec_items, Result}
use Rattle.charts.specs.declared.fault.ChartFault.{ChartFault}
use Rattle.charts.specs.declared.table.TableChart.{TableChart}
use Rattle.charts.specs.LockMeaning.{lock_meaning}
use Rattle.charts.specs.Meaning.{Meaning}
use Rattle.charts.specs.Tables.{table_meaning, AnswerOfTable}
use Rattle.reader.specs.declared.content.Content.{Content}
use Rattle.reader.specs.declared.content.ExitLine.{ExitLine}
use Rattle.reader.specs.declared.fault.DeclinedLock.{DeclinedLock}
use Rattle.reader.specs.declared.fault.LoadFault.{LoadFault}
use Rattle.reader.specs.declared.fault.LoadFault.TheVariants.{Reading, Chart, Lock, NoMemory}
use Rattle.reader.specs.declared.loaded.Loaded.{Loaded}
use Rattle.reader.specs.File.{File, told, file_text, InRanges, RefusedAs}
use Rattle.reader.specs.Layout.{offsets_of, lead_of, chart_line, set_all, AllSet, Declined, means}

-- the bytes are the text of this content, which is within the ranges, and of nothing else that is
abbrev pub Says : List ℕ → Content → Type 0
Says bytes c =
    (file_text (told c) ≡ bytes) × InRanges (told c) × ((f : File) → file_text f ≡ bytes → InRanges f → told c ≡ f)

-- how many modes, exit lines and lock lines a content has
abbrev pub mode_count : Content → ℕ
mode_count c = length (vec_items c.names)

abbrev pub exit_count : Content → ℕ
exit_count c = length (vec_items c.exits)

abbrev pub lock_count : Content → ℕ
lock_count c = length (vec_items c.locks)

-- the table that the exit lines lay out is sound
abbrev pub SoundExits : Content → Type 0
SoundExits c = AnswerOfTable (offsets_of (mode_count c) (vec_items c.exits)) (map lead_of (vec_items c.exits)) None

-- the table is refused for this fault
abbrev pub RefusedExits : Content → ChartFault → Type 0
RefusedExits c f = AnswerOfTable (offsets_of (mode_count c) (vec_items c.exits)) (map lead_of (vec_items c.exits)) (Some f)

-- what the table means, without the locks
abbrev pub open_chart : Content → Meaning
open_chart c = table_meaning (offsets_of (mode_count c) (vec_items c.exits)) (map lead_of (vec_items c.exits))

-- what is loaded from a content: its names and questions, and the chart of its exit lines with its locks, all accepted
pub record LoadedFrom (c : Content) (l : Loaded) : Type 0 where
  pub sound : SoundExits c
  pub accepted : AllSet (open_chart c) [] (vec_items c.locks)
  pub names : l.names ≡ c.names
  pub questions : l.questions ≡ c.questions
  pub chart : means l.chart ≡ lock_meaning (open_chart c) (set_all [] (vec_items c.locks))
  pub exit_lines : l.exit_lines ≡ exit_count c
  pub lock_lines : l.lock_lines ≡ lock_count c

-- the chart of a content is refused on this line
abbrev pub BadChart : Content → ChartFault → ℕ → Type 0
BadChart c f at = RefusedExits c f × (at ≡ chart_line (mode_count c) f)

-- a lock of a content is the first to be declined, on this line: the locks begin behind the modes and exits and three counts
abbrev pub BadLock : Content → DeclinedLock → ℕ → Type 0
BadLock c d at =
    SoundExits c × Declined (open_chart c) [] (vec_items c.locks) d.lock d.fault × (at ≡ mode_count c + exit_count c + 4 + d.lock)

-- why no chart is loaded from a content
abbrev pub Unloadable : Content → LoadFault → Type 0
Unloadable c (Reading at) = ⊥
Unloadable c (Chart at) = BadChart c at.fault at.line
Unloadable c (Lock at) = BadLock c at.fault at.line
Unloadable c NoMemory = Unit {0}

-- why no chart is loaded from bytes: their text is refused, or it reads well and its chart or a lock is refused
abbrev pub NotLoaded : List ℕ → LoadFault → Type 0
NotLoaded bytes (Reading at) = RefusedAs bytes at.fault at.line
NotLoaded bytes (Chart at) = (c : Content) × Says bytes c × BadChart c at.fault at.line
NotLoaded bytes (Lock at) = (c : Content) × Says bytes c × BadLock c at.fault at.line
NotLoaded bytes NoMemory = Unit {0}

-- the table chart that exit lines lay out, or why they lay out none
abbrev pub TableLaid : ℕ → List ExitLine → Result TableChart LoadFault → Type 0
TableLaid modes exits (Ok t) =
    AnswerOfTable (offsets_of modes exits) (map lead_of exits) None × (vec_items t.offsets ≡ offsets_of modes exits) × (vec_items t.entries ≡ map lead_of exits)
TableLaid modes exits (Err (Reading at)) = ⊥
TableLaid modes exits (Err (Chart at)) = AnswerOfTable (offsets_of modes exits) (map lead_of exits) (Some at.fault) × (at.line ≡ chart_line modes at.fault)
TableLaid modes exits (Err (Lock at)) = ⊥
TableLaid modes exits (Err NoMemory) = Unit {0}
