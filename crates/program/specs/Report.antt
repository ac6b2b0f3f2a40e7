-- The report on a chart file, byte by byte.
use Rattle.std.specs.Prelude.{◌≡◌, ℕ, ◌+◌, ◌⊎◌, List, [], ◌∷◌, ◌++◌, map, length, Some, None, vec_items, vec_len, string_bytes, codes, decimal, Option, Result, Ok, Err}
use Rattle.std.specs.List.{slice_get}
use Rattle.charts.specs.Faults.{chart_number, chart_place_text, lock_number}
use Rattle.charts.specs.declared.fault.ChartFault.{ChartFault}
use Rattle.reader.specs.Faults.{number_of}
use Rattle.reader.specs.File.{File, told}
use Rattle.reader.specs.Layout.{AllSet}
use Rattle.reader.specs.Loading.{Says, SoundExits, open_chart, NotLoaded}
use Rattle.reader.specs.Rows.{Asked, question_told, letter_text}
use Rattle.reader.specs.declared.content.Content.{Content}
use Rattle.reader.specs.declared.loaded.Loaded.{Loaded}
use Rattle.reader.specs.declared.content.Letter.{Letter}
use Rattle.reader.specs.declared.fault.LoadFault.{LoadFault}
use Rattle.reader.specs.declared.fault.LoadFault.TheVariants.{Reading, Chart, Lock, NoMemory}
use Rattle.program.specs.declared.page.QuestionFault.{QuestionFault}
use Rattle.program.specs.declared.page.QuestionFault.TheVariants.{UnknownStart, UnknownWatched}

-- the first line on a file that reads well: how many modes, exit lines, lock lines and questions it has
abbrev pub heading : (modes exits locks questions : ℕ) → List ℕ
heading modes exits locks questions =
    codes "chart " ++ (decimal modes ++ (codes " modes " ++ (decimal exits ++ (codes " exits " ++ (decimal locks ++ (codes " locks " ++ (decimal questions ++ codes " questions\n")))))))

-- the number of a question's fault
abbrev pub question_fault_number : QuestionFault → ℕ
question_fault_number UnknownStart = 30
question_fault_number UnknownWatched = 31

-- a question's fault
abbrev pub question_fault_text : QuestionFault → List ℕ
question_fault_text fault = codes "lister " ++ decimal (question_fault_number fault)

-- a fault of question i, in place of its line
abbrev pub lister_fault : (number i : ℕ) → List ℕ
lister_fault number i = codes "fault lister " ++ (decimal number ++ (codes " question " ++ (decimal i ++ codes "\n")))

-- the line of question i between two named modes
abbrev pub named_question : (i : ℕ) → List ℕ → List ℕ → Letter → List ℕ
named_question i start watched letter =
    codes "question " ++ (decimal i ++ (codes " " ++ (start ++ (codes " " ++ (watched ++ (codes " " ++ (letter_text letter ++ codes "\n")))))))

-- the names of the modes that a question leads from and to, or the fault of the first that is no mode
abbrev pub question_ends : List (List ℕ) → Asked → Result (List ℕ × List ℕ) QuestionFault
question_ends names q =
    elim (slice_get names q.start) [
      | None ↦ Err UnknownStart
      | Some start ↦ elim (slice_get names q.watched) [ None ↦ Err UnknownWatched | Some watched ↦ Ok (start, watched) ]
    ]

-- what is said of question i: its line, or the fault in its place
abbrev pub question_line : List (List ℕ) → (i : ℕ) → Asked → List ℕ
question_line names i q =
    elim (question_ends names q) [ Ok ends ↦ named_question i ends.0 ends.1 q.letter | Err fault ↦ lister_fault (question_fault_number fault) i ]

-- the lines of the questions from question i on
abbrev pub question_lines : List (List ℕ) → (i : ℕ) → List Asked → List ℕ
question_lines names i [] = []
question_lines names i (q ∷ qs) = question_line names i q ++ question_lines names (i + 1) qs

-- the report on a file that reads well
abbrev pub page : File → List ℕ
page f = heading (length f.names) (length f.exits) (length f.locks) (length f.questions) ++ question_lines f.names 0 f.questions

-- the same, of what was loaded
abbrev pub loaded_page : Loaded → List ℕ
loaded_page l =
    heading (vec_len l.names) l.exit_lines l.lock_lines (vec_len l.questions) ++ question_lines (map string_bytes (vec_items l.names)) 0 (map question_told (vec_items l.questions))

-- the three lines on a file that is refused: layer, number, place and line
abbrev pub reading_line : (number line : ℕ) → List ℕ
reading_line number line = codes "fault reading " ++ (decimal number ++ (codes " line " ++ (decimal line ++ codes "\n")))

abbrev pub chart_line : ChartFault → (line : ℕ) → List ℕ
chart_line f line = codes "fault chart " ++ (decimal (chart_number f) ++ (chart_place_text f ++ (codes " line " ++ (decimal line ++ codes "\n"))))

abbrev pub lock_line : (number lock line : ℕ) → List ℕ
lock_line number lock line = codes "fault lock " ++ (decimal number ++ (codes " lock " ++ (decimal lock ++ (codes " line " ++ (decimal line ++ codes "\n")))))

-- the line of a fault; want of memory has none
abbrev pub fault_line : LoadFault → Option (List ℕ)
fault_line (Reading at) = Some (reading_line (number_of at.fault) at.line)
fault_line (Chart at) = Some (chart_line at.fault at.line)
fault_line (Lock at) = Some (lock_line (lock_number at.fault.fault) at.fault.lock at.line)
fault_line NoMemory = None

-- the exit lines of a content make a chart, and its locks are accepted in turn
abbrev pub Accepted : Content → Type 0
Accepted c = SoundExits c × AllSet (open_chart c) [] (vec_items c.locks)

-- the report on these bytes: the page of the file that they are the text of, or the line of their fault
abbrev pub Reported : List ℕ → List ℕ → Type 0
Reported bytes text =
    ((c : Content) × Says bytes c × Accepted c × (text ≡ page (told c)))
    ⊎ ((e : LoadFault) × NotLoaded bytes e × (fault_line e ≡ Some text))

-- and no other text is
abbrev pub ReportedAs : List ℕ → List ℕ → Type 0
ReportedAs bytes text = Reported bytes text × ((other : List ℕ) → Reported bytes other → other ≡ text)
