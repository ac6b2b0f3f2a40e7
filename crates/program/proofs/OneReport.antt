-- Bytes have one report.
use Rattle.std.proofs.Common.{◌≡◌, ℕ, ◌⊎◌, List, length, Some, Err, vec_items, sym, ap, ◌∙◌, inl, inr, arith}
use Rattle.std.proofs.lemmas.Option.{none-some}
use mathlib.Core.Path.{transport}
use Rattle.charts.specs.Faults.{lock_number}
use Rattle.reader.specs.Faults.{number_of}
use Rattle.reader.specs.File.{told, Refused, RefusedAs}
use Rattle.reader.specs.Loading.{Says, mode_count, NotLoaded}
use Rattle.reader.specs.declared.content.Content.{Content}
use Rattle.reader.specs.declared.fault.Cause.{Cause}
use Rattle.reader.specs.declared.fault.LoadFault.{LoadFault}
use Rattle.reader.specs.declared.fault.LoadFault.TheVariants.{Reading, Chart, Lock, NoMemory}
use Rattle.reader.specs.declared.fault.ReadFault.TheVariants as reading
use Rattle.reader.proofs.Files.{answer_exactly}
use Rattle.program.specs.Report.{page, reading_line, chart_line, lock_line, fault_line, Reported}
use Rattle.program.proofs.Outcomes.{Outcome, well, no_chart, no_lock, one_outcome}
use Rattle.program.proofs.SameContent.{same_modes, same_exits, same_locks}

-- what is reported on a content
abbrev OutcomeOf : Content → List ℕ → Type 0
OutcomeOf c text = Outcome (mode_count c) (vec_items c.exits) (vec_items c.locks) (page (told c)) text

-- the bytes are refused, or they are the text of a content
abbrev Ending : List ℕ → List ℕ → Type 0
Ending bytes text =
    ((cause : Cause) × (line : ℕ) × RefusedAs bytes cause line × (text ≡ reading_line (number_of cause) line))
    ⊎ ((c : Content) × Says bytes c × OutcomeOf c text)

fault_ending : (bytes text : List ℕ) (e : LoadFault) → NotLoaded bytes e → fault_line e ≡ Some text → Ending bytes text
fault_ending bytes text (Reading at) h is = inl (at.fault, at.line, h, cc)
fault_ending bytes text (Chart at) h is =
    let t : text ≡ chart_line at.fault at.line = cc in
    inr (h.0, h.1, no_chart at.fault h.2.0 (t ∙ ap (chart_line at.fault) h.2.1))
fault_ending bytes text (Lock at) h is =
    let d = at.fault in
    let t : text ≡ lock_line (lock_number d.fault) d.lock at.line = cc in
    inr (h.0, h.1, no_lock d.lock d.fault h.2.0 h.2.1 (t ∙ ap (lock_line (lock_number d.fault) d.lock) h.2.2))
fault_ending bytes text NoMemory h is = absurd (none-some text is)

ending : (bytes text : List ℕ) → Reported bytes text → Ending bytes text
ending bytes text (inl h) = inr (h.0, h.1, well h.2.0 h.2.1 h.3)
ending bytes text (inr h) = fault_ending bytes text h.0 h.1 h.2

-- the text of a content is not refused
unrefused : (bytes : List ℕ) (c : Content) (cause : Cause) (line : ℕ) → Says bytes c → Refused bytes cause line → ⊥
unrefused bytes c cause line says (inl h) = omega (arith, h.0, says.1.0, ap length says.0)
unrefused bytes c cause line says (inr h) =
    let e = answer_exactly bytes (Err (reading.Slip (record { fault = cause; line = line }))) h.1 (told c) says.0 says.1 in
    let z : ◌≡◌ {A = ℕ} 0 1 = cc in
    omega arith

-- contents with one text have one outcome
same_outcome : (c d : Content) (a b : List ℕ) → told c ≡ told d → OutcomeOf c a → OutcomeOf d b → a ≡ b
same_outcome c d a b e h k =
    let modes = same_modes c d e in
    let exits = same_exits c d e in
    let locks = same_locks c d e in
    let pages = ap page e in
    let moved : OutcomeOf d a = transport (λ i. Outcome (modes i) (exits i) (locks i) (pages i) a) h in
    one_outcome (mode_count d) (vec_items d.exits) (vec_items d.locks) (page (told d)) a b moved k

one_ending : (bytes a b : List ℕ) → Ending bytes a → Ending bytes b → a ≡ b
one_ending bytes a b (inl h) (inl k) =
    let r = k.2.1 h.0 h.1 h.2.0 in
    h.3 ∙ (λ i. reading_line (number_of (r.0 i)) (r.1 i)) ∙ sym k.3
one_ending bytes a b (inl h) (inr k) = absurd (unrefused bytes k.0 h.0 h.1 k.1 h.2.0)
one_ending bytes a b (inr h) (inl k) = absurd (unrefused bytes h.0 k.0 k.1 h.1 k.2.0)
one_ending bytes a b (inr h) (inr k) = same_outcome h.0 k.0 a b (h.1.2 (told k.0) k.1.0 k.1.1) h.2 k.2

pub one_report : (bytes a b : List ℕ) → Reported bytes a → Reported bytes b → a ≡ b
one_report bytes a b h k = one_ending bytes a b (ending bytes a h) (ending bytes b k)
