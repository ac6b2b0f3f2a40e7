-- Whole files: what is read of one, and why one is refused.
use Rattle.std.proofs.Common.{◌≡◌, ℕ, ◌+◌, ◌<◌, ◌≤◌, false, eqb, List, [], length, IfErr, Ok, Err, Result, sym, refl, ap, ◌∙◌, subst, inl, inr, arith, MatchResult}
use Rattle.std.proofs.lemmas.Bool.Decides.{nat_tests}
use Rattle.reader.specs.declared.content.Content.{Content}
use Rattle.reader.specs.declared.fault.Cause.{Cause}
use Rattle.reader.specs.declared.fault.Cause.TheVariants.{Excess}
use Rattle.reader.specs.declared.fault.ReadFault.{ReadFault}
use Rattle.reader.specs.declared.fault.ReadFault.TheVariants.{Slip, NoMemory}
use Rattle.reader.specs.Faults.{Refusing}
use Rattle.reader.specs.Lines.{Form}
use Rattle.reader.specs.Rows.{Exit, Lock, Asked, name_form, exit_form, lock_form, question_form}
use Rattle.reader.specs.Sections.{section, Stands, SectionRead, SectionRefused}
use Rattle.reader.specs.File.{File, told, file_text, AllStand, InRanges, HereOrLater, FromModes, FromExits, FromLocks, FromQuestions, Refused, RefusedAs}
use Rattle.reader.proofs.Forms.{name_lawful, exit_lawful, lock_lawful, question_lawful}
use Rattle.reader.proofs.Unique.{section_once, later, here_or_later_once}

pub refusing_weaker : (e : ReadFault) (P Q : Cause → ℕ → Type 0) → ((c : Cause) (at : ℕ) → P c at → Q c at) → Refusing e P → Refusing e Q
refusing_weaker (Slip at) P Q f h = f _ _ h
refusing_weaker NoMemory P Q f h = tt

-- what reading a section gives: its rows, what follows, and the line on which that begins
abbrev pub Got : (F : Form) (modes least most first : ℕ) (bytes : List ℕ) (rows : List F.Row) (rest : List ℕ) (next : ℕ) → Type 0
Got F modes least most first bytes rows rest next =
    SectionRead F modes least most bytes rows rest × (next ≡ first + 1 + length rows)

-- a refusal in a section
here : (F : Form) (modes least most first : ℕ) (bytes : List ℕ) (Later : Cause → ℕ → List F.Row → ℕ → List ℕ → Type 0) (e : ReadFault) → Refusing e (λ c at. (k : ℕ) × (at ≡ first + k) × SectionRefused F modes least most bytes c k) → Refusing e (λ c at. HereOrLater F modes least most first bytes c at (Later c at))
here F modes least most first bytes Later e h = refusing_weaker e _ _ (λ c at l. inl l) h

pub in_locks : (modes first : ℕ) (bytes : List ℕ) (e : ReadFault) → Refusing e (λ c at. (k : ℕ) × (at ≡ first + k) × SectionRefused lock_form modes 0 32 bytes c k) → Refusing e (λ c at. FromLocks modes first bytes c at)
in_locks modes first bytes e h = here lock_form modes 0 32 first bytes (λ c at _ next rest. FromQuestions modes next rest c at) e h

pub in_questions : (modes first : ℕ) (bytes : List ℕ) (e : ReadFault) → Refusing e (λ c at. (k : ℕ) × (at ≡ first + k) × SectionRefused question_form modes 1 8 bytes c k) → Refusing e (λ c at. FromQuestions modes first bytes c at)
in_questions modes first bytes e h = here question_form modes 1 8 first bytes (λ c at _ next rest. (c ≡ Excess) × (at ≡ next) × (0 < length rest)) e h

-- a refusal behind a section that stands
behind : (F : Form) (modes least most first : ℕ) (bytes : List ℕ) (rows : List F.Row) (rest : List ℕ) (next : ℕ) (Later : Cause → ℕ → List F.Row → ℕ → List ℕ → Type 0) (e : ReadFault) → Got F modes least most first bytes rows rest next → Refusing e (λ c at. Later c at rows next rest) → Refusing e (λ c at. HereOrLater F modes least most first bytes c at (Later c at))
behind F modes least most first bytes rows rest next Later e got h =
    refusing_weaker e _ _ (λ c at l. inr (rows, rest, got.0, subst (λ n. Later c at rows n rest) got.1 l)) h

pub behind_names : (bytes : List ℕ) (names : List (List ℕ)) (modes : ℕ) (rest : List ℕ) (next : ℕ) (e : ReadFault) → modes ≡ length names → Got name_form 0 1 64 1 bytes names rest next → Refusing e (λ c at. FromExits modes next rest c at) → Refusing e (λ c at. FromModes bytes c at)
behind_names bytes names modes rest next e m got h =
    behind name_form 0 1 64 1 bytes names rest next (λ c at rows next rest. FromExits (length rows) next rest c at) e got
    (subst (λ m. Refusing e (λ c at. FromExits m next rest c at)) m h)

pub behind_exits : (modes first : ℕ) (bytes : List ℕ) (exits : List Exit) (rest : List ℕ) (next : ℕ) (e : ReadFault) → Got exit_form modes 0 512 first bytes exits rest next → Refusing e (λ c at. FromLocks modes next rest c at) → Refusing e (λ c at. FromExits modes first bytes c at)
behind_exits modes first bytes exits rest next e got h =
    behind exit_form modes 0 512 first bytes exits rest next (λ c at _ next rest. FromLocks modes next rest c at) e got h

pub behind_locks : (modes first : ℕ) (bytes : List ℕ) (locks : List Lock) (rest : List ℕ) (next : ℕ) (e : ReadFault) → Got lock_form modes 0 32 first bytes locks rest next → Refusing e (λ c at. FromQuestions modes next rest c at) → Refusing e (λ c at. FromLocks modes first bytes c at)
behind_locks modes first bytes locks rest next e got h =
    behind lock_form modes 0 32 first bytes locks rest next (λ c at _ next rest. FromQuestions modes next rest c at) e got h

pub behind_questions : (modes first : ℕ) (bytes : List ℕ) (questions : List Asked) (rest : List ℕ) (next : ℕ) (e : ReadFault) → Got question_form modes 1 8 first bytes questions rest next → e ≡ Slip (record { fault = Excess; line = next }) → 0 < length rest → Refusing e (λ c at. FromQuestions modes first bytes c at)
behind_questions modes first bytes questions rest next e got is some =
    behind question_form modes 1 8 first bytes questions rest next (λ c at _ next rest. (c ≡ Excess) × (at ≡ next) × (0 < length rest)) e got
    (subst (λ e. Refusing e (λ c at. (c ≡ Excess) × (at ≡ next) × (0 < length rest))) (sym is) (refl, refl, some))

-- the text of a file that stands is not refused
unrefused : (f : File) (c : Cause) (at : ℕ) → AllStand f → FromModes (file_text f) c at → ⊥
unrefused f c at s h =
    let modes = length f.names in
    let r3 = section question_form f.questions [] in
    let r2 = section lock_form f.locks r3 in
    let r1 = section exit_form f.exits r2 in
    let h1 : FromExits modes (1 + 1 + modes) r1 c at = later name_form name_lawful 0 1 64 1 (file_text f) c at (λ names next rest. FromExits (length names) next rest c at) f.names r1 (omega arith) (s.names, refl) h in
    let h2 : FromLocks modes (1 + 1 + modes + 1 + length f.exits) r2 c at = later exit_form exit_lawful modes 0 512 (1 + 1 + modes) r1 c at (λ _ next rest. FromLocks modes next rest c at) f.exits r2 (omega arith) (s.exits, refl) h1 in
    let h3 = later lock_form lock_lawful modes 0 32 (1 + 1 + modes + 1 + length f.exits) r2 c at (λ _ next rest. FromQuestions modes next rest c at) f.locks r3 (omega arith) (s.locks, refl) h2 in
    let h4 = later question_form question_lawful modes 1 8 (1 + 1 + modes + 1 + length f.exits + 1 + length f.locks) r3 c at (λ _ next rest. (c ≡ Excess) × (at ≡ next) × (0 < length rest)) f.questions [] (omega arith) (s.questions, refl) h3 in
    omega (arith, h4.2)

-- a text is the text of one file that stands
same_file : (f g : File) → AllStand f → AllStand g → file_text f ≡ file_text g → f ≡ g
same_file f g s t e =
    let modes = length f.names in
    let f3 = section question_form f.questions [] in
    let f2 = section lock_form f.locks f3 in
    let f1 = section exit_form f.exits f2 in
    let g3 = section question_form g.questions [] in
    let g2 = section lock_form g.locks g3 in
    let g1 = section exit_form g.exits g2 in
    let e1 = section_once name_form name_lawful 0 1 64 (file_text f) f.names g.names f1 g1 (omega arith) (s.names, refl) (t.names, e) in
    let m : length g.names ≡ modes = sym (ap length e1.0) in
    let e2 = section_once exit_form exit_lawful modes 0 512 f1 f.exits g.exits f2 g2 (omega arith) (s.exits, refl) (subst (λ n. Stands exit_form n 0 512 g.exits) m t.exits, e1.1) in
    let e3 = section_once lock_form lock_lawful modes 0 32 f2 f.locks g.locks f3 g3 (omega arith) (s.locks, refl) (subst (λ n. Stands lock_form n 0 32 g.locks) m t.locks, e2.1) in
    let e4 = section_once question_form question_lawful modes 1 8 f3 f.questions g.questions [] [] (omega arith) (s.questions, refl) (subst (λ n. Stands question_form n 1 8 g.questions) m t.questions, e3.1) in
    λ i. record { names = e1.0 i; exits = e2.0 i; locks = e3.0 i; questions = e4.0 i }

-- bytes are refused on one line for one cause
from_questions_once : (modes first : ℕ) (bytes : List ℕ) (c d : Cause) (at at' : ℕ) → FromQuestions modes first bytes c at → FromQuestions modes first bytes d at' → (c ≡ d) × (at ≡ at')
from_questions_once modes first bytes c d at at' h h' =
    here_or_later_once question_form question_lawful modes 1 8 first bytes c d at at' (λ _ next rest. (c ≡ Excess) × (at ≡ next) × (0 < length rest)) (λ _ next rest. (d ≡ Excess) × (at' ≡ next) × (0 < length rest)) (omega arith) (λ rows next rest l l'. (l.0 ∙ sym l'.0, l.1 ∙ sym l'.1)) h h'

from_locks_once : (modes first : ℕ) (bytes : List ℕ) (c d : Cause) (at at' : ℕ) → FromLocks modes first bytes c at → FromLocks modes first bytes d at' → (c ≡ d) × (at ≡ at')
from_locks_once modes first bytes c d at at' h h' =
    here_or_later_once lock_form lock_lawful modes 0 32 first bytes c d at at' (λ _ next rest. FromQuestions modes next rest c at) (λ _ next rest. FromQuestions modes next rest d at') (omega arith) (λ rows next rest l l'. from_questions_once modes next rest c d at at' l l') h h'

from_exits_once : (modes first : ℕ) (bytes : List ℕ) (c d : Cause) (at at' : ℕ) → FromExits modes first bytes c at → FromExits modes first bytes d at' → (c ≡ d) × (at ≡ at')
from_exits_once modes first bytes c d at at' h h' =
    here_or_later_once exit_form exit_lawful modes 0 512 first bytes c d at at' (λ _ next rest. FromLocks modes next rest c at) (λ _ next rest. FromLocks modes next rest d at') (omega arith) (λ rows next rest l l'. from_locks_once modes next rest c d at at' l l') h h'

from_modes_once : (bytes : List ℕ) (c d : Cause) (at at' : ℕ) → FromModes bytes c at → FromModes bytes d at' → (c ≡ d) × (at ≡ at')
from_modes_once bytes c d at at' h h' =
    here_or_later_once name_form name_lawful 0 1 64 1 bytes c d at at' (λ names next rest. FromExits (length names) next rest c at) (λ names next rest. FromExits (length names) next rest d at') (omega arith) (λ rows next rest l l'. from_exits_once (length rows) next rest c d at at' l l') h h'

pub refused_once : (bytes : List ℕ) (c d : Cause) (at at' : ℕ) → Refused bytes c at → Refused bytes d at' → (c ≡ d) × (at ≡ at')
refused_once bytes c d at at' (inl h) (inl h') = (h.1 ∙ sym h'.1, h.2 ∙ sym h'.2)
refused_once bytes c d at at' (inl h) (inr h') = let l = h.0 in let s = h'.0 in absurd (omega arith)
refused_once bytes c d at at' (inr h) (inl h') = let l = h'.0 in let s = h.0 in absurd (omega arith)
refused_once bytes c d at at' (inr h) (inr h') = from_modes_once bytes c d at at' h.1 h'.1

-- how the bytes are answered
abbrev Read : List ℕ → Result Content ReadFault → Type 0
Read bytes r = MatchResult r (λ c. (file_text (told c) ≡ bytes) × AllStand (told c)) (λ e. Refusing e (λ c at. FromModes bytes c at))

pub refused_as : (bytes : List ℕ) (c : Cause) (at : ℕ) → Refused bytes c at → RefusedAs bytes c at
refused_as bytes c at h = (h, λ d at' h'. refused_once bytes d c at' at h' h)

pub answer_refusal : (bytes : List ℕ) (r : Result Content ReadFault) → length bytes ≤ 16384 → Read bytes r → IfErr r (λ e. Refusing e (λ c at. RefusedAs bytes c at))
answer_refusal bytes (Ok c) small h = tt
answer_refusal bytes (Err e) small h = refusing_weaker e _ _ (λ c at f. refused_as bytes c at (inr (small, f))) h

pub answer_exactly : (bytes : List ℕ) (r : Result Content ReadFault) → Read bytes r → (f : File) → file_text f ≡ bytes → InRanges f → MatchResult r (λ c. told c ≡ f) (λ e. e ≡ NoMemory)
answer_exactly bytes (Ok c) h f e s = same_file (told c) f h.1 s.1 (h.0 ∙ sym e)
answer_exactly bytes (Err (Slip at)) h f e s = absurd (unrefused f at.fault at.line s.1 (subst (λ b. FromModes b at.fault at.line) (sym e) h))
answer_exactly bytes (Err NoMemory) h f e s = refl

pub some_left : (n : ℕ) → false ≡ eqb n 0 → 0 < n
some_left n e = grind (arith, nat_tests)
