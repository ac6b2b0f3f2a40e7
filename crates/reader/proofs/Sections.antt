-- Sections as they are read.
use Rattle.std.specs.Option.{ok_or}
use Rattle.std.proofs.Common.{◌≡◌, ℕ, ◌+◌, ◌<◌, ◌≤◌, ◌⊎◌, List, [], ◌∷◌, ◌++◌, length, Some, None, Err, Option, Result, sym, refl, ap, ◌∙◌, subst, append_assoc, append-nil, arith}
use Rattle.std.proofs.lemmas.List.{length_push}
use Rattle.std.proofs.lemmas.Bool.Decides.{nat_tests}
use Rattle.reader.specs.declared.fault.Cause.TheVariants.{OutOfRange, Short}
use Rattle.reader.specs.declared.fault.ReadFault.{ReadFault}
use Rattle.reader.specs.declared.fault.ReadFault.TheVariants.{Slip, NoMemory}
use Rattle.reader.specs.Faults.{RefusedOn, RefusedFrom}
use Rattle.reader.specs.Lines.{Cut, Form, Free}
use Rattle.reader.specs.Sections.{line, lines, Fine, count_form, LineRead, RowsRead, SectionRead, LineRefused, RowsRefused, SectionRefused, no_line, at_row, at_count, at_rows}

pub line_is : (bytes text rest written : List ℕ) → Cut 10 bytes text rest → written ≡ text → bytes ≡ line written rest
line_is bytes text rest written c e = c.1 ∙ ap (λ t. line t rest) (sym e)

pub out_of_range : (least most n : ℕ) → (n < least) ⊎ ((least ≤ n) × (most < n)) → (count_form least most).slip 0 [] n ≡ Some OutOfRange
out_of_range least most n h = grind (arith, nat_tests)

pub at_least : (least most n : ℕ) → (count_form least most).slip 0 [] n ≡ None → least ≤ n
at_least least most n h = grind (arith, nat_tests)

pub at_most : (least most n : ℕ) → (count_form least most).slip 0 [] n ≡ None → n ≤ most
at_most least most n h = grind (arith, nat_tests)

-- one more row behind the others
lines_more : (F : Form) (rows : List F.Row) (x : F.Row) (rest : List ℕ) → lines F rows (line (F.text x) rest) ≡ lines F (rows ++ x ∷ []) rest
lines_more F [] x rest = refl
lines_more F (y ∷ ys) x rest = ap (line (F.text y)) (lines_more F ys x rest)

fine_more : (F : Form) (modes : ℕ) (before rows : List F.Row) (x : F.Row) → Fine F modes before rows → F.Formed x → F.slip modes (before ++ rows) x ≡ None → Fine F modes before (rows ++ x ∷ [])
fine_more F modes before [] x fine formed ok = (formed, ap (λ b. F.slip modes b x) (sym (append-nil before)) ∙ ok, tt)
fine_more F modes before (y ∷ ys) x fine formed ok =
    (fine.0, fine.1, fine_more F modes (before ++ y ∷ []) ys x fine.2 formed (ap (λ b. F.slip modes b x) (append_assoc before (y ∷ []) ys) ∙ ok))

pub rows_more : (F : Form) (modes n : ℕ) (bytes : List ℕ) (rows : List F.Row) (rest : List ℕ) (x : F.Row) (after : List ℕ) → RowsRead F modes n bytes rows rest → LineRead F modes rows rest x after → RowsRead F modes (n + 1) bytes (rows ++ x ∷ []) after
rows_more F modes n bytes rows rest x after r l =
    (length_push rows x ∙ ap (λ k. k + 1) r.0, fine_more F modes [] rows x r.1 l.1 l.2, r.2 ∙ ap (lines F rows) l.0 ∙ lines_more F rows x after)

pub rows_refused : (F : Form) (modes n i first : ℕ) (bytes : List ℕ) (rows : List F.Row) (rest : List ℕ) (e : ReadFault) → RowsRead F modes i bytes rows rest → i < n → RefusedOn e (first + i) (LineRefused F modes rows rest) → RefusedFrom e first (RowsRefused F modes n bytes)
rows_refused F modes n i first bytes rows rest (Slip at) r l h =
    let long = r.0 in
    (length rows, h.0 ∙ ap (λ k. first + k) (sym long), at_row rows rest _ (omega arith) r.1 r.2 h.1)
rows_refused F modes n i first bytes rows rest NoMemory r l h = tt

pub count_refused : (F : Form) (modes least most first : ℕ) (bytes : List ℕ) (e : ReadFault) → RefusedOn e first (LineRefused (count_form least most) 0 [] bytes) → RefusedFrom e first (SectionRefused F modes least most bytes)
count_refused F modes least most first bytes (Slip at) h = (0, (let e = h.0 in omega arith), at_count _ h.1)
count_refused F modes least most first bytes NoMemory h = tt

pub section_refused : (F : Form) (modes least most first n : ℕ) (bytes rest : List ℕ) (e : ReadFault) → LineRead (count_form least most) 0 [] bytes n rest → RefusedFrom e (first + 1) (RowsRefused F modes n rest) → RefusedFrom e first (SectionRefused F modes least most bytes)
section_refused F modes least most first n bytes rest (Slip at) c h =
    (1 + h.0, (let e = h.1 in omega arith), at_rows n rest _ h.0 (at_least least most n c.2) (at_most least most n c.2) c.0 h.2)
section_refused F modes least most first n bytes rest NoMemory c h = tt

-- an error that `ok_or` made
pub at_none : {A E : Type 0} (o : Option A) (r : Result A E) (x e : E) → r ≡ ok_or o e → r ≡ Err x → (o ≡ None) × (x ≡ e)
at_none None r x e p q = (refl, cc)
at_none (Some a) r x e p q = absurd (cc)

pub section_read : (F : Form) (modes least most n : ℕ) (bytes rest : List ℕ) (rows : List F.Row) (after : List ℕ) → LineRead (count_form least most) 0 [] bytes n rest → RowsRead F modes n rest rows after → SectionRead F modes least most bytes rows after
section_read F modes least most n bytes rest rows after c r =
    let long = r.0 in
    ((omega (arith, at_least least most n c.2), omega (arith, at_most least most n c.2), r.1), let e = c.0 in let f = r.2 in cc)

-- where no line is left, none is read
pub no_next : (F : Form) (modes : ℕ) (before : List F.Row) (line : ℕ) (bytes : List ℕ) (e : ReadFault) → RefusedOn e line (λ c. (c ≡ Short) × Free 10 bytes) → RefusedOn e line (LineRefused F modes before bytes)
no_next F modes before line bytes (Slip at) h = (h.0, subst (LineRefused F modes before bytes) (sym h.1.0) (no_line h.1.1))
no_next F modes before line bytes NoMemory h = tt
