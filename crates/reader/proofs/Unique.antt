-- A text is the text of one file at most, and the text of a file within the ranges is not refused.
use Rattle.std.proofs.Common.{◌≡◌, ℕ, ◌+◌, ◌^◌, ◌<◌, ◌≤◌, List, [], ◌∷◌, ◌++◌, length, Some, None, decimal, sym, refl, ap, ◌∙◌, subst, inl, inr, ⊎_elim, append_assoc, append-nil, arith}
use Rattle.std.proofs.lemmas.Bool.Decides.{nat_tests}
use Rattle.std.proofs.str.Laws.{order}
use Rattle.reader.specs.declared.fault.Cause.{Cause}
use Rattle.reader.specs.Lines.{Free, Form}
use Rattle.reader.specs.Sections.{line, lines, Fine, count_form, LineRead, SectionRead, LineRefused, RowsRefused, SectionRefused, no_line, no_row, slips, at_row, at_count, at_rows}
use Rattle.reader.specs.File.{HereOrLater}
use Rattle.reader.proofs.Cuts.{cut_once, not_free}
use Rattle.reader.proofs.Forms.{Lawful, count_lawful}
use Rattle.reader.proofs.Words.{free_number, same_number}

-- a count line has one count
cut_line : (m n : ℕ) (s t : List ℕ) → m < 2 ^ 32 → n < 2 ^ 32 → line (decimal m) s ≡ line (decimal n) t → (m ≡ n) × (s ≡ t)
cut_line m n s t k l e =
    let r = cut_once 10 (decimal m) (decimal n) s t (free_number 10 m (omega arith) k) (free_number 10 n (omega arith) l) e in
    (same_number m n k l r.0, r.1)

in_range : (least most n : ℕ) → least ≤ n → n ≤ most → (count_form least most).slip 0 [] n ≡ None
in_range least most n low high = grind (arith, nat_tests)

module _ (F : Form) (law : Lawful F) where
  -- a line has one row
  pub line_once : (x y : F.Row) (s t : List ℕ) → F.Formed x → F.Formed y → line (F.text x) s ≡ line (F.text y) t → (x ≡ y) × (s ≡ t)
  line_once x y s t p q e =
      let r = cut_once 10 (F.text x) (F.text y) s t (law.unbroken x p) (law.unbroken y q) e in
      (law.same x y p q r.0, r.1)

  pub line_stands : (modes : ℕ) (before : List F.Row) (bytes : List ℕ) (x : F.Row) (rest : List ℕ) (c : Cause) → LineRead F modes before bytes x rest → LineRefused F modes before bytes c → ⊥
  line_stands modes before bytes x rest c read (no_line free) = not_free 10 (F.text x) rest (subst (Free 10) read.0 free)
  line_stands modes before bytes x rest c read (no_row text after cut unread) =
      let r = cut_once 10 (F.text x) text rest after (law.unbroken x read.1) cut.0 (sym read.0 ∙ cut.1) in
      unread x read.1 r.0
  line_stands modes before bytes x rest c read (slips y after c' e formed slip) =
      let r = line_once x y rest after read.1 formed (sym read.0 ∙ e) in
      let n : Some c ≡ None = sym slip ∙ ap (F.slip modes before) (sym r.0) ∙ read.2 in
      let z : ◌≡◌ {A = ℕ} 0 1 = cc in
      omega arith

  -- as many lines have one row each
  pub lines_once : (modes : ℕ) (before before' xs ys : List F.Row) (s t : List ℕ) → Fine F modes before xs → Fine F modes before' ys → length xs ≡ length ys → lines F xs s ≡ lines F ys t → (xs ≡ ys) × (s ≡ t)
  lines_once modes before before' [] [] s t p q l e = (refl, e)
  lines_once modes before before' [] (y ∷ ys) s t p q l e = absurd (omega arith)
  lines_once modes before before' (x ∷ xs) [] s t p q l e = absurd (omega arith)
  lines_once modes before before' (x ∷ xs) (y ∷ ys) s t p q l e =
      let h = line_once x y (lines F xs s) (lines F ys t) p.0 q.0 e in
      let r = lines_once modes (before ++ x ∷ []) (before' ++ y ∷ []) xs ys s t p.2 q.2 (omega arith) h.1 in
      ((λ i. h.0 i ∷ r.0 i), r.1)

  -- where rows stand, none of them is refused after those before it
  rows_stand : (modes : ℕ) (before xs ys : List F.Row) (s t : List ℕ) (c : Cause) → Fine F modes before xs → Fine F modes before ys → length ys < length xs → lines F xs s ≡ lines F ys t → LineRefused F modes (before ++ ys) t c → ⊥
  rows_stand modes before [] ys s t c p q l e h = omega arith
  rows_stand modes before (x ∷ xs) [] s t c p q l e h =
      line_stands modes before t x (lines F xs s) c (sym e, p.0, p.1) (subst (λ b. LineRefused F modes b t c) (append-nil before) h)
  rows_stand modes before (x ∷ xs) (y ∷ ys) s t c p q l e h =
      let r = line_once x y (lines F xs s) (lines F ys t) p.0 q.0 e in
      let q' : Fine F modes (before ++ x ∷ []) ys = subst (λ z. Fine F modes (before ++ z ∷ []) ys) (sym r.0) q.2 in
      let h' : LineRefused F modes ((before ++ x ∷ []) ++ ys) t c = subst (λ b. LineRefused F modes b t c) (sym (append_assoc before (x ∷ []) ys ∙ ap (λ z. before ++ z ∷ ys) r.0)) h in
      rows_stand modes (before ++ x ∷ []) xs ys s t c p.2 q' (omega arith) r.1 h'

count_stands : (least most : ℕ) (bytes : List ℕ) (n : ℕ) (rest : List ℕ) (c : Cause) → least ≤ n → n ≤ most → n < 2 ^ 32 → bytes ≡ line (decimal n) rest → LineRefused (count_form least most) 0 [] bytes c → ⊥
count_stands least most bytes n rest c low high small e h =
    line_stands (count_form least most) (count_lawful least most) 0 [] bytes n rest c (e, small, in_range least most n low high) h

module _ (F : Form) (law : Lawful F) where
  -- a section has one list of rows, and is not refused where it stands
  pub section_once : (modes least most : ℕ) (bytes : List ℕ) (xs ys : List F.Row) (s t : List ℕ) → most < 2 ^ 32 → SectionRead F modes least most bytes xs s → SectionRead F modes least most bytes ys t → (xs ≡ ys) × (s ≡ t)
  section_once modes least most bytes xs ys s t small p q =
      let long = p.0.1 in
      let long' = q.0.1 in
      let r = cut_line (length xs) (length ys) (lines F xs s) (lines F ys t) (omega arith) (omega arith) (sym p.1 ∙ q.1) in
      lines_once F law modes [] [] xs ys s t p.0.2 q.0.2 r.0 r.1

  pub section_stands : (modes least most : ℕ) (bytes : List ℕ) (xs : List F.Row) (s : List ℕ) (c : Cause) (k : ℕ) → most < 2 ^ 32 → SectionRead F modes least most bytes xs s → SectionRefused F modes least most bytes c k → ⊥
  section_stands modes least most bytes xs s c k small p (at_count c' h) =
      let low = p.0.0 in
      let high = p.0.1 in
      count_stands least most bytes (length xs) (lines F xs s) c low high (omega arith) p.1 h
  section_stands modes least most bytes xs s c k small p (at_rows n rest c' behind low high e (at_row ys t c'' less fine e' h)) =
      let long = p.0.1 in
      let r = cut_line (length xs) n (lines F xs s) rest (omega arith) (omega arith) (sym p.1 ∙ e) in
      let same = r.0 in
      rows_stand F law modes [] xs ys s t c p.0.2 fine (omega arith) (r.1 ∙ e') h

  -- where a section stands, what is refused is refused behind it
  pub later : (modes least most first : ℕ) (bytes : List ℕ) (c : Cause) (at : ℕ) (Later : List F.Row → ℕ → List ℕ → Type 0) (rows : List F.Row) (rest : List ℕ) → most < 2 ^ 32 → SectionRead F modes least most bytes rows rest → HereOrLater F modes least most first bytes c at Later → Later rows (first + 1 + length rows) rest
  later modes least most first bytes c at Later rows rest small p (inl h) = absurd (section_stands modes least most bytes rows rest c h.0 small p h.2)
  later modes least most first bytes c at Later rows rest small p (inr h) =
      let r = section_once modes least most bytes h.0 rows h.1 rest small h.2 p in
      subst (λ t. Later rows (first + 1 + length rows) t) r.1 (subst (λ xs. Later xs (first + 1 + length xs) h.1) r.0 h.3)

module _ (F : Form) (law : Lawful F) where
  -- a line is refused for one cause
  line_refused_once : (modes : ℕ) (before : List F.Row) (bytes : List ℕ) (c d : Cause) → LineRefused F modes before bytes c → LineRefused F modes before bytes d → c ≡ d
  line_refused_once modes before bytes c d (no_line free) (no_line free') = refl
  line_refused_once modes before bytes c d (no_line free) (no_row text rest cut unread) = absurd (not_free 10 text rest (subst (Free 10) cut.1 free))
  line_refused_once modes before bytes c d (no_line free) (slips x rest d' e formed slip) = absurd (not_free 10 (F.text x) rest (subst (Free 10) e free))
  line_refused_once modes before bytes c d (no_row text rest cut unread) (no_line free) = absurd (not_free 10 text rest (subst (Free 10) cut.1 free))
  line_refused_once modes before bytes c d (no_row text rest cut unread) (no_row text' rest' cut' unread') = refl
  line_refused_once modes before bytes c d (no_row text rest cut unread) (slips x rest' d' e formed slip) =
      absurd (unread x formed (cut_once 10 (F.text x) text rest' rest (law.unbroken x formed) cut.0 (sym e ∙ cut.1)).0)
  line_refused_once modes before bytes c d (slips x rest c' e formed slip) (no_line free) = absurd (not_free 10 (F.text x) rest (subst (Free 10) e free))
  line_refused_once modes before bytes c d (slips x rest c' e formed slip) (no_row text rest' cut unread) =
      absurd (unread x formed (cut_once 10 (F.text x) text rest rest' (law.unbroken x formed) cut.0 (sym e ∙ cut.1)).0)
  line_refused_once modes before bytes c d (slips x rest c' e formed slip) (slips y rest' d' e' formed' slip') =
      let r = line_once F law x y rest rest' formed formed' (sym e ∙ e') in
      let s : Some c ≡ Some d = sym slip ∙ ap (F.slip modes before) r.0 ∙ slip' in
      cc

  -- rows are refused at one row for one cause
  rows_refused_once : (modes n : ℕ) (bytes : List ℕ) (c d : Cause) (i j : ℕ) → RowsRefused F modes n bytes c i → RowsRefused F modes n bytes d j → (c ≡ d) × (i ≡ j)
  rows_refused_once modes n bytes c d i j (at_row xs s c' less fine e h) (at_row ys t d' less' fine' e' h') =
      ⊎_elim
      (λ short. absurd (rows_stand F law modes [] ys xs t s c fine' fine short (sym e' ∙ e) h))
      (λ long.
      ⊎_elim
      (λ short'. absurd (rows_stand F law modes [] xs ys s t d fine fine' short' (sym e ∙ e') h'))
      (λ long'.
      let same : length xs ≡ length ys = omega arith in
      let r = lines_once F law modes [] [] xs ys s t fine fine' same (sym e ∙ e') in
      let moved = subst (λ b. LineRefused F modes ys b c) r.1 (subst (λ b. LineRefused F modes b s c) r.0 h) in
      (line_refused_once modes ys t c d moved h', same))
      (order (length ys) (length xs)))
      (order (length xs) (length ys))

module _ (F : Form) (law : Lawful F) where
  -- a section is refused on one line for one cause
  section_refused_once : (modes least most : ℕ) (bytes : List ℕ) (c d : Cause) (i j : ℕ) → most < 2 ^ 32 → SectionRefused F modes least most bytes c i → SectionRefused F modes least most bytes d j → (c ≡ d) × (i ≡ j)
  section_refused_once modes least most bytes c d i j small (at_count c' h) (at_count d' h') =
      (line_refused_once (count_form least most) (count_lawful least most) 0 [] bytes c d h h', refl)
  section_refused_once modes least most bytes c d i j small (at_count c' h) (at_rows n rest d' behind low high e h') =
      absurd (count_stands least most bytes n rest c low high (omega arith) e h)
  section_refused_once modes least most bytes c d i j small (at_rows n rest c' behind low high e h) (at_count d' h') =
      absurd (count_stands least most bytes n rest d low high (omega arith) e h')
  section_refused_once modes least most bytes c d i j small (at_rows n rest c' behind low high e h) (at_rows n' rest' d' behind' low' high' e' h') =
      let r = cut_line n n' rest rest' (omega arith) (omega arith) (sym e ∙ e') in
      let moved = subst (λ b. RowsRefused F modes n' b c behind) r.1 (subst (λ k. RowsRefused F modes k rest c behind) r.0 h) in
      let s = rows_refused_once F law modes n' rest' c d behind behind' moved h' in
      (s.0, ap (λ k. 1 + k) s.1)

  -- so is what a section and what follows it are refused for
  pub here_or_later_once : (modes least most first : ℕ) (bytes : List ℕ) (c d : Cause) (at at' : ℕ) (Later Later' : List F.Row → ℕ → List ℕ → Type 0) → most < 2 ^ 32 → ((rows : List F.Row) (next : ℕ) (rest : List ℕ) → Later rows next rest → Later' rows next rest → (c ≡ d) × (at ≡ at')) → HereOrLater F modes least most first bytes c at Later → HereOrLater F modes least most first bytes d at' Later' → (c ≡ d) × (at ≡ at')
  here_or_later_once modes least most first bytes c d at at' Later Later' small once (inl h) (inl h') =
      let s = section_refused_once modes least most bytes c d h.0 h'.0 small h.2 h'.2 in
      (s.0, h.1 ∙ ap (λ k. first + k) s.1 ∙ sym h'.1)
  here_or_later_once modes least most first bytes c d at at' Later Later' small once (inl h) (inr h') =
      absurd (section_stands F law modes least most bytes h'.0 h'.1 c h.0 small h'.2 h.2)
  here_or_later_once modes least most first bytes c d at at' Later Later' small once (inr h) (inl h') =
      absurd (section_stands F law modes least most bytes h.0 h.1 d h'.0 small h.2 h'.2)
  here_or_later_once modes least most first bytes c d at at' Later Later' small once (inr h) (inr h') =
      let moved = later F law modes least most first bytes c at Later h'.0 h'.1 small h'.2 (inr h) in
      once h'.0 (first + 1 + length h'.0) h'.1 moved h'.3
