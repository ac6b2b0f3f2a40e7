-- No two rows of a form have one text, and no text holds a line's end.
use Rattle.std.proofs.Common.{◌≡◌, ℕ, ◌^◌, ◌<◌, true, List, ◌∷◌, ◌++◌, decimal, sym, refl, ap, ◌∙◌, arith}
use Rattle.std.proofs.ByRecursion.{All-append, All-weaker}
use Rattle.reader.specs.declared.content.Letter.{Letter}
use Rattle.reader.specs.declared.content.Letter.TheVariants.{Dwell, FaultsFirst}
use Rattle.reader.specs.Lines.{Free, Form}
use Rattle.reader.specs.Rows.{name_byte, letter_byte, name_form, exit_form, lock_form, question_form}
use Rattle.reader.specs.Sections.{count_form}
use Rattle.reader.proofs.Words.{free_number, same_number, field_once}

pub record Lawful (F : Form) : Type 0 where
  pub unbroken : (x : F.Row) → F.Formed x → Free 10 (F.text x)
  pub same : (x y : F.Row) → F.Formed x → F.Formed y → F.text x ≡ F.text y → x ≡ y

pub count_lawful : (least most : ℕ) → Lawful (count_form least most)
count_lawful least most = record { unbroken = λ n fits. free_number 10 n (omega arith) fits; same = same_number }

no_end : (b : ℕ) → name_byte b ≡ true → b ≡ 10 → ⊥
no_end b e t = let z : name_byte 10 ≡ true = sym (ap name_byte t) ∙ e in let y : ◌≡◌ {A = ℕ} 0 1 = cc in omega arith

pub name_lawful : Lawful name_form
name_lawful = record { unbroken = λ name ok. All-weaker _ _ no_end name ok.2; same = λ x y p q e. e }

free_field : (n : ℕ) (rest : List ℕ) → n < 2 ^ 32 → Free 10 rest → Free 10 (decimal n ++ 32 ∷ rest)
free_field n rest l f = All-append _ (decimal n) (32 ∷ rest) (free_number 10 n (omega arith) l) ((λ e. omega arith), f)

pub exit_lawful : Lawful exit_form
exit_lawful = record {
  unbroken = λ x p. free_field x.from _ p.0 (free_field x.to _ p.1 (free_field x.faults _ (omega (arith, p.2)) (free_number 10 x.dwell (omega arith) p.3)));
  same = λ x y p q e0.
      let e1 = field_once _ x.from y.from _ _ (p.0, e0) (q.0, refl) in
      let e2 = field_once _ x.to y.to _ _ (p.1, e1.1) (q.1, refl) in
      let e3 = field_once _ x.faults y.faults _ _ (omega (arith, p.2), e2.1) (omega (arith, q.2), refl) in
      let e4 = same_number x.dwell y.dwell p.3 q.3 e3.1 in
      let a = e1.0 in let b = e2.0 in let c = e3.0 in λ i. record { from = a i; to = b i; faults = c i; dwell = e4 i };
}

pub lock_lawful : Lawful lock_form
lock_lawful = record {
  unbroken = λ x p. free_field x.mode _ p.0 (free_number 10 x.exit (omega arith) p.1);
  same = λ x y p q e0.
      let e1 = field_once _ x.mode y.mode _ _ (p.0, e0) (q.0, refl) in
      let e2 = same_number x.exit y.exit p.1 q.1 e1.1 in
      λ i. record { mode = e1.0 i; exit = e2 i };
}

free_letter : (l : Letter) (rest : List ℕ) → Free 10 rest → Free 10 (letter_byte l ∷ 32 ∷ rest)
free_letter Dwell rest f = ((λ e. omega arith), ((λ e. omega arith), f))
free_letter FaultsFirst rest f = ((λ e. omega arith), ((λ e. omega arith), f))

same_letter : (l m : Letter) (s t : List ℕ) → letter_byte l ∷ 32 ∷ s ≡ letter_byte m ∷ 32 ∷ t → (l ≡ m) × (s ≡ t)
same_letter Dwell Dwell s t e = (refl, cc)
same_letter Dwell FaultsFirst s t e = let z : ◌≡◌ {A = ℕ} 100 102 = cc in absurd (omega arith)
same_letter FaultsFirst Dwell s t e = let z : ◌≡◌ {A = ℕ} 102 100 = cc in absurd (omega arith)
same_letter FaultsFirst FaultsFirst s t e = (refl, cc)

pub question_lawful : Lawful question_form
question_lawful = record {
  unbroken = λ x p. free_field x.start _ p.0 (free_field x.watched _ p.1 (free_letter x.letter _ (free_number 10 x.k (omega arith) p.2)));
  same = λ x y p q e0.
      let e1 = field_once _ x.start y.start _ _ (p.0, e0) (q.0, refl) in
      let e2 = field_once _ x.watched y.watched _ _ (p.1, e1.1) (q.1, refl) in
      let e3 = same_letter x.letter y.letter _ _ e2.1 in
      let e4 = same_number x.k y.k p.2 q.2 e3.1 in
      λ i. record { start = e1.0 i; watched = e2.0 i; letter = e3.0 i; k = e4 i };
}
