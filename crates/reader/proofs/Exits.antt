-- The mode left in the last exit line.
use Rattle.std.proofs.Common.{◌≡◌, ℕ, suc, ◌-◌, List, [], ◌∷◌, map, length, get_or, Some, None, Option, MatchOption, Bor, sym, refl, ap, ◌∙◌, arith}
use Rattle.std.specs.List.{slice_get}
use Rattle.std.specs.Option.{option_copied}
use Rattle.std.proofs.lemmas.Option.{slice_get-get_or, get_or_from_slice_get}
use Rattle.reader.specs.declared.content.ExitLine.{ExitLine}
use Rattle.reader.specs.Rows.{exit_told, last_from}

last_more : (n : ℕ) (x : ExitLine) (xs : List ExitLine) (d : ExitLine) → last_from n (map exit_told (x ∷ xs)) ≡ (get_or (x ∷ xs) (length xs) d).from
last_more n x [] d = refl
last_more n x (y ∷ ys) d = last_more x.from y ys d

pub last_read : (xs : List ExitLine) (o : Option (Bor ExitLine)) (r : ℕ) → option_copied o ≡ slice_get xs (length xs - 1) → MatchOption o (r ≡ 0) (λ x. r ≡ x.now.from) → r ≡ last_from 0 (map exit_told xs)
last_read [] None r e h = h
last_read [] (Some y) r e h = absurd (cc)
last_read (x ∷ xs) None r e h = let s = slice_get-get_or (x ∷ xs) (suc (length xs) - 1) x (omega arith) in absurd (cc)
last_read (x ∷ xs) (Some y) r e h =
    let m : suc (length xs) - 1 ≡ length xs = omega arith in
    let s : slice_get (x ∷ xs) (length xs) ≡ Some y.now = ap (slice_get (x ∷ xs)) (sym m) ∙ sym e in
    h ∙ sym (last_more 0 x xs y.now ∙ ap (λ z. z.from) (get_or_from_slice_get (x ∷ xs) (length xs) y.now y.now s))
