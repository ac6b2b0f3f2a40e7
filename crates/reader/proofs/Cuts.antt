-- A text has one first mark.
use Rattle.std.proofs.Common.{◌≡◌, ◌≢◌, ℕ, ◌+◌, ◌-◌, ◌<◌, List, [], ◌∷◌, ◌++◌, length, take, drop, sym, refl, ap, ◌∙◌, take-append-drop, arith}
use Rattle.std.specs.List.{HoldsAt, AllWithin}
use Rattle.std.proofs.ByRecursion.{All-from_get_or}
use Rattle.std.proofs.lemmas.List.{drop_more, take_rest, get_or-take, length-take}
use Rattle.reader.specs.Lines.{Free, Cut}

-- two cuts of a text at its first mark are the same
pub cut_once : (e : ℕ) (xs ys us vs : List ℕ) → Free e xs → Free e ys → xs ++ e ∷ us ≡ ys ++ e ∷ vs → (xs ≡ ys) × (us ≡ vs)
cut_once e [] [] us vs p q h = (refl, cc)
cut_once e [] (y ∷ ys) us vs p q h = absurd (q.0 (cc))
cut_once e (x ∷ xs) [] us vs p q h = absurd (p.0 (cc))
cut_once e (x ∷ xs) (y ∷ ys) us vs p q h =
    let t : xs ++ e ∷ us ≡ ys ++ e ∷ vs = cc in
    let r = cut_once e xs ys us vs p.1 q.1 t in
    (let a : x ≡ y = cc in let b = r.0 in cc, r.1)

-- a text with a mark in it is not free of the mark
pub not_free : (e : ℕ) (xs us : List ℕ) → Free e (xs ++ e ∷ us) → ⊥
not_free e [] us p = p.0 refl
not_free e (x ∷ xs) us p = not_free e xs us p.1

-- the cut at the place i where the first mark stands, as a slice of the code has its parts
pub cut_found : (e : ℕ) (text : List ℕ) (i : ℕ) → (i < length text) × HoldsAt (λ b. b ≡ e) text i × AllWithin (λ b. b ≢ e) text 0 i → Cut e text (take i text) (take (length text - (i + 1)) (drop (i + 1) text))
cut_found e text i h =
    let l = h.0 in
    let free : Free e (take i text) = All-from_get_or (λ b. b ≢ e) (take i text) 0 (λ k lt. let b : k < i = omega (arith, length-take {A = ℕ}) in rw (get_or-take i text k 0 b) (h.2 k 0 (omega arith) b)) in
    rw take_rest (free, sym (take-append-drop i text) ∙ ap (λ t. take i text ++ t) (drop_more text i 0 l ∙ ap (λ b. b ∷ drop (i + 1) text) (h.1 0)))
