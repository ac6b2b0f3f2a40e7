-- Whether two courses are the same, and whether a course is in a list.
use Rattle.std.proofs.Common.{◌≡◌, ℕ, zero, suc, ◌<◌, ◌⊎◌, List, [], ◌∷◌, length, get_or, bytes_eq, inl, inr, ⊎_elim, arith}
use Rattle.std.proofs.lemmas.Bool.{cases_Bool}
use Rattle.std.proofs.lemmas.Bool.Decides.{not_from_Decides}
use Rattle.std.proofs.lemmas.Slice.Eq.{bytes_eq-Decides}
use Rattle.courses.specs.Courses.{Course, Listed}

pub same_course : (a b : Course) → (a ≡ b) ⊎ (a ≡ b → ⊥)
same_course a b =
    let told = bytes_eq-Decides a b in
    ⊎_elim (λ h. inl (told.0 h)) (λ h. inr (not_from_Decides (bytes_eq a b) told h)) (cases_Bool (bytes_eq a b))

listed_later : (a d : Course) (ds : List Course) → Listed a ds → Listed a (d ∷ ds)
listed_later a d ds h = (suc h.0, omega (arith, h.1), h.2)

pub listed_or_not : (a : Course) (ds : List Course) → Listed a ds ⊎ (Listed a ds → ⊥)
listed_or_not a [] = inr (λ h. omega (arith, h.1))
listed_or_not a (d ∷ ds) =
    ⊎_elim
    (λ (same : d ≡ a). inl (0, omega arith, same))
    (λ (other : d ≡ a → ⊥).
    ⊎_elim
    (λ (h : Listed a ds). inl (listed_later a d ds h))
    (λ (h : Listed a ds → ⊥). inr (λ (k : Listed a (d ∷ ds)). here k.0 k.1 k.2 other h))
    (listed_or_not a ds))
    (same_course d a)
  where
    here : (k : ℕ) → k < length (d ∷ ds) → get_or (d ∷ ds) k [] ≡ a → (d ≡ a → ⊥) → (Listed a ds → ⊥) → ⊥
    here zero h e other none = other e
    here (suc k) h e other none = none (k, omega arith, e)
