-- The modes on the way of a walk.
use Rattle.std.proofs.Common.{◌≡◌, ℕ, zero, suc, ◌<◌, ◌≤◌, true, false, eqb, ◌⊎◌, List, [], ◌∷◌, ◌++◌, length, get_or, take, Some, None, Option, sym, refl, ap, ◌∙◌, subst, inl, inr, ⊎_elim, arith, length-take}
use Rattle.std.specs.List.{list_any}
use Rattle.std.proofs.lemmas.List.{get_or-take, get_or_push, get_or_append_left, get_or_default, length_push}
use Rattle.std.proofs.lemmas.List.Folds.{Any-from_list_any}
use Rattle.std.proofs.lemmas.Map.Keys.{IsDistinct-from_apart}
use Rattle.std.proofs.lemmas.Map.Steps.{length-le_from_distinct_below}
use Rattle.std.proofs.lemmas.Bool.{cases_lt, cases_eq, ne_eqb, eqb-true}
use Rattle.std.proofs.lemmas.Option.{same_Some}
use Rattle.charts.specs.declared.lead.Lead.{Lead}
use Rattle.courses.specs.Courses.{Exits, Course, Leads, modes_along}
use Rattle.courses.proofs.Walks.{first_exit, leads_first}
use Rattle.courses.proofs.Bounds.{Bounded}

-- no number stands twice in the list
abbrev pub Apart : List ℕ → Type 0
Apart ms = (i k : ℕ) → i < k → k < length ms → get_or ms i 0 ≡ get_or ms k 0 → ⊥

-- z stands in the list
abbrev pub Met : ℕ → List ℕ → Type 0
Met z ms = (k : ℕ) × (k < length ms) × (get_or ms k 0 ≡ z)

pub met_or_not : (z : ℕ) (ms : List ℕ) → Met z ms ⊎ (Met z ms → ⊥)
met_or_not z [] = inr (λ h. omega (arith, h.1))
met_or_not z (y ∷ ms) =
    ⊎_elim
    (λ (e : y ≡ z). inl (zero, omega arith, e))
    (λ (other : y ≡ z → ⊥). ⊎_elim (λ (h : Met z ms). inl (suc h.0, omega (arith, h.1), h.2)) (λ (h : Met z ms → ⊥). inr (λ k. go other h k.0 k.1 k.2)) (met_or_not z ms))
    (cases_eq y z)
  where
    go : (y ≡ z → ⊥) → (Met z ms → ⊥) → (k : ℕ) → k < length (y ∷ ms) → get_or (y ∷ ms) k 0 ≡ z → ⊥
    go other none zero l e = other e
    go other none (suc k) l e = none (k, omega arith, e)

pub apart_take : (j : ℕ) (ms : List ℕ) → Apart ms → Apart (take j ms)
apart_take j ms apart i k h l e =
    let size = length-take j ms in
    apart i k h (omega arith) (sym (get_or-take j ms i 0 (omega arith)) ∙ e ∙ get_or-take j ms k 0 (omega arith))

pub apart_push : (ms : List ℕ) (z : ℕ) → Apart ms → (Met z ms → ⊥) → Apart (ms ++ z ∷ [])
apart_push ms z apart new i k h l e =
    let size = length_push ms z in
    let front : get_or (ms ++ z ∷ []) i 0 ≡ get_or ms i 0 = get_or_append_left ms (z ∷ []) 0 i (omega arith) in
    ⊎_elim
    (λ (within : k < length ms). apart i k h within (sym front ∙ e ∙ get_or_append_left ms (z ∷ []) 0 k within))
    (λ (last : length ms ≤ k). new (i, omega arith, sym front ∙ e ∙ get_or_push ms z 0 k (omega arith)))
    (cases_lt k (length ms))

-- different numbers below n are at most n
pub apart_few : (ms : List ℕ) (n : ℕ) → Apart ms → ((k : ℕ) → k < length ms → get_or ms k 0 < n) → length ms ≤ n
apart_few ms n apart low =
    length-le_from_distinct_below ms n (IsDistinct-from_apart eqb ms differ) listed_low
  where
    differ : (i j d : ℕ) → i < j → j < length ms → eqb (get_or ms i d) (get_or ms j d) ≡ false
    differ i j d h l =
        ne_eqb (get_or ms i d) (get_or ms j d) (λ e. apart i j h l (get_or_default ms i 0 d (omega arith) ∙ e ∙ get_or_default ms j d 0 l))

    listed_low : (q : ℕ) → list_any (eqb q) ms ≡ true → q < n
    listed_low q h =
        let a = Any-from_list_any (eqb q) ms h in
        let same = get_or_default ms a.0 0 a.1 a.2 in
        omega (arith, low a.0 a.2, eqb-true q a.1 a.4, a.3)

module _ (x : Exits) where
  pub modes_first : (p e : ℕ) (a : Course) (l : Lead) → x p e ≡ Some l → modes_along x p (e ∷ a) ≡ p ∷ modes_along x l.to a
  modes_first p e a l h = ap (λ (o : Option Lead). p ∷ elim o as (λ _. List ℕ) [ None ↦ [] | Some k ↦ modes_along x k.to a ]) h

  -- a walk meets a mode more than it has steps
  pub length_modes : (p q : ℕ) (a : Course) → Leads x p q a → length (modes_along x p a) ≡ suc (length a)
  length_modes p q [] h = refl
  length_modes p q (e ∷ a) h =
      let f = first_exit x p q e a h in
      ap length (modes_first p e a f.0 f.1) ∙ ap suc (length_modes f.0.to q a f.2)

  -- one step more meets one mode more
  pub modes_push : (p q e : ℕ) (a : Course) (l : Lead) → Leads x p q a → x q e ≡ Some l → modes_along x p (a ++ e ∷ []) ≡ modes_along x p a ++ l.to ∷ []
  modes_push p q e [] l h k = modes_first p e [] l (ap (λ r. x r e) (same_Some p q h) ∙ k)
  modes_push p q e (g ∷ a) l h k =
      let f = first_exit x p q g a h in
      modes_first p g (a ++ e ∷ []) f.0 f.1 ∙ ap (λ ms. p ∷ ms) (modes_push f.0.to q e a l f.2 k) ∙ sym (ap (λ ms. ms ++ l.to ∷ []) (modes_first p g a f.0 f.1))

  -- a front of a walk meets the front of its modes
  pub modes_take : (p q i : ℕ) (a : Course) → Leads x p q a → modes_along x p (take i a) ≡ take (suc i) (modes_along x p a)
  modes_take p q zero [] h = refl
  modes_take p q zero (e ∷ a) h = refl
  modes_take p q (suc i) [] h = refl
  modes_take p q (suc i) (e ∷ a) h =
      let f = first_exit x p q e a h in
      modes_first p e (take i a) f.0 f.1 ∙ ap (λ ms. p ∷ ms) (modes_take f.0.to q i a f.2) ∙ sym (ap (take (suc (suc i))) (modes_first p e a f.0 f.1))

  -- the mode at place i is where the first i steps lead
  pub leads_take : (p q i : ℕ) (a : Course) → Leads x p q a → i ≤ length a → Leads x p (get_or (modes_along x p a) i 0) (take i a)
  leads_take p q zero [] h k = refl
  leads_take p q zero (e ∷ a) h k = refl
  leads_take p q (suc i) [] h k = absurd (omega arith)
  leads_take p q (suc i) (e ∷ a) h k =
      let f = first_exit x p q e a h in
      subst (λ ms. Leads x p (get_or ms (suc i) 0) (e ∷ take i a)) (sym (modes_first p e a f.0 f.1)) (leads_first x p (get_or (modes_along x f.0.to a) i 0) e (take i a) f.0 f.1 (leads_take f.0.to q i a f.2 (omega arith)))

  module _ (n : ℕ) (bounded : Bounded x n) where
    modes_below : (p q : ℕ) (a : Course) → Leads x p q a → p < n → (i : ℕ) → i < length (modes_along x p a) → get_or (modes_along x p a) i 0 < n
    modes_below p q a h low zero k = first a
      where
        first : (b : Course) → get_or (modes_along x p b) 0 0 < n
        first [] = low
        first (e ∷ b) = low
    modes_below p q [] h low (suc i) k = absurd (omega arith)
    modes_below p q (e ∷ a) h low (suc i) k =
        let f = first_exit x p q e a h in
        let modes = modes_first p e a f.0 f.1 in
        let size = ap length modes in
        subst (λ ms. get_or ms (suc i) 0 < n) (sym modes) (modes_below f.0.to q a f.2 (bounded.known_target p e f.0 f.1) i (omega arith))

    -- a walk that meets no mode twice has fewer steps than there are modes
    pub apart_short : (p q : ℕ) (a : Course) → Leads x p q a → Apart (modes_along x p a) → length a < n
    apart_short p q [] h apart = omega (arith, bounded.some_mode)
    apart_short p q (e ∷ a) h apart =
        let f = first_exit x p q e a h in
        let low = modes_below p q (e ∷ a) h (bounded.known_source p e f.0 f.1) in
        let size = length_modes p q (e ∷ a) h in
        let few = apart_few (modes_along x p (e ∷ a)) n apart low in
        omega arith
