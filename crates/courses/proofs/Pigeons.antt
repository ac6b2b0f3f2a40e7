-- Different numbers below n are at most n.
use Rattle.std.proofs.Common.{◌≡◌, ℕ, zero, suc, ◌<◌, ◌≤◌, cond, eqb, ◌⊎◌, sym, ◌∙◌, inl, inr, ⊎_elim, arith}
use Rattle.std.proofs.lemmas.Bool.{cases_lt, cases_eq, cond-true, cond-false, eq-eqb, ne_eqb}

-- y, but z in the place of n
abbrev swapped : ℕ → ℕ → ℕ → ℕ
swapped n z y = cond (eqb y n) z y

swapped_cases : (n z y : ℕ) → ((y ≡ n) × (swapped n z y ≡ z)) ⊎ ((y ≡ n → ⊥) × (swapped n z y ≡ y))
swapped_cases n z y =
    ⊎_elim (λ (e : y ≡ n). inl (e, cond-true (eqb y n) z y (eq-eqb y n e))) (λ (h : y ≡ n → ⊥). inr (h, cond-false (eqb y n) z y (ne_eqb y n h))) (cases_eq y n)

-- the first k values of g are below n and no two of them are equal: then k is at most n
pub pigeons : (n k : ℕ) (g : ℕ → ℕ) → ((i : ℕ) → i < k → g i < n) → ((i j : ℕ) → i < j → j < k → g i ≡ g j → ⊥) → k ≤ n
pigeons zero k g low apart = ⊎_elim (λ (h : 0 < k). absurd (omega (arith, low 0 h))) (λ (h : k ≤ 0). h) (cases_lt 0 k)
pigeons (suc n) zero g low apart = omega arith
pigeons (suc n) (suc k) g low apart = omega (arith, pigeons n k (λ i. swapped n (g k) (g i)) low' apart')
  where
    low' : (i : ℕ) → i < k → swapped n (g k) (g i) < n
    low' i h =
        ⊎_elim
        (λ (s : (g i ≡ n) × (swapped n (g k) (g i) ≡ g k)).
        let other : g k ≡ n → ⊥ = λ e. apart i k h (omega arith) (s.0 ∙ sym e) in
        omega (arith, low k (omega arith)))
        (λ (s : (g i ≡ n → ⊥) × (swapped n (g k) (g i) ≡ g i)). omega (arith, low i (omega arith)))
        (swapped_cases n (g k) (g i))

    apart' : (i j : ℕ) → i < j → j < k → swapped n (g k) (g i) ≡ swapped n (g k) (g j) → ⊥
    apart' i j h l e =
        ⊎_elim
        (λ (s : (g i ≡ n) × (swapped n (g k) (g i) ≡ g k)).
        ⊎_elim
        (λ (r : (g j ≡ n) × (swapped n (g k) (g j) ≡ g k)). apart i j h (omega arith) (s.0 ∙ sym r.0))
        (λ (r : (g j ≡ n → ⊥) × (swapped n (g k) (g j) ≡ g j)). apart j k l (omega arith) (sym r.1 ∙ sym e ∙ s.1))
        (swapped_cases n (g k) (g j)))
        (λ (s : (g i ≡ n → ⊥) × (swapped n (g k) (g i) ≡ g i)).
        ⊎_elim
        (λ (r : (g j ≡ n) × (swapped n (g k) (g j) ≡ g k)). apart i k (omega arith) (omega arith) (sym s.1 ∙ e ∙ r.1))
        (λ (r : (g j ≡ n → ⊥) × (swapped n (g k) (g j) ≡ g j)). apart i j h (omega arith) (sym s.1 ∙ e ∙ r.1))
        (swapped_cases n (g k) (g j)))
        (swapped_cases n (g k) (g i))
