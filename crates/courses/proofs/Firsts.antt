-- The first of the courses from one mode that something holds of.
use Rattle.std.proofs.Common.{◌≡◌, ℕ, zero, suc, ◌<◌, ◌≤◌, ◌⊎◌, sym, subst, inl, inr, ⊎_elim, arith}
use Rattle.std.proofs.lemmas.Bool.{cases_lt}
use Rattle.measures.specs.Laws.{Laws}
use Rattle.measures.specs.Operations.{Operations}
use Rattle.courses.specs.Courses.{Exits, Course, Before}
use Rattle.courses.proofs.Order.{before_through, before_either}

-- a is b or stands before it, both taken from mode p
abbrev pub NotAfter : {V : Type 0} → Operations V → Exits → ℕ → Course → Course → Type 0
NotAfter m x p a b = (a ≡ b) ⊎ Before m x p a b

-- a is the first of the courses from p that P holds of
pub record FirstOf {V : Type 0} (m : Operations V) (x : Exits) (p : ℕ) (P : Course → Type 0) (a : Course) : Type 0 where
  pub holds : P a
  pub first : (b : Course) → P b → NotAfter m x p a b

-- P has a first course, or holds of none
abbrev pub FirstOrNone : {V : Type 0} → Operations V → Exits → ℕ → (Course → Type 0) → Type 0
FirstOrNone m x p P = ((a : Course) × FirstOf m x p P a) ⊎ ((a : Course) → P a → ⊥)

module _ {V : Type 0} {m : Operations V} (laws : Laws m) (x : Exits) (p : ℕ) where
  pub not_after_through : (a b c : Course) → NotAfter m x p a b → NotAfter m x p b c → NotAfter m x p a c
  not_after_through a b c h k =
      ⊎_elim
      (λ (e : a ≡ b). subst (λ d. NotAfter m x p d c) (sym e) k)
      (λ (l : Before m x p a b). ⊎_elim (λ (e : b ≡ c). inr (subst (Before m x p a) e l)) (λ (n : Before m x p b c). inr (before_through laws x p a b c l n)) k)
      h

  -- the first of the one kind, if it is not after the first of the other, is the first of both
  first_of_both : (P Q : Course → Type 0) (a b : Course) → FirstOf m x p P a → FirstOf m x p Q b → NotAfter m x p a b → FirstOf m x p (λ c. P c ⊎ Q c) a
  first_of_both P Q a b f g h = record {
    holds = inl f.holds;
    first = λ c. ⊎_elim (λ (k : P c). f.first c k) (λ (k : Q c). not_after_through a b c h (g.first c k));
  }

  -- two conditions that say the same have the same first course
  pub same_kind : (P Q : Course → Type 0) → ((a : Course) → P a → Q a) → ((a : Course) → Q a → P a) → FirstOrNone m x p P → FirstOrNone m x p Q
  same_kind P Q to back =
      ⊎_elim
      (λ (f : (a : Course) × FirstOf m x p P a). inl (f.0, record { holds = to f.0 f.1.holds; first = λ b h. f.1.first b (back b h) }))
      (λ (none : (a : Course) → P a → ⊥). inr (λ a h. none a (back a h)))

  -- the first over two kinds of courses
  pub first_of_two : (P Q : Course → Type 0) → FirstOrNone m x p P → FirstOrNone m x p Q → FirstOrNone m x p (λ c. P c ⊎ Q c)
  first_of_two P Q (inl f) (inl g) =
      ⊎_elim
      (λ (e : f.0 ≡ g.0). inl (f.0, first_of_both P Q f.0 g.0 f.1 g.1 (inl e)))
      (⊎_elim
      (λ (l : Before m x p f.0 g.0). inl (f.0, first_of_both P Q f.0 g.0 f.1 g.1 (inr l)))
      (λ (l : Before m x p g.0 f.0).
      same_kind (λ c. Q c ⊎ P c) (λ c. P c ⊎ Q c) (λ c. ⊎_elim inr inl) (λ c. ⊎_elim inr inl) (inl (g.0, first_of_both Q P g.0 f.0 g.1 f.1 (inr l)))))
      (before_either laws x p f.0 g.0)
  first_of_two P Q (inl f) (inr none) = same_kind P (λ c. P c ⊎ Q c) (λ c. inl) (λ c. ⊎_elim (λ (h : P c). h) (λ (h : Q c). absurd (none c h))) (inl f)
  first_of_two P Q (inr none) (inl g) = same_kind Q (λ c. P c ⊎ Q c) (λ c. inr) (λ c. ⊎_elim (λ (h : P c). absurd (none c h)) (λ (h : Q c). h)) (inl g)
  first_of_two P Q (inr none) (inr nor) = inr (λ c. ⊎_elim (none c) (nor c))

  -- the first over all exits below j
  pub first_of_exits : (P : ℕ → Course → Type 0) → ((e : ℕ) → FirstOrNone m x p (P e)) → (j : ℕ) → FirstOrNone m x p (λ c. (e : ℕ) × (e < j) × P e c)
  first_of_exits P each zero = inr (λ c h. omega (arith, h.1))
  first_of_exits P each (suc j) =
      same_kind
      (λ c. ((e : ℕ) × (e < j) × P e c) ⊎ P j c)
      (λ c. (e : ℕ) × (e < suc j) × P e c)
      (λ c. ⊎_elim (λ (h : (e : ℕ) × (e < j) × P e c). (h.0, omega (arith, h.1), h.2)) (λ (h : P j c). (j, omega arith, h)))
      (λ c h. ⊎_elim (λ (l : h.0 < j). inl (h.0, l, h.2)) (λ (l : j ≤ h.0). inr (subst (λ e. P e c) (omega (arith, h.1)) h.2)) (cases_lt h.0 j))
      (first_of_two (λ c. (e : ℕ) × (e < j) × P e c) (P j) (first_of_exits P each j) (each j))
