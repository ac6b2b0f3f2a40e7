-- Sorted lists: how a list is shown to hold the first courses. Each stands before the next, and the last before every other course.
use Rattle.std.proofs.Common.{◌≡◌, ℕ, zero, suc, ◌<◌, true, ◌⊎◌, List, [], ◌∷◌, ◌++◌, length, get_or, Some, None, Option, sym, refl, ap, ◌∙◌, subst, inl, inr, ⊎_elim, arith}
use Rattle.std.specs.List.{AllByRecursion}
use Rattle.std.proofs.ByRecursion.{All-get_or}
use Rattle.measures.specs.Laws.{Laws, Below}
use Rattle.measures.specs.Rows.{row_from, row_value}
use Rattle.measures.specs.Operations.{Operations}
use Rattle.measures.proofs.Rows as rows
use Rattle.courses.specs.Courses.{Exits, Course, Leads, steps_along, value_of, Smaller, Before, Least, Listed, FirstCourses}
use Rattle.courses.proofs.Walks.{steps_append}
use Rattle.courses.proofs.Order.{at_most_cases, before_through}

-- a stands before the first of the list, and each of them before the next
abbrev pub Rising : {V : Type 0} → Operations V → Exits → ℕ → Course → List Course → Type 0
Rising m x s a [] = Unit {0}
Rising m x s a (b ∷ bs) = Before m x s a b × Rising m x s b bs

-- the last of the list, a where it is empty
abbrev pub last_of : Course → List Course → Course
last_of a [] = a
last_of a (b ∷ bs) = last_of b bs

-- c is in the list, or comes after the last of it
abbrev pub Placed : {V : Type 0} → Operations V → Exits → ℕ → Course → List Course → Course → Type 0
Placed m x s a bs c = Listed c (a ∷ bs) ⊎ Before m x s (last_of a bs) c

-- the courses from s to t are those of the list, in order, and others that come after the last of it
pub record Sorted {V : Type 0} (m : Operations V) (x : Exits) (s t : ℕ) (a : Course) (bs : List Course) : Type 0 where
  pub leads : AllByRecursion (Leads x s t) (a ∷ bs)
  pub rising : Rising m x s a bs
  pub rest : (c : Course) → Leads x s t c → Placed m x s a bs c

module _ {V : Type 0} {m : Operations V} (laws : Laws m) where
  module _ (x : Exits) (s : ℕ) where
    -- a course stands before every longer one that comes to as much by its front f
    pub before_longer : (a f r : Course) {q : ℕ} {u w : V} → Leads x s q f → value_of m x s a ≡ Some u → value_of m x s f ≡ Some w → m.at_most u w ≡ true → length a < length (f ++ r) → Before m x s a (f ++ r)
    before_longer a f r {q} {u} {w} hf ea ef le longer = go (value_of m x s (f ++ r)) refl
      where
        smaller : (o : Option V) → value_of m x s (f ++ r) ≡ o → Smaller m (Some u) o → Before m x s a (f ++ r)
        smaller o e l = inl (subst (λ v. Smaller m v (value_of m x s (f ++ r))) (sym ea) (subst (Smaller m (Some u)) (sym e) l))

        go : (o : Option V) → value_of m x s (f ++ r) ≡ o → Before m x s a (f ++ r)
        go None e = smaller None e tt
        go (Some z) e =
            let onwards : row_from m w (steps_along x q r) ≡ Some z = sym (rows.from_append laws (steps_along x s f) (steps_along x q r) m.nothing w ef) ∙ ap (row_value m) (sym (steps_append x s q f r hf)) ∙ e in
            ⊎_elim
            (λ (same : u ≡ z). inr (ea ∙ ap Some same ∙ sym e, inl longer))
            (λ (less : Below m u z). smaller (Some z) e less)
            (at_most_cases laws u z (laws.carries u w z le (rows.rows_grow laws (steps_along x q r) w z onwards)))

    -- what comes after the last of a rising list comes after all of it
    after_all : (a : Course) (bs : List Course) (c : Course) → Rising m x s a bs → Before m x s (last_of a bs) c → AllByRecursion (λ d. Before m x s d c) (a ∷ bs)
    after_all a [] c rising h = (h, tt)
    after_all a (b ∷ bs) c rising h =
        let k = after_all b bs c rising.1 h in
        (before_through laws x s a b c rising.0 k.0, k)

    rising_first : (a : Course) (bs : List Course) (k : ℕ) → Rising m x s a bs → k < length bs → Before m x s a (get_or bs k [])
    rising_first a [] k rising h = absurd (omega arith)
    rising_first a (b ∷ bs) zero rising h = rising.0
    rising_first a (b ∷ bs) (suc k) rising h = before_through laws x s a b (get_or bs k []) rising.0 (rising_first b bs k rising.1 (omega arith))

    rising_order : (a : Course) (bs : List Course) (i k : ℕ) → Rising m x s a bs → i < k → k < length (a ∷ bs) → Before m x s (get_or (a ∷ bs) i []) (get_or (a ∷ bs) k [])
    rising_order a bs i zero rising h n = absurd (omega arith)
    rising_order a bs zero (suc k) rising h n = rising_first a bs k rising (omega arith)
    rising_order a [] (suc i) (suc k) rising h n = absurd (omega arith)
    rising_order a (b ∷ bs) (suc i) (suc k) rising h n = rising_order b bs i k rising.1 (omega arith) (omega arith)

    pub firsts : (t : ℕ) (a : Course) (bs : List Course) → Sorted m x s t a bs → FirstCourses m x s t (a ∷ bs)
    firsts t a bs sorted = record {
      courses = λ k h. All-get_or (Leads x s t) (a ∷ bs) k [] h sorted.leads;
      in_order = λ i k h n. rising_order a bs i k sorted.rising h n;
      rest_after = λ c h absent k n.
          ⊎_elim
          (λ (l : Listed c (a ∷ bs)). absurd (absent l))
          (λ (l : Before m x s (last_of a bs) c). All-get_or (λ d. Before m x s d c) (a ∷ bs) k [] n (after_all a bs c sorted.rising l))
          (sorted.rest c h);
    }

    -- the first of the list is the least course
    pub least_first : (t : ℕ) (a : Course) (bs : List Course) → Sorted m x s t a bs → Least m x t s a
    least_first t a bs sorted = record {
      leads = sorted.leads.0;
      first = λ c h other.
          ⊎_elim
          (λ (l : Listed c (a ∷ bs)). in_list c l.0 l.1 l.2 other)
          (λ (l : Before m x s (last_of a bs) c). (after_all a bs c sorted.rising l).0)
          (sorted.rest c h);
    }
      where
        in_list : (c : Course) (k : ℕ) → k < length (a ∷ bs) → get_or (a ∷ bs) k [] ≡ c → (c ≡ a → ⊥) → Before m x s a c
        in_list c zero n e other = absurd (other (sym e))
        in_list c (suc k) n e other = subst (Before m x s a) e (rising_first a bs k sorted.rising (omega arith))
