-- The order of courses is strict and total.
use Rattle.std.proofs.Common.{◌≡◌, ℕ, ◌<◌, true, false, ◌⊎◌, [], ◌∷◌, length, Some, None, Option, sym, refl, ap, ◌∙◌, subst, inl, inr, ⊎_elim, arith}
use Rattle.std.proofs.lemmas.Bool.{cases_Bool, cases_order, both_ways}
use Rattle.measures.specs.Laws.{Laws, Below}
use Rattle.measures.specs.Operations.{Operations}
use Rattle.measures.proofs.Rows.{at_most_itself}
use Rattle.courses.specs.Courses.{Exits, Course, value_of, Smaller, Lower, Shorter, Before}

pub lower_never : (a : Course) → Lower a a → ⊥
lower_never [] h = h
lower_never (e ∷ a) h = ⊎_elim (λ (l : e < e). omega arith) (λ (k : (e ≡ e) × Lower a a). lower_never a k.1) h

pub lower_through : (a b c : Course) → Lower a b → Lower b c → Lower a c
lower_through [] b c h k = absurd h
lower_through (e ∷ a) [] c h k = absurd h
lower_through (e ∷ a) (f ∷ b) [] h k = absurd k
lower_through (e ∷ a) (f ∷ b) (g ∷ c) h k =
    ⊎_elim
    (λ (l : e < f). ⊎_elim (λ (n : f < g). inl (omega arith)) (λ (n : (f ≡ g) × Lower b c). inl (omega (arith, n.0))) k)
    (λ (l : (e ≡ f) × Lower a b). ⊎_elim (λ (n : f < g). inl (omega (arith, l.0))) (λ (n : (f ≡ g) × Lower b c). inr (l.0 ∙ n.0, lower_through a b c l.1 n.1)) k)
    h

-- of two different courses with as many steps one is lower
pub lower_either : (a b : Course) → length a ≡ length b → (a ≡ b) ⊎ (Lower a b ⊎ Lower b a)
lower_either [] [] n = inl refl
lower_either [] (f ∷ b) n = absurd (omega arith)
lower_either (e ∷ a) [] n = absurd (omega arith)
lower_either (e ∷ a) (f ∷ b) n =
    ⊎_elim
    (λ (same : e ≡ f).
    ⊎_elim
    (λ (r : a ≡ b). inl (λ i. same i ∷ r i))
    (⊎_elim (λ (r : Lower a b). inr (inl (inr (same, r)))) (λ (r : Lower b a). inr (inr (inr (sym same, r)))))
    (lower_either a b (omega arith)))
    (⊎_elim (λ (l : e < f). inr (inl (inl l))) (λ (l : f < e). inr (inr (inl l))))
    (cases_order e f)

pub shorter_never : (a : Course) → Shorter a a → ⊥
shorter_never a h = ⊎_elim (λ (l : length a < length a). omega arith) (λ (k : (length a ≡ length a) × Lower a a). lower_never a k.1) h

pub shorter_through : (a b c : Course) → Shorter a b → Shorter b c → Shorter a c
shorter_through a b c h k =
    ⊎_elim
    (λ (l : length a < length b). ⊎_elim (λ (n : length b < length c). inl (omega arith)) (λ (n : (length b ≡ length c) × Lower b c). inl (omega (arith, n.0))) k)
    (λ (l : (length a ≡ length b) × Lower a b). ⊎_elim (λ (n : length b < length c). inl (omega (arith, l.0))) (λ (n : (length b ≡ length c) × Lower b c). inr (l.0 ∙ n.0, lower_through a b c l.1 n.1)) k)
    h

pub shorter_either : (a b : Course) → (a ≡ b) ⊎ (Shorter a b ⊎ Shorter b a)
shorter_either a b =
    ⊎_elim
    (λ (same : length a ≡ length b).
    ⊎_elim (λ (r : a ≡ b). inl r) (⊎_elim (λ (r : Lower a b). inr (inl (inr (same, r)))) (λ (r : Lower b a). inr (inr (inr (sym same, r))))) (lower_either a b same))
    (⊎_elim (λ (l : length a < length b). inr (inl (inl l))) (λ (l : length b < length a). inr (inr (inl l))))
    (cases_order (length a) (length b))

module _ {V : Type 0} {m : Operations V} (laws : Laws m) where
  below_never : (a : V) → Below m a a → ⊥
  below_never a h = both_ways (m.at_most a a) h (at_most_itself laws a)

  pub at_most_below : (a b c : V) → m.at_most a b ≡ true → Below m b c → Below m a c
  at_most_below a b c h k =
      ⊎_elim (λ (l : m.at_most c a ≡ true). absurd (both_ways (m.at_most c b) k (laws.carries c a b l h))) (λ (l : m.at_most c a ≡ false). l) (cases_Bool (m.at_most c a))

  below_through : (a b c : V) → Below m a b → Below m b c → Below m a c
  below_through a b c h k = at_most_below a b c (laws.either b a h) k

  -- at most: less, or equal
  pub at_most_cases : (a b : V) → m.at_most a b ≡ true → (a ≡ b) ⊎ Below m a b
  at_most_cases a b h = ⊎_elim (λ (k : m.at_most b a ≡ true). inl (laws.equal a b h k)) (λ (k : m.at_most b a ≡ false). inr k) (cases_Bool (m.at_most b a))

  pub smaller_never : (o : Option V) → Smaller m o o → ⊥
  smaller_never None h = h
  smaller_never (Some a) h = below_never a h

  pub smaller_through : (o q r : Option V) → Smaller m o q → Smaller m q r → Smaller m o r
  smaller_through None q r h k = absurd h
  smaller_through (Some a) None r h k = absurd k
  smaller_through (Some a) (Some b) None h k = tt
  smaller_through (Some a) (Some b) (Some c) h k = below_through a b c h k

  pub smaller_either : (o q : Option V) → (o ≡ q) ⊎ (Smaller m o q ⊎ Smaller m q o)
  smaller_either None None = inl refl
  smaller_either None (Some b) = inr (inr tt)
  smaller_either (Some a) None = inr (inl tt)
  smaller_either (Some a) (Some b) =
      ⊎_elim (λ (h : m.at_most a b ≡ true). ⊎_elim (λ (e : a ≡ b). inl (ap Some e)) (λ (l : Below m a b). inr (inl l)) (at_most_cases a b h)) (λ (h : m.at_most a b ≡ false). inr (inr h)) (cases_Bool (m.at_most a b))

  module _ (x : Exits) (p : ℕ) where
    abbrev value : Course → Option V
    value a = value_of m x p a

    pub before_never : (a : Course) → Before m x p a a → ⊥
    before_never a h = ⊎_elim (λ (l : Smaller m (value a) (value a)). smaller_never (value a) l) (λ (l : (value a ≡ value a) × Shorter a a). shorter_never a l.1) h

    pub before_through : (a b c : Course) → Before m x p a b → Before m x p b c → Before m x p a c
    before_through a b c h k =
        ⊎_elim
        (λ (l : Smaller m (value a) (value b)).
        ⊎_elim
        (λ (n : Smaller m (value b) (value c)). inl (smaller_through (value a) (value b) (value c) l n))
        (λ (n : (value b ≡ value c) × Shorter b c). inl (subst (Smaller m (value a)) n.0 l))
        k)
        (λ (l : (value a ≡ value b) × Shorter a b).
        ⊎_elim
        (λ (n : Smaller m (value b) (value c)). inl (subst (λ o. Smaller m o (value c)) (sym l.0) n))
        (λ (n : (value b ≡ value c) × Shorter b c). inr (l.0 ∙ n.0, shorter_through a b c l.1 n.1))
        k)
        h

    pub before_either : (a b : Course) → (a ≡ b) ⊎ (Before m x p a b ⊎ Before m x p b a)
    before_either a b =
        ⊎_elim
        (λ (same : value a ≡ value b).
        ⊎_elim (λ (r : a ≡ b). inl r) (⊎_elim (λ (r : Shorter a b). inr (inl (inr (same, r)))) (λ (r : Shorter b a). inr (inr (inr (sym same, r))))) (shorter_either a b))
        (⊎_elim (λ (l : Smaller m (value a) (value b)). inr (inl (inl l))) (λ (l : Smaller m (value b) (value a)). inr (inr (inl l))))
        (smaller_either (value a) (value b))

    -- one of two courses is not after the other
    pub before_not_both : (a b : Course) → Before m x p a b → Before m x p b a → ⊥
    before_not_both a b h k = before_never a (before_through a b a h k)
