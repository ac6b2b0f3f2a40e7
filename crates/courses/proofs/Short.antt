-- Every course has a short one that is the same or stands before it, also behind a front.
use Rattle.std.proofs.Common.{◌≡◌, ℕ, ◌+◌, ◌<◌, ◌≤◌, true, ◌⊎◌, [], ◌++◌, length, Some, None, Option, sym, refl, ap, ◌∙◌, subst, inl, inr, ⊎_elim, arith, length-append}
use Rattle.measures.specs.Laws.{Laws, Below, longest}
use Rattle.measures.specs.Operations.{Operations}
use Rattle.std.proofs.lemmas.Option.{same_Some}
use Rattle.courses.specs.Courses.{Exits, Course, Leads, value_of, Smaller, Before, Least}
use Rattle.courses.proofs.Bounds.{Bounded}
use Rattle.courses.proofs.Direct.{direct}
use Rattle.courses.proofs.Walks.{leads_append, value_exists}
use Rattle.courses.proofs.Order.{at_most_cases, before_never, before_not_both, before_through}
use Rattle.courses.proofs.Fronts.{before_front}
use Rattle.courses.proofs.Same.{same_course}

module _ {V : Type 0} {m : Operations V} (laws : Laws m) (x : Exits) (n : ℕ) (bound : Bounded x n) where
  -- of two walks behind a front, one that is shorter and not greater stands first
  shorter_first : (p : ℕ) (a b : Course) (v : V) → value_of m x p b ≡ Some v → ((w : V) → value_of m x p a ≡ Some w → m.at_most v w ≡ true) → length b < length a → Before m x p b a
  shorter_first p a b v e most less = go (value_of m x p a) refl
    where
      go : (o : Option V) → value_of m x p a ≡ o → Before m x p b a
      go None h = inl (subst (λ q. Smaller m q (value_of m x p a)) (sym e) (subst (Smaller m (Some v)) (sym h) tt))
      go (Some w) h =
          ⊎_elim
          (λ (same : v ≡ w). inr (e ∙ ap Some same ∙ sym h, inl less))
          (λ (below : Below m v w). inl (subst (λ q. Smaller m q (value_of m x p a)) (sym e) (subst (Smaller m (Some v)) (sym h) below)))
          (at_most_cases laws v w (most w h))

  pub short_behind : (p q r : ℕ) (f a : Course) → Leads x p q f → Leads x q r a → length f + n ≤ longest → (b : Course) × Leads x q r b × (length b < n) × ((b ≡ a) ⊎ Before m x p (f ++ b) (f ++ a))
  short_behind p q r f a hf ha room =
      let d = direct laws x n bound p q r f a hf ha room in
      let b = d.0 in
      let v = value_exists laws x p r (f ++ b) (leads_append x p q r f b hf d.1.leads) (omega (arith, length-append f b, d.2)) in (
        b,
        d.1.leads,
        d.2,
        ⊎_elim
            (λ (same : b ≡ a). inl same)
            (λ (less : length b < length a).
            inr (shorter_first p (f ++ a) (f ++ b) v.0 v.1
            (λ w h. let k = d.1.no_greater w h in subst (λ u. m.at_most u w ≡ true) (same_Some k.0 v.0 (sym k.1 ∙ v.1)) k.2)
            (omega (arith, length-append f a, length-append f b))))
            d.1.no_longer,
      )

  -- a least course has fewer steps than there are modes
  pub least_short : (t p : ℕ) (a : Course) → Least m x t p a → length a < n
  least_short t p a least =
      let few = bound.few_modes in
      let b = short_behind p p t [] a refl least.leads (omega arith) in
      ⊎_elim
      (λ (same : b.0 ≡ a). subst (λ c. length c < n) same b.2)
      (λ (before : Before m x p b.0 a).
      absurd (before_not_both laws x p b.0 a before (least.first b.0 b.1 (λ same. before_never laws x p a (subst (λ c. Before m x p c a) same before)))))
      b.3

  -- the least course of where a front ends gives a course that is the given one or stands before it, of whatever length
  pub least_behind : (p q t : ℕ) (f a r : Course) → Leads x p q f → Leads x q t a → length f + n ≤ longest → Least m x t q r → (r ≡ a) ⊎ Before m x p (f ++ r) (f ++ a)
  least_behind p q t f a r hf ha room least =
      let b = short_behind p q t f a hf ha room in
      let size = least_short t q r least in
      let not_after : (b.0 ≡ r) ⊎ Before m x p (f ++ r) (f ++ b.0) =
      ⊎_elim
      (λ (same : b.0 ≡ r). inl same)
      (λ (other : b.0 ≡ r → ⊥). inr (before_front laws x p q t f r b.0 hf least.leads b.1 (omega arith) (omega (arith, b.2)) (least.first b.0 b.1 other)))
      (same_course b.0 r) in
      ⊎_elim
      (λ (here : b.0 ≡ a).
      ⊎_elim (λ (same : b.0 ≡ r). inl (sym same ∙ here)) (λ (h : Before m x p (f ++ r) (f ++ b.0)). inr (subst (λ c. Before m x p (f ++ r) (f ++ c)) here h)) not_after)
      (λ (before : Before m x p (f ++ b.0) (f ++ a)).
      inr (⊎_elim
      (λ (same : b.0 ≡ r). subst (λ c. Before m x p (f ++ c) (f ++ a)) same before)
      (λ (h : Before m x p (f ++ r) (f ++ b.0)). before_through laws x p (f ++ r) (f ++ b.0) (f ++ a) h before)
      not_after))
      b.3
