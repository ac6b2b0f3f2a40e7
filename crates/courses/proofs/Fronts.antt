-- A common front keeps the order of two courses.
use Rattle.std.proofs.Common.{◌≡◌, ℕ, ◌+◌, ◌<◌, ◌≤◌, [], ◌∷◌, ◌++◌, length, Some, sym, refl, ap, ◌∙◌, subst, inl, inr, ⊎_elim, arith, length-append}
use Rattle.measures.specs.Laws.{Laws, Below, longest}
use Rattle.measures.specs.Operations.{Operations}
use Rattle.std.proofs.lemmas.Option.{same_Some}
use Rattle.courses.specs.Courses.{Exits, Course, Leads, value_of, Smaller, Lower, Shorter, Before}
use Rattle.courses.proofs.Walks.{leads_append, value_exists, value_append}

lower_front : (f a b : Course) → Lower a b → Lower (f ++ a) (f ++ b)
lower_front [] a b h = h
lower_front (e ∷ f) a b h = inr (refl, lower_front f a b h)

pub shorter_front : (f a b : Course) → Shorter a b → Shorter (f ++ a) (f ++ b)
shorter_front f a b h =
    let p = length-append f a in
    let q = length-append f b in
    ⊎_elim (λ (l : length a < length b). inl (omega arith)) (λ (l : (length a ≡ length b) × Lower a b). inr (omega (arith, l.0), lower_front f a b l.1)) h

module _ {V : Type 0} {m : Operations V} (laws : Laws m) (x : Exits) where
  pub before_front : (p q r : ℕ) (f a b : Course) → Leads x p q f → Leads x q r a → Leads x q r b → length f + length a ≤ longest → length f + length b ≤ longest → Before m x q a b → Before m x p (f ++ a) (f ++ b)
  before_front p q r f a b hf ha hb na nb h =
      let u = value_exists laws x p q f hf (omega arith) in
      let va = value_exists laws x q r a ha (omega arith) in
      let vb = value_exists laws x q r b hb (omega arith) in
      let pa = length-append f a in
      let pb = length-append f b in
      let wa = value_exists laws x p r (f ++ a) (leads_append x p q r f a hf ha) (omega arith) in
      let wb = value_exists laws x p r (f ++ b) (leads_append x p q r f b hf hb) (omega arith) in
      let ja = value_append laws x p q r f a u.0 va.0 hf ha na u.1 va.1 in
      let jb = value_append laws x p q r f b u.0 vb.0 hf hb nb u.1 vb.1 in
      ⊎_elim
      (λ (l : Smaller m (value_of m x q a) (value_of m x q b)).
      let less : Below m va.0 vb.0 = subst (λ o. Smaller m o (Some vb.0)) va.1 (subst (Smaller m (value_of m x q a)) vb.1 l) in
      let more : Below m wa.0 wb.0 = laws.front_keeps va.0 vb.0 u.0 wa.0 wb.0 less (ja ∙ wa.1) (jb ∙ wb.1) in
      let half : Smaller m (Some wa.0) (value_of m x p (f ++ b)) = subst (Smaller m (Some wa.0)) (sym wb.1) more in
      inl (subst (λ o. Smaller m o (value_of m x p (f ++ b))) (sym wa.1) half))
      (λ (l : (value_of m x q a ≡ value_of m x q b) × Shorter a b).
      let same : va.0 ≡ vb.0 = same_Some va.0 vb.0 (sym va.1 ∙ l.0 ∙ vb.1) in
      inr (sym ja ∙ ap (m.joined u.0) same ∙ jb, shorter_front f a b l.1))
      h
