-- The exits of a mode settle its least course.
use Rattle.std.proofs.Common.{◌≡◌, ℕ, ◌+◌, ◌<◌, ◌⊎◌, [], ◌∷◌, length, Some, None, Option, sym, refl, ap, ◌∙◌, subst, inl, inr, ⊎_elim, arith}
use Rattle.std.proofs.lemmas.Bool.{cases_eq}
use Rattle.measures.specs.Laws.{Laws, Below, longest}
use Rattle.measures.specs.Rows.{row_value}
use Rattle.measures.specs.Operations.{Operations}
use Rattle.std.proofs.lemmas.Option.{same_Some}
use Rattle.measures.specs.OptionLemmas.{and_then_some}
use Rattle.measures.proofs.Rows as rows
use Rattle.charts.specs.declared.lead.Lead.{Lead}
use Rattle.courses.specs.Courses.{Exits, Course, Leads, value_of, Smaller, Lower, Shorter, Before, Least, Dead, value_by, Ahead}
use Rattle.courses.specs.Theorems.{Settled}
use Rattle.courses.proofs.Bounds.{Bounded}
use Rattle.courses.proofs.LeastCourses.{least_or_dead}
use Rattle.courses.proofs.Walks.{first_exit, leads_first, steps_first, value_exists, value_append}
use Rattle.courses.proofs.Order.{at_most_cases, before_not_both, before_through, before_either}
use Rattle.courses.proofs.Fronts.{before_front}
use Rattle.courses.proofs.Same.{same_course}
use Rattle.courses.proofs.Short.{short_behind, least_short}

module _ {V : Type 0} {m : Operations V} (laws : Laws m) (x : Exits) where
  -- nothing is at most every value, and the empty course has the fewest steps
  pub least_at_watched : (t : ℕ) → Least m x t t []
  least_at_watched t = record { leads = refl; first = λ b leads other. go b other (value_of m x t b) refl }
    where
      go : (b : Course) → (b ≡ [] → ⊥) → (o : Option V) → value_of m x t b ≡ o → Before m x t [] b
      go [] other o h = absurd (other refl)
      go (e ∷ b) other None h = inl (subst (Smaller m (Some m.nothing)) (sym h) tt)
      go (e ∷ b) other (Some v) h =
          ⊎_elim
          (λ (same : m.nothing ≡ v). inr (ap Some same ∙ sym h, inl (omega arith)))
          (λ (below : Below m m.nothing v). inl (subst (Smaller m (Some m.nothing)) (sym h) below))
          (at_most_cases laws m.nothing v (laws.nothing_least v))

  -- the value by way of the first exit is that of the course
  value_first : (t p e : ℕ) (a : Course) (l : Lead) → x p e ≡ Some l → Leads x l.to t a → length a < longest → value_of m x p (e ∷ a) ≡ value_by m x l a
  value_first t p e a l is leads size =
      let v = value_exists laws x l.to t a leads (omega arith) in
      let alone : value_of m x p (e ∷ []) ≡ Some (m.step_value l.step) = ap (λ ss. row_value m ss) (steps_first x p e [] l is) ∙ rows.first_step laws l.step [] in
      sym (value_append laws x p l.to t (e ∷ []) a (m.step_value l.step) v.0 (leads_first x p l.to e [] l is refl) leads (omega arith) alone v.1) ∙ sym (and_then_some _ v.0 _ v.1)

  -- by two different first exits, the order of the courses is that of the exits
  module _ (t p e f : ℕ) (a b : Course) (l k : Lead) (el : x p e ≡ Some l) (fk : x p f ≡ Some k) (la : Leads x l.to t a) (lb : Leads x k.to t b) (na : length a < longest) (nb : length b < longest) where
    pub ahead_before : Ahead m x e l a f k b → Before m x p (e ∷ a) (f ∷ b)
    ahead_before h =
        let va = value_first t p e a l el la na in
        let vb = value_first t p f b k fk lb nb in
        ⊎_elim
        (λ (s : Smaller m (value_by m x l a) (value_by m x k b)). inl (subst (λ o. Smaller m o (value_of m x p (f ∷ b))) (sym va) (subst (Smaller m (value_by m x l a)) (sym vb) s)))
        (λ (s : (value_by m x l a ≡ value_by m x k b) × ((length a + 1 < length b + 1) ⊎ ((length a + 1 ≡ length b + 1) × (e < f)))).
        inr (va ∙ s.0 ∙ sym vb, ⊎_elim (λ (n : length a + 1 < length b + 1). inl (omega arith)) (λ (n : (length a + 1 ≡ length b + 1) × (e < f)). inr (omega (arith, n.0), inl n.1)) s.1))
        h

    pub before_ahead : (f ≡ e → ⊥) → Before m x p (e ∷ a) (f ∷ b) → Ahead m x e l a f k b
    before_ahead other h =
        let va = value_first t p e a l el la na in
        let vb = value_first t p f b k fk lb nb in
        ⊎_elim
        (λ (s : Smaller m (value_of m x p (e ∷ a)) (value_of m x p (f ∷ b))). inl (subst (λ o. Smaller m o (value_by m x k b)) va (subst (Smaller m (value_of m x p (e ∷ a))) vb s)))
        (λ (s : (value_of m x p (e ∷ a) ≡ value_of m x p (f ∷ b)) × Shorter (e ∷ a) (f ∷ b)).
        inr (
          sym va ∙ s.0 ∙ vb,
          ⊎_elim
              (λ (n : length (e ∷ a) < length (f ∷ b)). inl (omega arith))
              (λ (n : (length (e ∷ a) ≡ length (f ∷ b)) × Lower (e ∷ a) (f ∷ b)).
              inr (omega (arith, n.0), ⊎_elim (λ (low : e < f). low) (λ (same : (e ≡ f) × Lower a b). absurd (other (sym same.0))) n.1))
              s.1,
        ))
        h

module _ {V : Type 0} {m : Operations V} (laws : Laws m) (x : Exits) (n : ℕ) (bound : Bounded x n) where
  -- a course that is not after any short one is not after any
  least_of_short : (t p : ℕ) (a : Course) → Leads x p t a → ((b : Course) → Leads x p t b → length b < n → (b ≡ a → ⊥) → Before m x p a b) → Least m x t p a
  least_of_short t p a leads short =
      record {
        leads = leads;
        first = λ b hb other.
            let few = bound.few_modes in
            let c = short_behind laws x n bound p p t [] b refl hb (omega arith) in
            ⊎_elim
            (λ (same : c.0 ≡ b). short b hb (subst (λ d. length d < n) same c.2) other)
            (λ (before : Before m x p c.0 b).
            ⊎_elim
            (λ (here : c.0 ≡ a). subst (λ d. Before m x p d b) here before)
            (λ (there : c.0 ≡ a → ⊥). before_through laws x p a c.0 b (short c.0 c.1 c.2 there) before)
            (same_course c.0 a))
            c.3;
      }

  pub least_before_long : (t p : ℕ) (a b : Course) → Least m x t p a → Leads x p t b → longest < length b → Before m x p a b
  least_before_long t p a b least leads long =
      least.first b leads (λ same. omega (arith, ap length same, least_short laws x n bound t p a least, bound.few_modes))

  pub rest_is_least : (t p e : ℕ) (a : Course) (l : Lead) → Least m x t p (e ∷ a) → x p e ≡ Some l → Least m x t l.to a
  rest_is_least t p e a l least is =
      let f = first_exit x p t e a least.leads in
      let same : f.0 ≡ l = same_Some f.0 l (sym f.1 ∙ is) in
      let leads : Leads x l.to t a = subst (λ (k : Lead). Leads x k.to t a) same f.2 in
      let few = bound.few_modes in
      let size = least_short laws x n bound t p (e ∷ a) least in
      least_of_short t l.to a leads (λ b hb nb other.
      ⊎_elim
      (λ (same : a ≡ b). absurd (other (sym same)))
      (⊎_elim
      (λ (before : Before m x l.to a b). before)
      (λ (before : Before m x l.to b a).
      let lb = leads_first x p t e b l is hb in
      absurd (before_not_both laws x p (e ∷ b) (e ∷ a)
      (before_front laws x p l.to t (e ∷ []) b a (leads_first x p l.to e [] l is refl) hb leads (omega arith) (omega arith) before)
      (least.first (e ∷ b) lb (λ (h : e ∷ b ≡ e ∷ a). let z : b ≡ a = cc in other z)))))
      (before_either laws x l.to a b))

  pub least_is_settled : (t p e : ℕ) (a : Course) → (p ≡ t → ⊥) → Least m x t p (e ∷ a) → (l : Lead) × Settled m x t p e a l
  least_is_settled t p e a away least =
      let f = first_exit x p t e a least.leads in
      let l = f.0 in
      let rest = rest_is_least t p e a l least f.1 in
      let few = bound.few_modes in
      let na = least_short laws x n bound t l.to a rest in (
        l,
        (
          f.1,
          rest,
          λ g b k other gk lb.
              let nb = least_short laws x n bound t k.to b lb in
              before_ahead laws x t p e g a b l k f.1 gk rest.leads lb.leads (omega arith) (omega arith) other
              (least.first (g ∷ b) (leads_first x p t g b k gk lb.leads) (λ (h : g ∷ b ≡ e ∷ a). let z : g ≡ e = cc in other z)),
        ),
      )

  pub settled_is_least : (t p e : ℕ) (a : Course) (l : Lead) → (p ≡ t → ⊥) → Settled m x t p e a l → Least m x t p (e ∷ a)
  settled_is_least t p e a l away settled =
      let is = settled.0 in
      let rest = settled.1 in
      let na = least_short laws x n bound t l.to a rest in
      least_of_short t p (e ∷ a) (leads_first x p t e a l is rest.leads) (λ b hb nb other. go is rest na settled.2 b hb nb other)
    where
      go : x p e ≡ Some l → Least m x t l.to a → length a < n → ((f : ℕ) (b : Course) (k : Lead) → (f ≡ e → ⊥) → x p f ≡ Some k → Least m x t k.to b → Ahead m x e l a f k b) → (b : Course) → Leads x p t b → length b < n → (b ≡ e ∷ a → ⊥) → Before m x p (e ∷ a) b
      go is rest na ahead [] hb nb other = absurd (away (same_Some p t hb))
      go is rest na ahead (f ∷ b) hb nb other =
          let few = bound.few_modes in
          let g = first_exit x p t f b hb in
          let k = g.0 in
          ⊎_elim
          (λ (same : f ≡ e).
          let one : k ≡ l = same_Some k l (sym g.1 ∙ ap (x p) same ∙ is) in
          let lb : Leads x l.to t b = subst (λ (j : Lead). Leads x j.to t b) one g.2 in
          let before = rest.first b lb (λ (h : b ≡ a). other (λ i. same i ∷ h i)) in
          subst (λ j. Before m x p (e ∷ a) (j ∷ b)) (sym same)
          (before_front laws x p l.to t (e ∷ []) a b (leads_first x p l.to e [] l is refl) rest.leads lb (omega arith) (omega arith) before))
          (λ (differs : f ≡ e → ⊥).
          ⊎_elim
          (λ (c : (c : Course) × Least m x t k.to c × (length c < n)).
          let first = ahead_before laws x t p e f a c.0 l k is g.1 rest.leads c.1.leads (omega arith) (omega (arith, c.2)) (ahead f c.0 k differs g.1 c.1) in
          ⊎_elim
          (λ (same : b ≡ c.0). subst (λ d. Before m x p (e ∷ a) (f ∷ d)) (sym same) first)
          (λ (off : b ≡ c.0 → ⊥).
          before_through laws x p (e ∷ a) (f ∷ c.0) (f ∷ b) first
          (before_front laws x p k.to t (f ∷ []) c.0 b (leads_first x p k.to f [] k g.1 refl) c.1.leads g.2 (omega (arith, c.2)) (omega arith) (c.1.first b g.2 off)))
          (same_course b c.0))
          (λ (dead : Dead x t k.to). absurd (dead b g.2))
          (least_or_dead laws x n bound t k.to))
          (cases_eq f e)
