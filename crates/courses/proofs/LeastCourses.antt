-- Every mode has one least course, of fewer steps than there are modes, or is dead.
use Rattle.std.proofs.Common.{◌≡◌, ℕ, zero, suc, ◌-◌, ◌<◌, ◌≤◌, ◌⊎◌, [], ◌∷◌, length, Some, None, Option, sym, refl, ap, ◌∙◌, subst, inl, inr, ⊎_elim, arith}
use Rattle.std.proofs.lemmas.Bool.{cases_eq}
use Rattle.measures.specs.Laws.{Laws, longest}
use Rattle.measures.specs.Operations.{Operations}
use Rattle.std.proofs.lemmas.Option.{same_Some, none-some}
use Rattle.measures.specs.OptionLemmas.{and_then_some}
use Rattle.charts.specs.declared.lead.Lead.{Lead}
use Rattle.courses.specs.Courses.{Exits, Course, Leads, Before, Live, Dead, Least}
use Rattle.courses.proofs.Walks.{first_exit, leads_first}
use Rattle.courses.proofs.Order.{before_not_both}
use Rattle.courses.proofs.Fronts.{before_front}
use Rattle.courses.proofs.Bounds.{Bounded}
use Rattle.courses.proofs.Same.{same_course}
use Rattle.courses.proofs.Short.{short_behind}
use Rattle.courses.proofs.Firsts.{NotAfter, not_after_through, FirstOf, FirstOrNone, same_kind, first_of_two, first_of_exits}

-- a course from p to t of at most k steps
abbrev Within : Exits → ℕ → ℕ → ℕ → Course → Type 0
Within x t k p a = Leads x p t a × (length a ≤ k)

-- the empty course, where p is t
abbrev Empty : ℕ → ℕ → Course → Type 0
Empty t p a = (a ≡ []) × (p ≡ t)

-- a course from p to t that begins with exit e and has at most k steps behind it
abbrev Begins : Exits → ℕ → ℕ → ℕ → ℕ → Course → Type 0
Begins x t k p e a = (rest : Course) × (a ≡ e ∷ rest) × Leads x p t (e ∷ rest) × (length rest ≤ k)

module _ {V : Type 0} {m : Operations V} (laws : Laws m) (x : Exits) where
  first_empty : (t p : ℕ) → FirstOrNone m x p (Empty t p)
  first_empty t p = ⊎_elim (λ (e : p ≡ t). inl ([], record { holds = (refl, e); first = λ b h. inl (sym h.0) })) (λ (other : p ≡ t → ⊥). inr (λ a h. other h.1)) (cases_eq p t)

  -- the first course that begins with exit e goes on by the first one of the mode where that lands
  first_begins : (t k p e : ℕ) → suc k ≤ longest → ((q : ℕ) → FirstOrNone m x q (Within x t k q)) → FirstOrNone m x p (Begins x t k p e)
  first_begins t k p e small onward = go (x p e) refl
    where
      rest_leads : (l : Lead) (a : Course) → x p e ≡ Some l → Leads x p t (e ∷ a) → Leads x l.to t a
      rest_leads l a h k = sym (and_then_some _ l _ h) ∙ k

      go : (o : Option Lead) → x p e ≡ o → FirstOrNone m x p (Begins x t k p e)
      go None h = inr (λ a b. let f = first_exit x p t e b.0 b.2 in none-some f.0 (sym h ∙ f.1))
      go (Some l) h =
          ⊎_elim
          (λ (f : (a : Course) × FirstOf m x l.to (Within x t k l.to) a).
          let a = f.0 in
          let w = f.1.holds in
          inl (
            e ∷ a,
            record {
              holds = (a, refl, leads_first x p t e a l h w.0, w.1);
              first = λ b g.
                  let c = g.0 in
                  let r = rest_leads l c h g.2 in
                  subst
                  (NotAfter m x p (e ∷ a))
                  (sym g.1)
                  (⊎_elim
                  (λ (same : a ≡ c). inl (ap (λ d. e ∷ d) same))
                  (λ (less : Before m x l.to a c).
                  inr (before_front laws x p l.to t (e ∷ []) a c (leads_first x p l.to e [] l h refl) w.0 r (omega (arith, w.1)) (omega (arith, g.3)) less))
                  (f.1.first c (r, g.3)));
            },
          ))
          (λ (none : (a : Course) → Within x t k l.to a → ⊥). inr (λ b g. none g.0 (rest_leads l g.0 h g.2, g.3)))
          (onward l.to)

  module _ (n : ℕ) (bound : Bounded x n) where
    -- the first of the courses of at most k steps
    first_within : (t k : ℕ) → k ≤ longest → (p : ℕ) → FirstOrNone m x p (Within x t k p)
    first_within t zero small p = same_kind laws x p (Empty t p) (Within x t 0 p) (λ a h. subst (Within x t 0 p) (sym h.0) (ap Some h.1, omega arith)) back (first_empty t p)
      where
        back : (a : Course) → Within x t 0 p a → Empty t p a
        back [] h = (refl, same_Some p t h.0)
        back (e ∷ a) h = absurd (omega (arith, h.1))
    first_within t (suc k) small p =
        same_kind
        laws
        x
        p
        (λ a. Empty t p a ⊎ ((e : ℕ) × (e < 64) × Begins x t k p e a))
        (Within x t (suc k) p)
        (λ a. ⊎_elim (λ (h : Empty t p a). subst (Within x t (suc k) p) (sym h.0) (ap Some h.1, omega arith)) (λ (h : (e : ℕ) × (e < 64) × Begins x t k p e a). subst (Within x t (suc k) p) (sym h.2.1) (h.2.2, omega (arith, h.2.3))))
        back
        (first_of_two laws x p (Empty t p) (λ a. (e : ℕ) × (e < 64) × Begins x t k p e a) (first_empty t p) (first_of_exits laws x p (Begins x t k p) (λ e. first_begins t k p e small (first_within t k (omega arith))) 64))
      where
        back : (a : Course) → Within x t (suc k) p a → Empty t p a ⊎ ((e : ℕ) × (e < 64) × Begins x t k p e a)
        back [] h = inl (refl, same_Some p t h.0)
        back (e ∷ a) h =
            let f = first_exit x p t e a h.0 in
            inr (e, bound.low_exit p e f.0 f.1, (a, refl, h.0, omega (arith, h.1)))

    pub least_or_dead : (t p : ℕ) → ((a : Course) × Least m x t p a × (length a < n)) ⊎ Dead x t p
    least_or_dead t p =
        let some = bound.some_mode in
        let few = bound.few_modes in
        let short : (a : Course) → Leads x p t a → (b : Course) × Leads x p t b × (length b < n) × NotAfter m x p b a = λ a h. short_behind laws x n bound p p t [] a refl h (omega arith) in
        ⊎_elim
        (λ (f : (a : Course) × FirstOf m x p (Within x t (n - 1) p) a).
        let w = f.1.holds in
        inl (
          f.0,
          record {
            leads = w.0;
            first = λ b h other.
                let d = short b h in
                ⊎_elim (λ (same : f.0 ≡ b). absurd (other (sym same))) (λ (l : Before m x p f.0 b). l) (not_after_through laws x p f.0 d.0 b (f.1.first d.0 (d.1, omega (arith, d.2))) d.3);
          },
          omega (arith, w.1),
        ))
        (λ (none : (a : Course) → Within x t (n - 1) p a → ⊥). inr (λ a h. let d = short a h in none d.0 (d.1, omega (arith, d.2))))
        (first_within t (n - 1) (omega arith) p)

    pub live_least : (t p : ℕ) → Live x t p → (a : Course) × Least m x t p a × (length a < n)
    live_least t p live = ⊎_elim (λ (h : (a : Course) × Least m x t p a × (length a < n)). h) (λ (dead : Dead x t p). absurd (dead live.0 live.1)) (least_or_dead t p)

  -- a mode has one least course
  pub least_one : (t p : ℕ) (a b : Course) → Least m x t p a → Least m x t p b → a ≡ b
  least_one t p a b f g =
      ⊎_elim (λ (same : a ≡ b). same) (λ (other : a ≡ b → ⊥). absurd (before_not_both laws x p a b (f.first b g.leads (λ e. other (sym e))) (g.first a f.leads other))) (same_course a b)
