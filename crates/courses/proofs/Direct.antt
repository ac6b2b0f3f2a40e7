-- Every walk has a direct one: same ends, no mode twice, neither longer nor greater.
use Rattle.std.proofs.Common.{◌≡◌, ℕ, suc, ◌+◌, ◌<◌, ◌≤◌, true, ◌⊎◌, List, [], ◌∷◌, ◌++◌, length, get_or, take, drop, Some, Option, sym, refl, ap, ◌∙◌, subst, inl, inr, ⊎_elim, append_assoc, arith, length-append, take-append-drop, length-take}
use Rattle.std.proofs.lemmas.List.{append-nil}
use Rattle.measures.specs.Laws.{Laws, Below, longest}
use Rattle.measures.specs.Rows.{row_from}
use Rattle.measures.specs.declared.step.Step.{Step}
use Rattle.measures.specs.Operations.{Operations}
use Rattle.std.proofs.lemmas.Option.{same_Some}
use Rattle.measures.specs.OptionLemmas.{and_then_parts}
use Rattle.measures.proofs.Rows as rows
use Rattle.charts.specs.declared.lead.Lead.{Lead}
use Rattle.courses.specs.Courses.{Exits, Course, Leads, steps_along, modes_along, value_of}
use Rattle.courses.specs.Theorems.{Direct}
use Rattle.courses.proofs.Walks.{leads_append, leads_first, first_exit, steps_first, steps_append, value_exists}
use Rattle.courses.proofs.Order.{at_most_cases}
use Rattle.courses.proofs.Bounds.{Bounded}
use Rattle.courses.proofs.Modes.{Apart, Met, met_or_not, apart_take, apart_push, modes_push, modes_take, length_modes, leads_take, apart_short}

module _ {V : Type 0} {m : Operations V} (laws : Laws m) where
  abbrev from : V → List Step → Option V
  from v ss = row_from m v ss

  -- a common end keeps "at most"
  end_keeps_at_most : (a b c y z : V) → m.at_most a b ≡ true → m.joined a c ≡ Some y → m.joined b c ≡ Some z → m.at_most y z ≡ true
  end_keeps_at_most a b c y z h ey ez =
      ⊎_elim
      (λ (e : a ≡ b). ap (m.at_most y) (same_Some z y (sym ez ∙ ap (λ u. m.joined u c) (sym e) ∙ ey)) ∙ rows.at_most_itself laws y)
      (λ (l : Below m a b). laws.either z y (laws.end_keeps a b c y z l ey ez))
      (at_most_cases laws a b h)

  module _ (x : Exits) where
    -- a walk goes on from what its front came to
    pub value_onward : (p q : ℕ) (f a : Course) (u : V) → Leads x p q f → value_of m x p f ≡ Some u → value_of m x p (f ++ a) ≡ from u (steps_along x q a)
    value_onward p q f a u h e = ap (from m.nothing) (steps_append x p q f a h) ∙ rows.from_append laws (steps_along x p f) (steps_along x q a) m.nothing u e

    -- a front of a walk has at most its value
    pub front_at_most : (p q : ℕ) (f a : Course) (u w : V) → Leads x p q f → value_of m x p f ≡ Some u → value_of m x p (f ++ a) ≡ Some w → m.at_most u w ≡ true
    front_at_most p q f a u w h e k = rows.rows_grow laws (steps_along x q a) u w (sym (value_onward p q f a u h e) ∙ k)

    -- going on by one more step
    from_first : (z e : ℕ) (a : Course) (l : Lead) (u w : V) → x z e ≡ Some l → from u (steps_along x z (e ∷ a)) ≡ Some w → (v : V) × (m.joined u (m.step_value l.step) ≡ Some v) × (from v (steps_along x l.to a) ≡ Some w)
    from_first z e a l u w h k = and_then_parts (m.joined u (m.step_value l.step)) (λ v. from v (steps_along x l.to a)) w (sym (ap (from u) (steps_first x z e a l h)) ∙ k)

    module _ (n : ℕ) (bound : Bounded x n) (p q r : ℕ) (f : Course) (front : Leads x p q f) (room : length f + n ≤ longest) where
      -- a walk that meets no mode twice has a value behind the front
      has_value : (z : ℕ) (c : Course) → Leads x q z c → Apart (modes_along x q c) → (v : V) × (value_of m x p (f ++ c) ≡ Some v)
      has_value z c h apart =
          let short = apart_short x n bound q z c h apart in
          let size = length-append f c in
          value_exists laws x p z (f ++ c) (leads_append x p q z f c front h) (omega arith)

      -- what comes of a walk c to mode z, which meets no mode twice, and a walk a from there on: a walk b that meets
      -- no mode twice, and is at most as great as any value that is at least that of c with a joined to it
      record Straight (z : ℕ) (c a : Course) : Type 0 where
        pub b : Course
        pub leads : Leads x q r b
        pub apart : Apart (modes_along x q b)
        pub no_longer : (b ≡ c ++ a) ⊎ (length b < length (c ++ a))
        pub no_greater : (u v w : V) → value_of m x p (f ++ c) ≡ Some v → m.at_most v u ≡ true → from u (steps_along x z a) ≡ Some w → (y : V) × (value_of m x p (f ++ b) ≡ Some y) × (m.at_most y w ≡ true)

      -- the step leads to a mode that c has not met
      step_on : (z e : ℕ) (c a : Course) (l : Lead) → Leads x q z c → Apart (modes_along x q c) → x z e ≡ Some l → (Met l.to (modes_along x q c) → ⊥)
          → (Leads x q l.to (c ++ e ∷ []) → Apart (modes_along x q (c ++ e ∷ [])) → Straight l.to (c ++ e ∷ []) a) → Straight z c (e ∷ a)
      step_on z e c a l h apart open_exit new onward =
          let there : Leads x q l.to (c ++ e ∷ []) = leads_append x q z l.to c (e ∷ []) h (leads_first x z l.to e [] l open_exit refl) in
          let apart' : Apart (modes_along x q (c ++ e ∷ [])) = subst Apart (sym (modes_push x q z e c l h open_exit)) (apart_push (modes_along x q c) l.to apart new) in
          let s = onward there apart' in
          record {
            b = s.b;
            leads = s.leads;
            apart = s.apart;
            no_longer = subst (λ d. (s.b ≡ d) ⊎ (length s.b < length d)) (append_assoc c (e ∷ []) a) s.no_longer;
            no_greater = λ u v w ev at_most k.
                let more = from_first z e a l u w open_exit k in
                let y = has_value l.to (c ++ e ∷ []) there apart' in
                let single = from_first z e [] l v y.0 open_exit (sym (value_onward p z (f ++ c) (e ∷ []) v (leads_append x p q z f c front h) ev) ∙ ap (value_of m x p) (append_assoc f c (e ∷ [])) ∙ y.1) in
                let joins : m.joined v (m.step_value l.step) ≡ Some y.0 = single.1 ∙ single.2 in
                s.no_greater more.0 y.0 w y.1 (end_keeps_at_most v u (m.step_value l.step) y.0 more.0 at_most joins more.1) more.2;
          }

      -- the step leads back to a mode that c has met
      step_back : (z e : ℕ) (c a : Course) (l : Lead) → Leads x q z c → Apart (modes_along x q c) → x z e ≡ Some l → (i : ℕ) → i ≤ length c → get_or (modes_along x q c) i 0 ≡ l.to
          → (Leads x q l.to (take i c) → Apart (modes_along x q (take i c)) → Straight l.to (take i c) a) → Straight z c (e ∷ a)
      step_back z e c a l h apart open_exit i within met onward =
          let there : Leads x q l.to (take i c) = subst (λ k. Leads x q k (take i c)) met (leads_take x q z i c h within) in
          let apart' : Apart (modes_along x q (take i c)) = subst Apart (sym (modes_take x q z i c h)) (apart_take (suc i) (modes_along x q c) apart) in
          let s = onward there apart' in
          let cut = length-take i c in
          let size = length-append (take i c) a in
          let whole = length-append c (e ∷ a) in
          record {
            b = s.b;
            leads = s.leads;
            apart = s.apart;
            no_longer = inr (⊎_elim (λ (same : s.b ≡ take i c ++ a). omega (arith, ap length same)) (λ (less : length s.b < length (take i c ++ a)). omega arith) s.no_longer);
            no_greater = λ u v w ev at_most k.
                let more = from_first z e a l u w open_exit k in
                let y = has_value l.to (take i c) there apart' in
                let parts : f ++ c ≡ (f ++ take i c) ++ drop i c = ap (λ d. f ++ d) (sym (take-append-drop i c)) ∙ sym (append_assoc f (take i c) (drop i c)) in
                let less = front_at_most p l.to (f ++ take i c) (drop i c) y.0 v (leads_append x p q l.to f (take i c) front there) y.1 (sym (ap (value_of m x p) parts) ∙ ev) in
                let grown = rows.joins_grow laws u (m.step_value l.step) more.0 more.1 in
                s.no_greater more.0 y.0 w y.1 (laws.carries y.0 u more.0 (laws.carries y.0 v u less at_most) grown) more.2;
          }

      -- go along a, and keep a walk that meets no mode twice
      straight : (a : Course) (z : ℕ) (c : Course) → Leads x q z c → Apart (modes_along x q c) → Leads x z r a → Straight z c a
      straight [] z c h apart end =
          record {
            b = c;
            leads = h ∙ end;
            apart = apart;
            no_longer = inl (sym (append-nil c));
            no_greater = λ u v w ev at_most k. (v, ev, ap (m.at_most v) (sym (same_Some u w k)) ∙ at_most);
          }
      straight (e ∷ a) z c h apart end =
          let g = first_exit x z r e a end in
          let l = g.0 in
          ⊎_elim
          (λ (met : Met l.to (modes_along x q c)).
          step_back z e c a l h apart g.1 met.0 (omega (arith, met.1, length_modes x q z c h)) met.2 (λ there apart'. straight a l.to (take met.0 c) there apart' g.2))
          (λ (new : Met l.to (modes_along x q c) → ⊥).
          step_on z e c a l h apart g.1 new (λ there apart'. straight a l.to (c ++ e ∷ []) there apart' g.2))
          (met_or_not l.to (modes_along x q c))

      straightened : (a : Course) → Leads x q r a → (b : Course) × Direct m x p q r f a b × (length b < n)
      straightened a h =
          let s = straight a q [] refl (λ i k l g e. omega arith) h in
          let u = value_exists laws x p q f front (omega arith) in
          let bare = append-nil f in (
            s.b,
            record {
              leads = s.leads;
              no_mode_twice = s.apart;
              no_longer = s.no_longer;
              no_greater = λ w e. s.no_greater u.0 u.0 w (ap (value_of m x p) bare ∙ u.1) (rows.at_most_itself laws u.0) (sym (value_onward p q f a u.0 front u.1) ∙ e);
            },
            apart_short x n bound q r s.b s.leads s.apart,
          )

    -- every walk, of whatever length, has a direct one behind a front
    pub direct : (n : ℕ) → Bounded x n → (p q r : ℕ) (f a : Course) → Leads x p q f → Leads x q r a → length f + n ≤ longest → (b : Course) × Direct m x p q r f a b × (length b < n)
    direct n bound p q r f a front h room = straightened n bound p q r f front room a h
