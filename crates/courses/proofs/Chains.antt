-- Every course has one chain, and a chain belongs to one course.
use Rattle.std.proofs.Common.{◌≡◌, ℕ, ◌+◌, ◌<◌, ◌≤◌, ◌⊎◌, List, [], ◌∷◌, ◌++◌, length, Some, sym, refl, ap, ◌∙◌, subst, inl, inr, ⊎_elim, append-nil, arith}
use mathlib.Core.List.{head-eq_of_cons-eq, tail-eq_of_cons-eq}
use Rattle.std.proofs.lemmas.Bool.{cases_eq}
use Rattle.measures.specs.Laws.{Laws}
use Rattle.measures.specs.Operations.{Operations}
use Rattle.std.proofs.lemmas.Option.{same_Some}
use Rattle.charts.specs.declared.lead.Lead.{Lead}
use Rattle.courses.specs.Courses.{Exits, Course, Leads, Least, Detour, Chain, Detours, stretch_from}
use Rattle.courses.specs.Theorems.{ChainsAreCourses}
use Rattle.courses.proofs.Walks.{first_exit, leads_first, leads_rest}
use Rattle.courses.proofs.Bounds.{Bounded}
use Rattle.courses.proofs.LeastCourses.{live_least, least_one}
use Rattle.courses.proofs.Settled.{least_at_watched, rest_is_least}

pub not_empty : {A : Type 0} (a : A) (rest : List A) → [] ≡ a ∷ rest → ⊥
not_empty a rest h = omega (arith, ap length h)

-- a chain with nothing behind it
pub nothing_behind : (c d f : Chain) → c ≡ d ++ f → f ≡ [] → c ≡ d
nothing_behind c d f h none = h ∙ ap {B = Chain} (λ (r : Chain). d ++ r) none ∙ append-nil d

-- an exit has one lead
same_lead : (x : Exits) (p e f : ℕ) (l k : Lead) → e ≡ f → x p e ≡ Some l → x p f ≡ Some k → l ≡ k
same_lead x p e f l k same h j = same_Some l k (sym h ∙ ap (x p) same ∙ j)

-- the stretch begins behind the last detour
stretch_last : (c : Chain) (h : ℕ × ℕ) (d : Chain) → stretch_from (c ++ h ∷ d) ≡ stretch_from (h ∷ d)
stretch_last [] h d = refl
stretch_last (g ∷ []) h d = refl
stretch_last (g ∷ f ∷ c) h d = stretch_last (f ∷ c) h d

stretch_most : (i e n : ℕ) (d : Chain) → i < n → stretch_from d ≤ n → stretch_from ((i, e) ∷ d) ≤ n
stretch_most i e n [] h k = omega arith
stretch_most i e n (f ∷ d) h k = k

stretch_least : (i e : ℕ) (d : Chain) → (d ≡ []) ⊎ (i + 1 < stretch_from d) → i < stretch_from ((i, e) ∷ d)
stretch_least i e [] h = omega arith
stretch_least i e (f ∷ d) h = ⊎_elim (λ (k : f ∷ d ≡ []). absurd (not_empty f d (sym k))) (λ (k : i + 1 < stretch_from (f ∷ d)). omega arith) h

module _ {V : Type 0} (m : Operations V) (x : Exits) (t : ℕ) where
  -- the first step of e ∷ a is a detour, and begins the chain c
  abbrev pub Aside : ℕ → ℕ → ℕ → Course → Chain → Lead → Type 0
  Aside p i e a c l = (d : Chain) × Detour m x t p e × (c ≡ (i, e) ∷ d) × Detours m x t l.to (i + 1) a d

  -- the first step of e ∷ a is no detour
  abbrev pub Along : ℕ → ℕ → ℕ → Course → Chain → Lead → Type 0
  Along p i e a c l = (Detour m x t p e → ⊥) × Detours m x t l.to (i + 1) a c

  -- what a chain says of the first step, whose lead is known
  first_of : (p i e : ℕ) (a : Course) (c : Chain) (l : Lead) → x p e ≡ Some l → Detours m x t p i (e ∷ a) c → Aside p i e a c l ⊎ Along p i e a c l
  first_of p i e a c l h k = subst (λ u. Aside p i e a c u ⊎ Along p i e a c u) (same_Some k.0 l (sym k.1 ∙ h)) k.2

  -- a course has one chain
  pub same_chain : (a : Course) (p i : ℕ) (c d : Chain) → Detours m x t p i a c → Detours m x t p i a d → c ≡ d
  same_chain [] p i c d h k = h ∙ sym k
  same_chain (e ∷ a) p i c d h k =
      let l = h.0 in
      let other = first_of p i e a d l h.1 k in
      ⊎_elim
      (λ (u : Aside p i e a c l).
      ⊎_elim
      (λ (v : Aside p i e a d l). u.2 ∙ ap {B = Chain} (λ (r : Chain). (i, e) ∷ r) (same_chain a l.to (i + 1) u.0 v.0 u.3 v.3) ∙ sym v.2)
      (λ (v : Along p i e a d l). absurd (v.0 u.1))
      other)
      (λ (u : Along p i e a c l). ⊎_elim (λ (v : Aside p i e a d l). absurd (u.0 v.1)) (λ (v : Along p i e a d l). same_chain a l.to (i + 1) c d u.1 v.1) other)
      h.2

  -- the detours of two courses one behind the other
  pub detours_append : (a b : Course) (p q i k : ℕ) (c d : Chain) → Leads x p q a → k ≡ i + length a → Detours m x t p i a c → Detours m x t q k b d → Detours m x t p i (a ++ b) (c ++ d)
  detours_append [] b p q i k c d h n hc hd =
      let here : Detours m x t p k b d = subst (λ r. Detours m x t r k b d) (sym (same_Some p q h)) hd in
      let same : k ≡ i = omega arith in
      subst (λ u. Detours m x t p i b (u ++ d)) (sym hc) (subst (λ j. Detours m x t p j b d) same here)
  detours_append (e ∷ a) b p q i k c d h n hc hd =
      let l = hc.0 in
      let hq = leads_rest x p q e a l hc.1 h in
      let later : k ≡ i + 1 + length a = omega arith in (
        l,
        hc.1,
        ⊎_elim
            (λ (u : Aside p i e a c l). inl (u.0 ++ d, u.1, ap (λ r. r ++ d) u.2, detours_append a b l.to q (i + 1) k u.0 d hq later u.3 hd))
            (λ (u : Along p i e a c l). inr (u.0, detours_append a b l.to q (i + 1) k c d hq later u.1 hd))
            hc.2,
      )

  -- and back
  pub detours_split : (a b : Course) (p q i k : ℕ) (c : Chain) → Leads x p q a → k ≡ i + length a → Detours m x t p i (a ++ b) c → (d : Chain) × (f : Chain) × (c ≡ d ++ f) × Detours m x t p i a d × Detours m x t q k b f
  detours_split [] b p q i k c h n hc =
      let same : i ≡ k = omega arith in
      ([], c, refl, refl, subst (λ j. Detours m x t q j b c) same (subst (λ r. Detours m x t r i b c) (same_Some p q h) hc))
  detours_split (e ∷ a) b p q i k c h n hc =
      let l = hc.0 in
      let hq = leads_rest x p q e a l hc.1 h in
      let later : k ≡ i + 1 + length a = omega arith in
      ⊎_elim
      (λ (u : Aside p i e (a ++ b) c l).
      let r = detours_split a b l.to q (i + 1) k u.0 hq later u.3 in
      ((i, e) ∷ r.0, r.1, u.2 ∙ ap {B = Chain} (λ (v : Chain). (i, e) ∷ v) r.2, (l, hc.1, inl (r.0, u.1, refl, r.3)), r.4))
      (λ (u : Along p i e (a ++ b) c l).
      let r = detours_split a b l.to q (i + 1) k c hq later u.1 in
      (r.0, r.1, r.2, (l, hc.1, inr (u.0, r.3)), r.4))
      hc.2

  -- the stretch begins within the course
  pub stretch_within : (a : Course) (p i : ℕ) (c : Chain) → Detours m x t p i a c → stretch_from c ≤ i + length a
  stretch_within [] p i c h = omega (arith, ap stretch_from h)
  stretch_within (e ∷ a) p i c h =
      let l = h.0 in
      ⊎_elim
      (λ (u : Aside p i e a c l).
      let rest = stretch_within a l.to (i + 1) u.0 u.3 in
      let here = stretch_most i e (i + length (e ∷ a)) u.0 (omega arith) (omega arith) in
      omega (arith, ap stretch_from u.2))
      (λ (u : Along p i e a c l). omega (arith, stretch_within a l.to (i + 1) c u.1))
      h.2

  -- and behind the start where there is a detour
  stretch_behind : (a : Course) (p i : ℕ) (c : Chain) → Detours m x t p i a c → (c ≡ []) ⊎ (i < stretch_from c)
  stretch_behind [] p i c h = inl h
  stretch_behind (e ∷ a) p i c h =
      let l = h.0 in
      ⊎_elim
      (λ (u : Aside p i e a c l). inr (omega (arith, ap stretch_from u.2, stretch_least i e u.0 (stretch_behind a l.to (i + 1) u.0 u.3))))
      (λ (u : Along p i e a c l). ⊎_elim (λ (k : c ≡ []). inl k) (λ (k : i + 1 < stretch_from c). inr (omega arith)) (stretch_behind a l.to (i + 1) c u.1))
      h.2

  -- there is no detour in a stretch
  none_in_stretch : (a : Course) (p i : ℕ) (c d : Chain) → Detours m x t p i a d → stretch_from (c ++ d) ≤ i → d ≡ []
  none_in_stretch a p i c [] h k = refl
  none_in_stretch a p i c (g ∷ d) h k =
      let last = stretch_last c g d in
      ⊎_elim (λ (j : g ∷ d ≡ []). j) (λ (j : i < stretch_from (g ∷ d)). absurd (omega arith)) (stretch_behind a p i (g ∷ d) h)

  -- so a course that is cut in its stretch has every detour before the cut
  pub cut_in_stretch : (a b : Course) (p q i k : ℕ) (c : Chain) → Leads x p q a → k ≡ i + length a → Detours m x t p i (a ++ b) c → stretch_from c ≤ k → Detours m x t p i a c × Detours m x t q k b []
  cut_in_stretch a b p q i k c h n hc low =
      let u = detours_split a b p q i k c h n hc in
      let none = none_in_stretch b q k u.0 u.1 u.4 (omega (arith, ap stretch_from u.2)) in
      (subst (Detours m x t p i a) (sym (nothing_behind c u.0 u.1 u.2 none)) u.3, subst (Detours m x t q k b) none u.4)

  -- a detour has no lower position than the first step
  first_position : (a : Course) (p i k e : ℕ) (c d : Chain) → Detours m x t p i a c → c ≡ (k, e) ∷ d → i ≤ k
  first_position [] p i k e c d h same = absurd (not_empty (k, e) d (sym h ∙ same))
  first_position (f ∷ a) p i k e c d h same =
      let l = h.0 in
      ⊎_elim
      (λ (u : Aside p i f a c l). omega (arith, ap (λ (g : ℕ × ℕ). g.0) (head-eq_of_cons-eq (sym u.2 ∙ same))))
      (λ (u : Along p i f a c l). omega (arith, first_position a l.to (i + 1) k e c d u.1 same))
      h.2

module _ {V : Type 0} {m : Operations V} (laws : Laws m) (x : Exits) (n : ℕ) (bound : Bounded x n) (t : ℕ) where
  -- an exit by which a course begins is a detour, or the one that the least course takes
  pub detour_or_least : (p e : ℕ) (a : Course) (l : Lead) → x p e ≡ Some l → Leads x l.to t a → Detour m x t p e ⊎ ((rest : Course) × Least m x t p (e ∷ rest))
  detour_or_least p e a l h k = go (live_least laws x n bound t p (e ∷ a, leads_first x p t e a l h k)).0 (live_least laws x n bound t p (e ∷ a, leads_first x p t e a l h k)).1
    where
      go : (b : Course) → Least m x t p b → Detour m x t p e ⊎ ((rest : Course) × Least m x t p (e ∷ rest))
      go [] u = inl (record { lead = l; open_exit = h; lives = (a, k); aside = λ rest v. not_empty e rest (least_one laws x t p [] (e ∷ rest) u v) })
      go (f ∷ b) u =
          ⊎_elim
          (λ (same : f ≡ e). inr (b, subst (λ g. Least m x t p (g ∷ b)) same u))
          (λ (other : f ≡ e → ⊥). inl (record { lead = l; open_exit = h; lives = (a, k); aside = λ rest v. other (head-eq_of_cons-eq (least_one laws x t p (f ∷ b) (e ∷ rest) u v)) }))
          (cases_eq f e)

  -- every course has a chain
  chain_from : (a : Course) (p i : ℕ) → Leads x p t a → (c : Chain) × Detours m x t p i a c
  chain_from [] p i h = ([], refl)
  chain_from (e ∷ a) p i h =
      let f = first_exit x p t e a h in
      let r = chain_from a f.0.to (i + 1) f.2 in
      ⊎_elim
      (λ (u : Detour m x t p e). ((i, e) ∷ r.0, (f.0, f.1, inl (r.0, u, refl, r.1))))
      (λ (u : (rest : Course) × Least m x t p (e ∷ rest)). (r.0, (f.0, f.1, inr (λ d. d.aside u.0 u.1, r.1))))
      (detour_or_least p e a f.0 f.1 f.2)

  -- a least course has no detour
  pub least_no_detour : (a : Course) (p i : ℕ) → Least m x t p a → Detours m x t p i a []
  least_no_detour [] p i h = refl
  least_no_detour (e ∷ a) p i h =
      let f = first_exit x p t e a h.leads in
      (f.0, f.1, inr (λ d. d.aside a h, least_no_detour a f.0.to (i + 1) (rest_is_least laws x n bound t p e a f.0 h f.1)))

  -- an exit that is no detour is the one that the least course takes
  no_detour_least : (p e : ℕ) (a : Course) (l : Lead) → x p e ≡ Some l → Leads x l.to t a → (Detour m x t p e → ⊥) → (rest : Course) × Least m x t p (e ∷ rest)
  no_detour_least p e a l h k none = ⊎_elim (λ (u : Detour m x t p e). absurd (none u)) (λ (u : (rest : Course) × Least m x t p (e ∷ rest)). u) (detour_or_least p e a l h k)

  -- every further step from the watched mode begins with a detour
  on_from_watched : (p i e : ℕ) (a : Course) → p ≡ t → Leads x p t (e ∷ a) → Detours m x t p i (e ∷ a) [] → ⊥
  on_from_watched p i e a here h k =
      let l = k.0 in
      ⊎_elim
      (λ (u : Aside m x t p i e a [] l). not_empty (i, e) u.0 u.2)
      (λ (u : Along m x t p i e a [] l).
      let r = no_detour_least p e a l k.1 (leads_rest x p t e a l k.1 h) u.0 in
      not_empty e r.0 (least_one laws x t t [] (e ∷ r.0) (least_at_watched laws x t) (subst (λ q. Least m x t q (e ∷ r.0)) here r.1)))
      k.2

  -- a chain belongs to one course
  pub same_course : (a b : Course) (p i : ℕ) (c : Chain) → Leads x p t a → Leads x p t b → Detours m x t p i a c → Detours m x t p i b c → a ≡ b
  same_course [] [] p i c ha hb da db = refl
  same_course [] (f ∷ b) p i c ha hb da db = absurd (on_from_watched p i f b (same_Some p t ha) hb (subst (Detours m x t p i (f ∷ b)) da db))
  same_course (e ∷ a) [] p i c ha hb da db = absurd (on_from_watched p i e a (same_Some p t hb) ha (subst (Detours m x t p i (e ∷ a)) db da))
  same_course (e ∷ a) (f ∷ b) p i c ha hb da db =
      let l = da.0 in
      let k = db.0 in
      let la = leads_rest x p t e a l da.1 ha in
      let lb = leads_rest x p t f b k db.1 hb in
      ⊎_elim
      (λ (u : Aside m x t p i e a c l).
      ⊎_elim
      (λ (v : Aside m x t p i f b c k).
      let both : (i, e) ∷ u.0 ≡ (i, f) ∷ v.0 = sym u.2 ∙ v.2 in
      let same : e ≡ f = ap (λ (g : ℕ × ℕ). g.1) (head-eq_of_cons-eq both) in
      let lead : k ≡ l = same_lead x p f e k l (sym same) db.1 da.1 in
      let rest : Detours m x t l.to (i + 1) b u.0 = subst (λ g. Detours m x t g.to (i + 1) b u.0) lead (subst (Detours m x t k.to (i + 1) b) (sym (tail-eq_of_cons-eq both)) v.3) in
      let tails : a ≡ b = same_course a b l.to (i + 1) u.0 la (subst (λ g. Leads x g.to t b) lead lb) u.3 rest in
      λ j. same j ∷ tails j)
      (λ (v : Along m x t p i f b c k). absurd (omega (arith, first_position m x t b k.to (i + 1) i e c u.0 v.1 u.2)))
      db.2)
      (λ (u : Along m x t p i e a c l).
      ⊎_elim
      (λ (v : Aside m x t p i f b c k). absurd (omega (arith, first_position m x t a l.to (i + 1) i f c v.0 u.1 v.2)))
      (λ (v : Along m x t p i f b c k).
      let r = no_detour_least p e a l da.1 la u.0 in
      let q = no_detour_least p f b k db.1 lb v.0 in
      let same : e ≡ f = head-eq_of_cons-eq (least_one laws x t p (e ∷ r.0) (f ∷ q.0) r.1 q.1) in
      let lead : k ≡ l = same_lead x p f e k l (sym same) db.1 da.1 in
      let tails : a ≡ b = same_course a b l.to (i + 1) c la (subst (λ g. Leads x g.to t b) lead lb) u.1 (subst (λ g. Detours m x t g.to (i + 1) b c) lead v.1) in
      λ j. same j ∷ tails j)
      db.2)
      da.2

  -- a course without a detour is the least one of its mode
  pub no_detours_least : (a : Course) (p i : ℕ) → Leads x p t a → Detours m x t p i a [] → Least m x t p a
  no_detours_least a p i h k =
      let r = live_least laws x n bound t p (a, h) in
      subst (Least m x t p) (same_course r.0 a p i [] r.1.leads h (least_no_detour r.0 p i r.1) k) r.1

  pub chains_are_courses : (s : ℕ) → ChainsAreCourses m x s t
  chains_are_courses s = record {
    has_chain = λ a h. chain_from a s 0 h;
    one_chain = λ a d f h u v. same_chain m x t a s 0 d f u v;
    one_course = λ a b d h k u v. same_course a b s 0 d h k u v;
  }
