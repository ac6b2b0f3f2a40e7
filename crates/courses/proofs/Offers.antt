-- Offers are the courses with one detour more, and stand after the course that offers them.
use Rattle.std.proofs.Common.{◌≡◌, ℕ, ◌+◌, ◌≤◌, ◌⊎◌, [], ◌∷◌, ◌++◌, length, take, drop, Some, sym, refl, ap, ◌∙◌, subst, inl, inr, ⊎_elim, append-nil, arith, length-append, take-append-drop, length-take-le}
use mathlib.Core.List.{head-eq_of_cons-eq, tail-eq_of_cons-eq}
use lib.Seq.{take-append_seam}
use Rattle.std.proofs.lemmas.List.{same_from_push}
use Rattle.measures.specs.Laws.{Laws, longest}
use Rattle.measures.specs.Operations.{Operations}
use Rattle.std.proofs.lemmas.Option.{same_Some}
use Rattle.charts.specs.declared.lead.Lead.{Lead}
use Rattle.courses.specs.Courses.{Exits, Course, Leads, Before, Least, Detour, Chain, Detours, ChainOf, stretch_from, Offer}
use Rattle.courses.specs.Theorems.{ChainsAreCourses}
use Rattle.courses.proofs.Walks.{leads_append, leads_split, leads_first, leads_rest}
use Rattle.courses.proofs.Fronts.{before_front}
use Rattle.courses.proofs.Bounds.{Bounded}
use Rattle.courses.proofs.LeastCourses.{live_least, least_one}
use Rattle.courses.proofs.Settled.{rest_is_least}
use Rattle.courses.proofs.Chains.{not_empty, Aside, Along, same_chain, detours_append, detours_split, stretch_within, nothing_behind, cut_in_stretch}
use Rattle.courses.proofs.Chains as chains

-- a chain that is not empty has a last detour
last_detour : (h : ℕ × ℕ) (c : Chain) → (d : Chain) × (i : ℕ) × (e : ℕ) × (h ∷ c ≡ d ++ (i, e) ∷ [])
last_detour h [] = ([], h.0, h.1, refl)
last_detour h (g ∷ c) =
    let r = last_detour g c in
    (h ∷ r.0, r.1, r.2, ap {B = Chain} (λ (d : Chain). h ∷ d) r.3)

-- the course a from p, whose first step has position i, makes its last detour at position k by exit e, and those of d before
record Last {V : Type 0} (m : Operations V) (x : Exits) (t p i : ℕ) (a : Course) (d : Chain) (k e : ℕ) : Type 0 where
  front : Course
  rest : Course
  mode : ℕ
  lead : Lead
  is : a ≡ front ++ e ∷ rest
  reached : Leads x p mode front
  before : Detours m x t p i front d
  place : k ≡ i + length front
  detour : Detour m x t mode e
  open_exit : x mode e ≡ Some lead
  behind : Detours m x t lead.to (k + 1) rest []

module _ {V : Type 0} (m : Operations V) (x : Exits) (t : ℕ) where
  -- one step more in front
  last_later : (p i e f : ℕ) (a : Course) (c d : Chain) (k : ℕ) (l : Lead) → x p f ≡ Some l → ((b : Course) → Detours m x t l.to (i + 1) b c → Detours m x t p i (f ∷ b) d) → Last m x t l.to (i + 1) a c k e → Last m x t p i (f ∷ a) d k e
  last_later p i e f a c d k l h more u = record {
    front = f ∷ u.front;
    rest = u.rest;
    mode = u.mode;
    lead = u.lead;
    is = ap {B = Course} (λ (b : Course). f ∷ b) u.is;
    reached = leads_first x p u.mode f u.front l h u.reached;
    before = more u.front u.before;
    place = omega (arith, u.place);
    detour = u.detour;
    open_exit = u.open_exit;
    behind = u.behind;
  }

  -- a course whose chain has a last detour takes it
  last_taken : (a : Course) (p i : ℕ) (d : Chain) (k e : ℕ) → Detours m x t p i a (d ++ (k, e) ∷ []) → Last m x t p i a d k e
  last_taken [] p i [] k e h = absurd (not_empty (k, e) [] (sym h))
  last_taken [] p i (g ∷ d) k e h = absurd (not_empty g (d ++ (k, e) ∷ []) (sym h))
  last_taken (f ∷ a) p i [] k e h =
      let l = h.0 in
      ⊎_elim
      (λ (u : Aside m x t p i f a ((k, e) ∷ []) l).
      let head : (k, e) ≡ (i, f) = head-eq_of_cons-eq u.2 in
      let place : k ≡ i = ap (λ (g : ℕ × ℕ). g.0) head in
      let same : e ≡ f = ap (λ (g : ℕ × ℕ). g.1) head in
      record {
        front = [];
        rest = a;
        mode = p;
        lead = l;
        is = ap {B = Course} (λ g. g ∷ a) (sym same);
        reached = refl;
        before = refl;
        place = omega arith;
        detour = subst (Detour m x t p) (sym same) u.1;
        open_exit = ap (x p) same ∙ h.1;
        behind = subst (λ j. Detours m x t l.to (j + 1) a []) (sym place) (subst (Detours m x t l.to (i + 1) a) (sym (tail-eq_of_cons-eq u.2)) u.3);
      })
      (λ (u : Along m x t p i f a ((k, e) ∷ []) l). last_later p i e f a [] [] k l h.1 (λ b w. (l, h.1, inr (u.0, w))) (last_taken a l.to (i + 1) [] k e u.1))
      h.2
  last_taken (f ∷ a) p i (g ∷ d) k e h =
      let l = h.0 in
      ⊎_elim
      (λ (u : Aside m x t p i f a (g ∷ (d ++ (k, e) ∷ [])) l).
      let tail : Detours m x t l.to (i + 1) a (d ++ (k, e) ∷ []) = subst (Detours m x t l.to (i + 1) a) (sym (tail-eq_of_cons-eq u.2)) u.3 in
      let head : g ∷ d ≡ (i, f) ∷ d = ap {B = Chain} (λ (v : ℕ × ℕ). v ∷ d) (head-eq_of_cons-eq u.2) in
      last_later p i e f a d (g ∷ d) k l h.1 (λ b w. (l, h.1, inl (d, u.1, head, w))) (last_taken a l.to (i + 1) d k e tail))
      (λ (u : Along m x t p i f a (g ∷ (d ++ (k, e) ∷ [])) l). last_later p i e f a (g ∷ d) (g ∷ d) k l h.1 (λ b w. (l, h.1, inr (u.0, w))) (last_taken a l.to (i + 1) (g ∷ d) k e u.1))
      h.2

module _ {V : Type 0} {m : Operations V} (laws : Laws m) (x : Exits) (n : ℕ) (bound : Bounded x n) (t : ℕ) where
  stand : (s : ℕ) → ChainsAreCourses m x s t
  stand s = chains.chains_are_courses laws x n bound t s

  least_no_detour : (a : Course) (p i : ℕ) → Least m x t p a → Detours m x t p i a []
  least_no_detour = chains.least_no_detour laws x n bound t

  no_detours_least : (a : Course) (p i : ℕ) → Leads x p t a → Detours m x t p i a [] → Least m x t p a
  no_detours_least = chains.no_detours_least laws x n bound t

  -- behind a front the least course has the chain of the front
  front_chain : (s q : ℕ) (f r : Course) → Leads x s q f → Least m x t q r → (d : Chain) × Detours m x t s 0 f d × ChainOf m x t s (f ++ r) d
  front_chain s q f r hf hr =
      let c = (stand s).has_chain (f ++ r) (leads_append x s q t f r hf hr.leads) in
      let u = detours_split m x t f r s q 0 (0 + length f) c.0 hf refl c.1 in
      let none = same_chain m x t r q (0 + length f) u.1 [] u.4 (least_no_detour r q (0 + length f) hr) in
      (u.0, u.3, subst (ChainOf m x t s (f ++ r)) (nothing_behind c.0 u.0 u.1 u.2 none) c.1)

  -- the course that goes on by exit e where another goes on by the least course is that course, or offered by it
  pub turn : (s q e : ℕ) (f r r' : Course) (l : Lead) → Leads x s q f → Least m x t q r → x q e ≡ Some l → Least m x t l.to r' → (r ≡ e ∷ r') ⊎ Offer m x t s (f ++ r) (length f) e (f ++ e ∷ r')
  turn s q e f r r' l hf hr h k =
      let c = front_chain s q f r hf hr in
      let long = length-append f r in
      ⊎_elim
      (λ (u : Detour m x t q e). inr (record {
        course = leads_append x s q t f r hf hr.leads;
        chain = c.0;
        is_chain = c.2;
        from_stretch = omega (arith, stretch_within m x t f s 0 c.0 c.1);
        to_stretch = omega arith;
        mode = q;
        reached = subst (Leads x s q) (sym (take-append_seam f r)) hf;
        detour = u;
        rest = r';
        least = subst (λ g. Least m x t g.to r') (same_Some l u.lead (sym h ∙ u.open_exit)) k;
        is = ap {B = Course} (λ (g : Course). g ++ e ∷ r') (sym (take-append_seam f r));
      }))
      (λ (u : (rest : Course) × Least m x t q (e ∷ rest)).
      let rest = least_one laws x t l.to u.0 r' (rest_is_least laws x n bound t q e u.0 l u.1 h) k in
      inl (least_one laws x t q r (e ∷ u.0) hr u.1 ∙ ap {B = Course} (λ (g : Course). e ∷ g) rest))
      (chains.detour_or_least laws x n bound t q e r' l h k.leads)

  module _ (s : ℕ) where
    -- where a course offers, it goes on by the least course, and has all its detours before
    offers_from : (a c : Course) (i e : ℕ) (d : Chain) (o : Offer m x t s a i e c) → ChainOf m x t s a d → Detours m x t s 0 (take i a) d × Least m x t o.mode (drop i a)
    offers_from a c i e d o h =
        let f = take i a in
        let r = drop i a in
        let q = o.mode in
        let whole : a ≡ f ++ r = sym (take-append-drop i a) in
        let long = length-take-le i a o.to_stretch in
        let place : i ≡ 0 + length f = omega arith in
        let same = (stand s).one_chain a o.chain d o.course o.is_chain h in
        let u = cut_in_stretch m x t f r s q 0 i d o.reached place (subst (λ b. ChainOf m x t s b d) whole h) (omega (arith, o.from_stretch, ap stretch_from same)) in
        let w = leads_split x s t f r (subst (Leads x s t) whole o.course) in
        let leads : Leads x q t r = subst (λ p. Leads x p t r) (same_Some w.0 q (sym w.1 ∙ o.reached)) w.2 in
        (u.0, no_detours_least r q i leads u.1)

    -- the detour of an offer with what follows it
    turned : (a c : Course) (i e : ℕ) (o : Offer m x t s a i e c) → Leads x o.mode t (e ∷ o.rest)
    turned a c i e o = leads_first x o.mode t e o.rest o.detour.lead o.detour.open_exit o.least.leads

    -- an offer is a course
    pub is_course : (a c : Course) (i e : ℕ) → Offer m x t s a i e c → Leads x s t c
    is_course a c i e o = subst (Leads x s t) (sym o.is) (leads_append x s o.mode t (take i a) (e ∷ o.rest) o.reached (turned a c i e o))

    -- with one detour more
    pub one_more : (a c : Course) (i e : ℕ) (d : Chain) → Offer m x t s a i e c → ChainOf m x t s a d → ChainOf m x t s c (d ++ (i, e) ∷ [])
    one_more a c i e d o h =
        let l = o.detour.lead in
        let long = length-take-le i a o.to_stretch in
        let place : i ≡ 0 + length (take i a) = omega arith in
        let behind : Detours m x t o.mode i (e ∷ o.rest) ((i, e) ∷ []) = (l, o.detour.open_exit, inl ([], o.detour, refl, least_no_detour o.rest l.to (i + 1) o.least)) in
        subst (λ b. ChainOf m x t s b (d ++ (i, e) ∷ [])) (sym o.is) (detours_append m x t (take i a) (e ∷ o.rest) s o.mode 0 i d ((i, e) ∷ []) o.reached place (offers_from a c i e d o h).0 behind)

    -- a course with a last detour is offered by the course with the others
    offerer : (c : Course) (i e : ℕ) (d : Chain) → Leads x s t c → ChainOf m x t s c (d ++ (i, e) ∷ []) → (a : Course) × ChainOf m x t s a d × Offer m x t s a i e c
    offerer c i e d hc h =
        let u = last_taken m x t c s 0 d i e h in
        let f = u.front in
        let q = u.mode in
        let l = u.lead in
        let place : length f ≡ i = omega (arith, u.place) in
        let w = leads_split x s t f (e ∷ u.rest) (subst (Leads x s t) u.is hc) in
        let leads : Leads x q t (e ∷ u.rest) = subst (λ p. Leads x p t (e ∷ u.rest)) (same_Some w.0 q (sym w.1 ∙ u.reached)) w.2 in
        let least : Least m x t l.to u.rest = no_detours_least u.rest l.to (i + 1) (leads_rest x q t e u.rest l u.open_exit leads) u.behind in
        let r = live_least laws x n bound t q (e ∷ u.rest, leads) in
        let chain : ChainOf m x t s (f ++ r.0) (d ++ []) = detours_append m x t f r.0 s q 0 (0 + length f) d [] u.reached refl u.before (least_no_detour r.0 q (0 + length f) r.1) in
        ⊎_elim
        (λ (same : r.0 ≡ e ∷ u.rest). absurd (u.detour.aside u.rest (subst (Least m x t q) same r.1)))
        (λ (o : Offer m x t s (f ++ r.0) (length f) e (f ++ e ∷ u.rest)).
        (f ++ r.0, subst (ChainOf m x t s (f ++ r.0)) (append-nil d) chain, subst (λ j. Offer m x t s (f ++ r.0) j e c) place (subst (Offer m x t s (f ++ r.0) (length f) e) (sym u.is) o)))
        (turn s q e f r.0 u.rest l u.reached r.1 u.open_exit least)

    -- and every course with one detour more is one
    pub every_one : (a c : Course) (i e : ℕ) (d : Chain) → Leads x s t a → Leads x s t c → ChainOf m x t s a d → ChainOf m x t s c (d ++ (i, e) ∷ []) → Offer m x t s a i e c
    every_one a c i e d ha hc da dc =
        let u = offerer c i e d hc dc in
        subst (λ b. Offer m x t s b i e c) ((stand s).one_course u.0 a d u.2.course ha u.1 da) u.2

    -- every course but the least is offered
    pub offered : (c : Course) → Leads x s t c → (Least m x t s c → ⊥) → (a : Course) × (i : ℕ) × (e : ℕ) × Offer m x t s a i e c
    offered c h other = go ((stand s).has_chain c h).0 ((stand s).has_chain c h).1
      where
        go : (d : Chain) → ChainOf m x t s c d → (a : Course) × (i : ℕ) × (e : ℕ) × Offer m x t s a i e c
        go [] k = absurd (other (no_detours_least c s 0 h k))
        go (g ∷ d) k =
            let r = last_detour g d in
            let u = offerer c r.1 r.2 r.0 h (subst (ChainOf m x t s c) r.3 k) in
            (u.0, r.1, r.2, u.2)

    -- only once
    pub once : (a b c : Course) (i e k f : ℕ) → Offer m x t s a i e c → Offer m x t s b k f c → (a ≡ b) × (i ≡ k) × (e ≡ f)
    once a b c i e k f o u =
        let both = (stand s).one_chain c (o.chain ++ (i, e) ∷ []) (u.chain ++ (k, f) ∷ []) (is_course a c i e o) (one_more a c i e o.chain o o.is_chain) (one_more b c k f u.chain u u.is_chain) in
        let parts = same_from_push o.chain u.chain (i, e) (k, f) both in
        let chain : ChainOf m x t s a u.chain = subst (ChainOf m x t s a) parts.0 o.is_chain in
        ((stand s).one_course a b u.chain o.course u.course chain u.is_chain, ap (λ (g : ℕ × ℕ). g.0) parts.1, ap (λ (g : ℕ × ℕ). g.1) parts.1)

    -- an offer stands after its course, since that goes on by a least course
    pub after : (a c : Course) (i e : ℕ) → Offer m x t s a i e c → length a ≤ longest → length c ≤ longest → Before m x s a c
    after a c i e o na nc =
        let f = take i a in
        let r = drop i a in
        let q = o.mode in
        let whole : f ++ r ≡ a = take-append-drop i a in
        let least = (offers_from a c i e o.chain o o.is_chain).1 in
        let here : Before m x q r (e ∷ o.rest) = least.first (e ∷ o.rest) (turned a c i e o) (λ same. o.detour.aside o.rest (subst (Least m x t q) (sym same) least)) in
        let la = length-append f r in
        let lc = length-append f (e ∷ o.rest) in
        let ea = ap length whole in
        let ec = ap length o.is in
        let all = before_front laws x s q t f r (e ∷ o.rest) o.reached least.leads (turned a c i e o) (omega arith) (omega arith) here in
        subst (λ b. Before m x s b c) whole (subst (Before m x s (f ++ r)) (sym o.is) all)
