-- Every course has one list of its offers.
use Rattle.std.proofs.Common.{◌≡◌, ℕ, zero, suc, ◌+◌, ◌<◌, ◌≤◌, ◌⊎◌, List, [], ◌∷◌, ◌++◌, length, get_or, take, drop, Some, None, Option, sym, refl, ap, ◌∙◌, subst, inl, inr, ⊎_elim, arith, take-append-drop, length-take-le}
use Rattle.std.specs.List.{ContainsAt as Has, AllByRecursion}
use Rattle.std.proofs.ByRecursion.{All-get_or, All-push, all-has, has_append_left, has_push}
use Rattle.std.proofs.lemmas.List.{get_or_push, get_or_append_left, length_push}
use Rattle.std.proofs.lemmas.Bool.{cases_lt}
use Rattle.measures.specs.Laws.{Laws}
use Rattle.measures.specs.Operations.{Operations}
use Rattle.std.proofs.lemmas.Option.{same_Some, none-some}
use Rattle.charts.specs.declared.lead.Lead.{Lead}
use Rattle.courses.specs.Courses.{Exits, Course, Leads, Dead, Least, ChainOf, stretch_from, Offer, Earlier, OffersInOrder}
use Rattle.courses.proofs.Walks.{leads_split}
use Rattle.courses.proofs.Bounds.{Bounded}
use Rattle.courses.proofs.LeastCourses.{least_or_dead}
use Rattle.courses.proofs.Chains.{cut_in_stretch, chains_are_courses, no_detours_least}
use Rattle.courses.proofs.Offers.{turn, is_course, one_more}

-- an offered course with its position and exit
abbrev Placed : Type 0
Placed = ℕ × ℕ × Course

not_earlier_both : (o u : Placed) → Earlier o u → Earlier u o → ⊥
not_earlier_both o u h k =
    ⊎_elim
    (λ (l : o.0 < u.0). ⊎_elim (λ (n : u.0 < o.0). omega arith) (λ (n : (u.0 ≡ o.0) × (u.1 < o.1)). omega (arith, n.0)) k)
    (λ (l : (o.0 ≡ u.0) × (o.1 < u.1)). ⊎_elim (λ (n : u.0 < o.0). omega (arith, l.0)) (λ (n : (u.0 ≡ o.0) × (u.1 < o.1)). omega (arith, l.1, n.1)) k)
    h

-- each is earlier than those behind it
abbrev Rising : List Placed → Type 0
Rising os = (i k : ℕ) (d : Placed) → i < k → k < length os → Earlier (get_or os i d) (get_or os k d)

rising_rest : (o : Placed) (os : List Placed) → Rising (o ∷ os) → Rising os
rising_rest o os up i k d h l = up (suc i) (suc k) d (omega arith) (omega arith)

first_earlier : (o u : Placed) (os : List Placed) → Rising (o ∷ os) → Has os u → Earlier o u
first_earlier o u os up h = subst (Earlier o) (h.2 o) (up zero (suc h.0) o (omega arith) (omega (arith, h.1)))

has_first_or_rest : (o u : Placed) (os : List Placed) → Has (o ∷ os) u → (o ≡ u) ⊎ Has os u
has_first_or_rest o u os h = go h.0 h.1 h.2
  where
    go : (k : ℕ) → k < length (o ∷ os) → ((d : Placed) → get_or (o ∷ os) k d ≡ u) → (o ≡ u) ⊎ Has os u
    go zero l e = inl (e o)
    go (suc k) l e = inr (k, omega arith, λ d. e d)

-- what is in a rising list and in another that begins alike is in the rest of that
rest_holds : (o v : Placed) (os vs : List Placed) → Rising (o ∷ os) → o ≡ v → ((u : Placed) → Has (o ∷ os) u → Has (v ∷ vs) u) → (u : Placed) → Has os u → Has vs u
rest_holds o v os vs up same to u h =
    let here = first_earlier o u os up h in
    ⊎_elim
    (λ (e : v ≡ u). absurd (not_earlier_both o u here (subst (λ w. Earlier w o) (same ∙ e) (subst (Earlier o) (sym (same ∙ e)) here))))
    (λ (k : Has vs u). k)
    (has_first_or_rest v u vs (to u (suc h.0, omega (arith, h.1), λ d. h.2 d)))

-- rising lists that hold the same are the same
same_rising : (os us : List Placed) → Rising os → Rising us → ((u : Placed) → Has os u → Has us u) → ((u : Placed) → Has us u → Has os u) → os ≡ us
same_rising [] [] uo uu to back = refl
same_rising [] (u ∷ us) uo uu to back = absurd (omega (arith, (back u (zero, omega arith, λ d. refl)).1))
same_rising (o ∷ os) [] uo uu to back = absurd (omega (arith, (to o (zero, omega arith, λ d. refl)).1))
same_rising (o ∷ os) (u ∷ us) uo uu to back =
    let first : o ≡ u =
    ⊎_elim
    (λ (e : u ≡ o). sym e)
    (λ (h : Has us o).
    ⊎_elim
    (λ (e : o ≡ u). e)
    (λ (k : Has os u). absurd (not_earlier_both u o (first_earlier u o us uu h) (first_earlier o u os uo k)))
    (has_first_or_rest o u os (back u (zero, omega arith, λ d. refl))))
    (has_first_or_rest u o us (to o (zero, omega arith, λ d. refl))) in
    let rest : os ≡ us = same_rising os us (rising_rest o os uo) (rising_rest u us uu) (rest_holds o u os us uo first to) (rest_holds u o us os uu (sym first) back) in
    λ i. first i ∷ rest i

rising_push : (os : List Placed) (u : Placed) → Rising os → AllByRecursion (λ o. Earlier o u) os → Rising (os ++ u ∷ [])
rising_push os u up below i k d h l =
    let size = length_push os u in
    let left = get_or_append_left os (u ∷ []) d i (omega arith) in
    subst (λ o. Earlier o (get_or (os ++ u ∷ []) k d)) (sym left)
    (⊎_elim
    (λ (within : k < length os). subst (Earlier (get_or os i d)) (sym (get_or_append_left os (u ∷ []) d k within)) (up i k d h within))
    (λ (last : length os ≤ k). subst (Earlier (get_or os i d)) (sym (get_or_push os u d k (omega arith))) (All-get_or (λ o. Earlier o u) os i d (omega arith) below))
    (cases_lt k (length os)))

-- a course has one list of its offers
pub one_list : {V : Type 0} {m : Operations V} {x : Exits} {t s : ℕ} (a : Course) (os us : List Placed) → OffersInOrder m x t s a os → OffersInOrder m x t s a us → os ≡ us
one_list {V} {m} {x} {t} {s} a os us f g = same_rising os us f.in_order g.in_order (held os us f g) (held us os g f)
  where
    held : (os us : List Placed) → OffersInOrder m x t s a os → OffersInOrder m x t s a us → (u : Placed) → Has os u → Has us u
    held os us f g u h = g.every u.0 u.1 u.2 (all-has (λ o. Offer m x t s a o.0 o.1 o.2) os u f.offers h)

-- the list holds the offers of the course a below position j, and those at position j below exit f
record Upto {V : Type 0} (m : Operations V) (x : Exits) (t s : ℕ) (a : Course) (j f : ℕ) (os : List Placed) : Type 0 where
  offers : AllByRecursion (λ o. Offer m x t s a o.0 o.1 o.2) os
  in_order : Rising os
  below : (c : Course) → AllByRecursion (λ o. Earlier o (j, f, c)) os
  every : (i e : ℕ) (c : Course) → Offer m x t s a i e c → Earlier (i, e, c) (j, f, c) → Has os (i, e, c)

module _ {V : Type 0} {m : Operations V} (laws : Laws m) (x : Exits) (n : ℕ) (bound : Bounded x n) (t s : ℕ) where
  -- the course a has an offer at position i by exit e, or none there
  abbrev OfferOrNone : Course → ℕ → ℕ → Type 0
  OfferOrNone a i e = ((c : Course) × Offer m x t s a i e c) ⊎ ((c : Course) → Offer m x t s a i e c → ⊥)

  -- at one position and exit there is one offer
  one_offer : (a c d : Course) (i e : ℕ) → Offer m x t s a i e c → Offer m x t s a i e d → c ≡ d
  one_offer a c d i e o u =
      (chains_are_courses laws x n bound t s).one_course c d (o.chain ++ (i, e) ∷ []) (is_course laws x n bound t s a c i e o) (is_course laws x n bound t s a d i e u) (one_more laws x n bound t s a c i e o.chain o o.is_chain) (one_more laws x n bound t s a d i e o.chain u o.is_chain)

  -- in the stretch an exit gives an offer or none
  in_stretch : (a : Course) (i e q : ℕ) → i ≤ length a → Leads x s q (take i a) → Least m x t q (drop i a) → OfferOrNone a i e
  in_stretch a i e q within reached least = go (x q e) refl
    where
      same_mode : (c : Course) (o : Offer m x t s a i e c) → o.mode ≡ q
      same_mode c o = same_Some o.mode q (sym o.reached ∙ reached)

      open_here : (c : Course) (o : Offer m x t s a i e c) → x q e ≡ Some o.detour.lead
      open_here c o = ap (λ p. x p e) (sym (same_mode c o)) ∙ o.detour.open_exit

      go : (l : Option Lead) → x q e ≡ l → OfferOrNone a i e
      go None h = inr (λ c o. none-some o.detour.lead (sym h ∙ open_here c o))
      go (Some l) h =
          ⊎_elim
          (λ (r : (b : Course) × Least m x t l.to b × (length b < n)).
          ⊎_elim
          (λ (same : drop i a ≡ e ∷ r.0).
          inr (λ c o. o.detour.aside r.0 (subst (λ p. Least m x t p (e ∷ r.0)) (sym (same_mode c o)) (subst (Least m x t q) same least))))
          (λ (o : Offer m x t s (take i a ++ drop i a) (length (take i a)) e (take i a ++ e ∷ r.0)).
          let place : length (take i a) ≡ i = length-take-le i a within in
          inl (take i a ++ e ∷ r.0, subst (λ b. Offer m x t s b i e (take i a ++ e ∷ r.0)) (take-append-drop i a) (subst (λ k. Offer m x t s (take i a ++ drop i a) k e (take i a ++ e ∷ r.0)) place o)))
          (turn laws x n bound t s q e (take i a) (drop i a) r.0 l reached least h r.1))
          (λ (dead : Dead x t l.to).
          inr (λ c o. let there = same_Some o.detour.lead l (sym (open_here c o) ∙ h) in dead o.detour.lives.0 (subst (λ k. Leads x k.to t o.detour.lives.0) there o.detour.lives.1)))
          (least_or_dead laws x n bound t l.to)

  -- a course has an offer at a position by an exit, or none
  offer_or_none : (a : Course) (i e : ℕ) → Leads x s t a → i ≤ length a → OfferOrNone a i e
  offer_or_none a i e leads within =
      let stand = chains_are_courses laws x n bound t s in
      let d = stand.has_chain a leads in
      let f = take i a in
      let r = drop i a in
      let whole : a ≡ f ++ r = sym (take-append-drop i a) in
      let long = length-take-le i a within in
      let place : i ≡ 0 + length f = omega arith in
      ⊎_elim
      (λ (before : i < stretch_from d.0). inr (λ c o. omega (arith, before, o.from_stretch, ap stretch_from (stand.one_chain a o.chain d.0 leads o.is_chain d.1))))
      (λ (behind : stretch_from d.0 ≤ i).
      let w = leads_split x s t f r (subst (Leads x s t) whole leads) in
      let u = cut_in_stretch m x t f r s w.0 0 i d.0 w.1 place (subst (λ b. ChainOf m x t s b d.0) whole d.1) behind in
      in_stretch a i e w.0 within w.1 (no_detours_least laws x n bound t r w.0 i w.2 u.1))
      (cases_lt i (stretch_from d.0))

  -- one exit more
  exit_more : (a : Course) (j f : ℕ) (os : List Placed) → Upto m x t s a j f os → OfferOrNone a j f → (us : List Placed) × Upto m x t s a j (suc f) us
  exit_more a j f os h =
      ⊎_elim
      (λ (o : (c : Course) × Offer m x t s a j f c). (
        os ++ (j, f, o.0) ∷ [],
        record {
          offers = All-push (λ u. Offer m x t s a u.0 u.1 u.2) os (j, f, o.0) h.offers o.1;
          in_order = rising_push os (j, f, o.0) h.in_order (h.below o.0);
          below = λ c. All-push (λ u. Earlier u (j, suc f, c)) os (j, f, o.0) (later os c (h.below c)) (inr (refl, omega arith));
          every = λ i e c u early.
              ⊎_elim
              (λ (k : Earlier (i, e, c) (j, f, c)). has_append_left os ((j, f, o.0) ∷ []) (i, e, c) (h.every i e c u k))
              (λ (k : (i ≡ j) × (e ≡ f)).
              let here : Offer m x t s a j f c = subst (λ g. Offer m x t s a j g c) k.1 (subst (λ g. Offer m x t s a g e c) k.0 u) in
              let same : o.0 ≡ c = one_offer a o.0 c j f o.1 here in
              let entry : (j, f, o.0) ≡ (i, e, c) = (λ z. (sym k.0 z, sym k.1 z, same z)) in
              subst (Has (os ++ (j, f, o.0) ∷ [])) entry (has_push os (j, f, o.0)))
              (split i e c early);
        },
      ))
      (λ (none : (c : Course) → Offer m x t s a j f c → ⊥). (
        os,
        record {
          offers = h.offers;
          in_order = h.in_order;
          below = λ c. later os c (h.below c);
          every = λ i e c u early.
              ⊎_elim
              (λ (k : Earlier (i, e, c) (j, f, c)). h.every i e c u k)
              (λ (k : (i ≡ j) × (e ≡ f)). absurd (none c (subst (λ g. Offer m x t s a j g c) k.1 (subst (λ g. Offer m x t s a g e c) k.0 u))))
              (split i e c early);
        },
      ))
    where
      later : (vs : List Placed) (c : Course) → AllByRecursion (λ u. Earlier u (j, f, c)) vs → AllByRecursion (λ u. Earlier u (j, suc f, c)) vs
      later [] c k = tt
      later (v ∷ vs) c k = (⊎_elim (λ (l : v.0 < j). inl l) (λ (l : (v.0 ≡ j) × (v.1 < f)). inr (l.0, omega (arith, l.1))) k.0, later vs c k.1)

      split : (i e : ℕ) (c : Course) → Earlier (i, e, c) (j, suc f, c) → Earlier (i, e, c) (j, f, c) ⊎ ((i ≡ j) × (e ≡ f))
      split i e c k =
          ⊎_elim
          (λ (l : i < j). inl (inl l))
          (λ (l : (i ≡ j) × (e < suc f)). ⊎_elim (λ (low : e < f). inl (inr (l.0, low))) (λ (high : f ≤ e). inr (l.0, omega (arith, l.1))) (cases_lt e f))
          k

  -- the exits of one position
  exits_of : (a : Course) (j : ℕ) (os : List Placed) → Leads x s t a → j ≤ length a → Upto m x t s a j 0 os → (f : ℕ) → (us : List Placed) × Upto m x t s a j f us
  exits_of a j os leads within h zero = (os, h)
  exits_of a j os leads within h (suc f) =
      let r = exits_of a j os leads within h f in
      exit_more a j f r.0 r.1 (offer_or_none a j f leads within)

  -- with all exits of a position the next one begins
  next_position : (a : Course) (j : ℕ) (os : List Placed) → Upto m x t s a j 64 os → Upto m x t s a (suc j) 0 os
  next_position a j os h = record {
    offers = h.offers;
    in_order = h.in_order;
    below = λ c. later os c (h.below c);
    every = λ i e c u early. h.every i e c u
        (⊎_elim
        (λ (l : i < suc j). ⊎_elim (λ (low : i < j). inl low) (λ (high : j ≤ i). inr (omega arith, bound.low_exit u.mode e u.detour.lead u.detour.open_exit)) (cases_lt i j))
        (λ (l : (i ≡ suc j) × (e < 0)). absurd (omega (arith, l.1)))
        early);
  }
    where
      later : (vs : List Placed) (c : Course) → AllByRecursion (λ u. Earlier u (j, 64, c)) vs → AllByRecursion (λ u. Earlier u (suc j, 0, c)) vs
      later [] c k = tt
      later (v ∷ vs) c k = (⊎_elim (λ (l : v.0 < j). inl (omega arith)) (λ (l : (v.0 ≡ j) × (v.1 < 64)). inl (omega (arith, l.0))) k.0, later vs c k.1)

  positions : (a : Course) → Leads x s t a → (j : ℕ) → j ≤ suc (length a) → (os : List Placed) × Upto m x t s a j 0 os
  positions a leads zero within = (
    [],
    record {
      offers = tt;
      in_order = λ i k d h l. absurd (omega arith);
      below = λ c. tt;
      every = λ i e c u early. absurd (⊎_elim (λ (l : i < 0). omega arith) (λ (l : (i ≡ 0) × (e < 0)). omega (arith, l.1)) early);
    },
  )
  positions a leads (suc j) within =
      let r = positions a leads j (omega arith) in
      let u = exits_of a j r.0 leads (omega arith) r.1 64 in
      (u.0, next_position a j u.0 u.1)

  -- every course has a list of its offers
  pub has_list : (a : Course) → Leads x s t a → (os : List Placed) × OffersInOrder m x t s a os
  has_list a leads =
      let r = positions a leads (suc (length a)) (omega arith) in (
        r.0,
        record {
          offers = r.1.offers;
          in_order = r.1.in_order;
          every = λ i e c u. r.1.every i e c u (inl (omega (arith, u.to_stretch)));
        },
      )
