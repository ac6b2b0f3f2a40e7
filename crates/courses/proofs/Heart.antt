-- Why the offers leave nothing out: behind a list of first courses, the first that waits is the next of all.
use Rattle.std.proofs.Common.{◌≡◌, ℕ, zero, suc, ◌+◌, ◌*◌, ◌<◌, ◌≤◌, ◌⊎◌, List, [], ◌∷◌, ◌++◌, length, get_or, take, sym, refl, ap, ◌∙◌, subst, inl, inr, ⊎_elim, append_assoc, arith, length-append}
use Rattle.std.proofs.lemmas.List.{take_all, get_or-take, length-take-le, get_or_append_left, get_or_push, length_push}
use Rattle.std.proofs.lemmas.Bool.{cases_lt}
use Rattle.measures.specs.Laws.{Laws, longest}
use Rattle.measures.specs.Operations.{Operations}
use Rattle.std.proofs.lemmas.Option.{same_Some}
use Rattle.courses.specs.Courses.{Exits, Course, Leads, Before, Least, Offer, Listed, FirstCourses, Waiting}
use Rattle.courses.proofs.Bounds.{Bounded}
use Rattle.courses.proofs.LeastCourses.{live_least, least_one}
use Rattle.courses.proofs.Settled.{least_at_watched}
use Rattle.courses.proofs.Offers.{turn}
use Rattle.courses.proofs.Walks.{first_exit, leads_append, leads_first}
use Rattle.courses.proofs.Order.{before_through}
use Rattle.courses.proofs.Same.{same_course, listed_or_not}
use Rattle.courses.proofs.Lists.{earlier, apart}
use Rattle.courses.proofs.Short.{least_short, least_behind}

-- each course of a list is so short that it can be made of as many least courses as stand before it, and one
abbrev Small : List Course → Type 0
Small ds = (k : ℕ) → k < length ds → length (get_or ds k []) < 4096 * (k + 1)

module _ {V : Type 0} {m : Operations V} (laws : Laws m) (x : Exits) (n : ℕ) (bound : Bounded x n) (s t : ℕ) where
  -- for a course that is not listed, one waits that is it or stands before it
  abbrev Found : List Course → Course → Type 0
  Found ds a = (w : Course) × Waiting m x s t ds w × ((w ≡ a) ⊎ Before m x s w a)

  -- a course w that goes along with f ++ g up to the end of f, and then by the least course, is f ++ g or stands before it
  along : (q : ℕ) (f g r : Course) → Leads x s q f → Leads x q t g → length f + n ≤ longest → Least m x t q r → (f ++ r ≡ f ++ g) ⊎ Before m x s (f ++ r) (f ++ g)
  along q f g r hf hg room least = ⊎_elim (λ (same : r ≡ g). inl (ap (λ h. f ++ h) same)) (λ (b : Before m x s (f ++ r) (f ++ g)). inr b) (least_behind laws x n bound s q t f g r hf hg room least)

  -- go along the course while what the front gives is listed
  find_from : (ds : List Course) → Small ds → length ds ≤ 65534 → (q : ℕ) (f g r : Course) → Leads x s q f → Leads x q t g → Least m x t q r → Listed (f ++ r) ds → (Listed (f ++ g) ds → ⊥) → Found ds (f ++ g)
  find_from ds small size q f [] r hf hg least there absent =
      let end : q ≡ t = same_Some q t hg in
      let none : r ≡ [] = least_one laws x t t r [] (subst (λ p. Least m x t p r) end least) (least_at_watched laws x t) in
      absurd (absent (subst (λ h. Listed (f ++ h) ds) none there))
  find_from ds small size q f (e ∷ g) r hf hg least there absent =
      let step = first_exit x q t e g hg in
      let l = step.0 in
      let next = live_least laws x n bound t l.to (g, step.2) in
      let r' = next.0 in
      let hf' : Leads x s l.to (f ++ e ∷ []) = leads_append x s q l.to f (e ∷ []) hf (leads_first x q l.to e [] l step.1 refl) in
      let split : (f ++ e ∷ []) ++ g ≡ f ++ e ∷ g = append_assoc f (e ∷ []) g in
      let split' : (f ++ e ∷ []) ++ r' ≡ f ++ e ∷ r' = append_assoc f (e ∷ []) r' in
      let on : Listed ((f ++ e ∷ []) ++ r') ds → Found ds (f ++ e ∷ g) =
      λ listed. subst (Found ds) split (find_from ds small size l.to (f ++ e ∷ []) g r' hf' step.2 next.1 listed (λ h. absent (subst (λ c. Listed c ds) split h))) in
      ⊎_elim
      (λ (same : r ≡ e ∷ r'). on (subst (λ c. Listed c ds) (ap (λ h. f ++ h) same ∙ sym split') there))
      (λ (offer : Offer m x t s (f ++ r) (length f) e (f ++ e ∷ r')).
      ⊎_elim
      (λ (listed : Listed (f ++ e ∷ r') ds). on (subst (λ c. Listed c ds) (sym split') listed))
      (λ (waits : Listed (f ++ e ∷ r') ds → ⊥). (
        f ++ e ∷ r',
        record { absent = waits; source = inr (f ++ r, there, (length f, e, offer)) },
        let few = bound.few_modes in
            let small_here = small there.0 there.1 in
            let long = ap length there.2 ∙ length-append f r in
            let longer = length-append f (e ∷ []) in
            let room : length (f ++ e ∷ []) + n ≤ longest = omega (arith, there.1) in
            ⊎_elim
            (λ (same : (f ++ e ∷ []) ++ r' ≡ (f ++ e ∷ []) ++ g). inl (sym split' ∙ same ∙ split))
            (λ (b : Before m x s ((f ++ e ∷ []) ++ r') ((f ++ e ∷ []) ++ g)). inr (subst (λ c. Before m x s c (f ++ e ∷ g)) split' (subst (Before m x s ((f ++ e ∷ []) ++ r')) split b)))
            (along l.to (f ++ e ∷ []) g r' hf' step.2 room next.1),
      ))
      (listed_or_not (f ++ e ∷ r') ds))
      (turn laws x n bound t s q e f r r' l hf least step.1 next.1)

  find : (ds : List Course) → Small ds → length ds ≤ 65534 → (a : Course) → Leads x s t a → (Listed a ds → ⊥) → Found ds a
  find ds small size a leads absent =
      let few = bound.few_modes in
      let r = live_least laws x n bound t s (a, leads) in
      ⊎_elim
      (λ (there : Listed r.0 ds). find_from ds small size s [] a r.0 refl leads r.1 there absent)
      (λ (waits : Listed r.0 ds → ⊥). (r.0, record { absent = waits; source = inl r.1 }, along s [] a r.0 refl leads (omega arith) r.1))
      (listed_or_not r.0 ds)

  -- what waits is not much longer than the longest course of the list
  waiting_length : (ds : List Course) → Small ds → (w : Course) → Waiting m x s t ds w → length w < 4096 * (length ds + 1)
  waiting_length ds small w waits =
      ⊎_elim
      (λ (least : Least m x t s w). omega (arith, least_short laws x n bound t s w least, bound.few_modes))
      (λ (o : (a : Course) × Listed a ds × ((i : ℕ) × (e : ℕ) × Offer m x t s a i e w)).
      let offer = o.2.2 in
      let rest = least_short laws x n bound t _ offer.rest offer.least in
      let few = bound.few_modes in
      let small_here = small o.1.0 o.1.1 in
      let long = ap length o.1.2 in
      let front = length-take-le o.2.0 o.0 offer.to_stretch in
      omega (arith, ap length offer.is, length-append (take o.2.0 o.0) (o.2.1 ∷ offer.rest), offer.to_stretch, o.1.1))
      waits.source

  -- what waits is a course
  waiting_leads : (ds : List Course) (w : Course) → Waiting m x s t ds w → Leads x s t w
  waiting_leads ds w waits =
      ⊎_elim
      (λ (least : Least m x t s w). least.leads)
      (λ (o : (a : Course) × Listed a ds × ((i : ℕ) × (e : ℕ) × Offer m x t s a i e w)).
      let offer = o.2.2 in
      let d = offer.detour in
      subst (Leads x s t) (sym offer.is)
      (leads_append x s offer.mode t (take o.2.0 o.0) (o.2.1 ∷ offer.rest) offer.reached
      (leads_first x offer.mode t o.2.1 offer.rest d.lead d.open_exit offer.least.leads)))
      waits.source

  listed_front : (ds : List Course) (k : ℕ) → k ≤ length ds → (a : Course) (j : ℕ) → j < k → get_or ds j [] ≡ a → Listed a (take k ds)
  listed_front ds k h a j l e = (j, omega (arith, length-take-le k ds h), get_or-take k ds j [] l ∙ e)

  -- the course at place k is the first that waits behind those before it
  place_small : (ds : List Course) → FirstCourses m x s t ds → (k : ℕ) → k < length ds → k ≤ 65534 → Small (take k ds) → length (get_or ds k []) < 4096 * (k + 1)
  place_small ds first k h size small =
      let a = get_or ds k [] in
      let long = length-take-le k ds (omega arith) in
      let found = find (take k ds) small (omega arith) a (first.courses k h) (λ there. apart laws x s t ds first there.0 k (omega (arith, there.1)) h (sym (get_or-take k ds there.0 [] (omega (arith, there.1))) ∙ there.2)) in
      let w = found.0 in
      let same : w ≡ a =
      ⊎_elim
      (λ (e : w ≡ a). e)
      (λ (b : Before m x s w a).
      let there = earlier laws x s t ds first k h w (waiting_leads (take k ds) w found.1) b in
      absurd (found.1.absent (listed_front ds k (omega arith) w there.0 there.1 there.2)))
      found.2 in
      omega (arith, ap length same, waiting_length (take k ds) small w found.1)

  front_small : (ds : List Course) → FirstCourses m x s t ds → (k : ℕ) → k ≤ length ds → k ≤ 65534 → Small (take k ds)
  front_small ds first zero h size j l = absurd (omega (arith, length-take-le 0 ds h))
  front_small ds first (suc k) h size j l =
      let ih = front_small ds first k (omega arith) (omega arith) in
      let long = length-take-le (suc k) ds h in
      let short = length-take-le k ds (omega arith) in
      let here = get_or-take (suc k) ds j [] (omega arith) in
      ⊎_elim
      (λ (low : j < k). let there = get_or-take k ds j [] low in omega (arith, ap length here, ap length there, ih j (omega arith)))
      (λ (high : k ≤ j). let same : j ≡ k = omega arith in omega (arith, ap length here, ap (λ i. length (get_or ds i [])) same, place_small ds first k (omega arith) (omega arith) ih))
      (cases_lt j k)

  firsts_small : (ds : List Course) → FirstCourses m x s t ds → length ds ≤ 65534 → Small ds
  firsts_small ds first size = subst Small (take_all (length ds) ds (omega arith)) (front_small ds first (length ds) (omega arith) size)

  pub first_waiting_is_next : (ds : List Course) → FirstCourses m x s t ds → length ds ≤ 65534 → (c : Course) → Waiting m x s t ds c → ((b : Course) → Waiting m x s t ds b → (b ≡ c → ⊥) → Before m x s c b) → FirstCourses m x s t (ds ++ c ∷ [])
  first_waiting_is_next ds first size c waits ahead =
      record {
        courses = λ k l. at_place k l (Leads x s t) (λ h. first.courses k h) (λ _. leads);
        in_order = λ i k h l.
            let here : i < length ds = omega (arith, length_push ds c) in
            at_place i (omega arith) (λ a. Before m x s a (get_or (ds ++ c ∷ []) k []))
            (λ _. at_place k l (Before m x s (get_or ds i [])) (λ n. first.in_order i k h n) (λ _. first.rest_after c leads waits.absent i here))
            (λ e. absurd (omega arith));
        rest_after = λ a la absent k l. at_place k l (λ b. Before m x s b a) (λ h. first.rest_after a la (λ there. absent (old a there)) k h) (λ _. behind a la absent);
      }
    where
      leads : Leads x s t c
      leads = waiting_leads ds c waits

      -- the longer list has the old courses at the old places, and c behind them
      at_place : (k : ℕ) → k < length (ds ++ c ∷ []) → (P : Course → Type 0) → (k < length ds → P (get_or ds k [])) → (k ≡ length ds → P c) → P (get_or (ds ++ c ∷ []) k [])
      at_place k l P before last =
          ⊎_elim
          (λ (h : k < length ds). subst P (sym (get_or_append_left ds (c ∷ []) [] k h)) (before h))
          (λ (h : length ds ≤ k). let e : k ≡ length ds = omega (arith, length_push ds c) in subst P (sym (get_or_push ds c [] k (sym e))) (last e))
          (cases_lt k (length ds))

      old : (a : Course) → Listed a ds → Listed a (ds ++ c ∷ [])
      old a there = (there.0, omega (arith, there.1, length_push ds c), get_or_append_left ds (c ∷ []) [] there.0 there.1 ∙ there.2)

      -- every other course stands after c
      behind : (a : Course) → Leads x s t a → (Listed a (ds ++ c ∷ []) → ⊥) → Before m x s c a
      behind a la absent =
          let found = find ds (firsts_small ds first size) size a la (λ there. absent (old a there)) in
          let w = found.0 in
          let other : c ≡ a → ⊥ = λ same. absent (length ds, omega (arith, length_push ds c), get_or_push ds c [] (length ds) refl ∙ same) in
          let after : (w ≡ c → ⊥) → Before m x s c w = ahead w found.1 in
          ⊎_elim
          (λ (here : w ≡ a). subst (Before m x s c) here (after (λ h. other (sym h ∙ here))))
          (λ (b : Before m x s w a).
          ⊎_elim
          (λ (same : w ≡ c). subst (λ d. Before m x s d a) same b)
          (λ (differs : w ≡ c → ⊥). before_through laws x s c w a (after differs) b)
          (same_course w c))
          found.2

  pub none_waiting_is_all : (ds : List Course) → FirstCourses m x s t ds → length ds ≤ 65534 → ((a : Course) → Waiting m x s t ds a → ⊥) → (a : Course) → Leads x s t a → Listed a ds
  none_waiting_is_all ds first size none a leads =
      ⊎_elim
      (λ (there : Listed a ds). there)
      (λ (absent : Listed a ds → ⊥). let found = find ds (firsts_small ds first size) size a leads absent in absurd (none found.0 found.1))
      (listed_or_not a ds)
