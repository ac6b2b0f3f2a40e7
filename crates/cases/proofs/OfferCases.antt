-- A detour that is none, and the offers of a course, in worked cases.
use Rattle.std.proofs.Common.{◌≡◌, ℕ, zero, suc, ◌<◌, List, [], ◌∷◌, ◌++◌, length, get_or, take, Some, sym, refl, ap, ◌∙◌, subst, inl, inr, arith}
use mathlib.Core.List.{head-eq_of_cons-eq}
use Rattle.std.specs.List.{ContainsAt as Has}
use Rattle.measures.specs.Values.{dwell}
use Rattle.std.proofs.lemmas.Option.{same_Some, none-some}
use Rattle.measures.specs.ValuesLemmas.{dwell_laws}
use Rattle.charts.specs.declared.lead.Lead.{Lead}
use Rattle.courses.specs.Courses.{Course, Leads, Before, Least, Detour, ChainOf, Offer, Earlier, OffersInOrder}
use Rattle.cases.specs.Cases.{lead, hub, twins}
use Rattle.courses.proofs.LeastCourses.{least_one}
use Rattle.courses.proofs.Settled.{least_at_watched}
use Rattle.courses.proofs.Chains.{not_empty}
use Rattle.cases.proofs.Sorted.{before_longer}

-- no course leads from mode 2 of the hub to mode 1
dead_2 : (a : Course) → Leads hub 2 1 a → ⊥
dead_2 [] h = omega (arith, same_Some 2 1 h)
dead_2 (e ∷ a) h = none-some 1 h

pub dead_end : Detour dwell hub 1 0 1 → ⊥
dead_end d =
    let same : lead 2 2 50 tt tt ≡ d.lead = same_Some (lead 2 2 50 tt tt) d.lead d.open_exit in
    dead_2 d.lives.0 (subst (λ k. Leads hub k.to 1 d.lives.0) (sym same) d.lives.1)

-- the lead of each exit of the twins
abbrev ten : Lead
ten = lead 1 0 10 tt tt

twins_0 : Least dwell twins 1 0 (0 ∷ [])
twins_0 = record { leads = refl; first = go }
  where
    go : (b : Course) → Leads twins 0 1 b → (b ≡ 0 ∷ [] → ⊥) → Before dwell twins 0 (0 ∷ []) b
    go [] h other = absurd (omega (arith, same_Some 0 1 h))
    go (zero ∷ []) h other = absurd (other refl)
    go (zero ∷ e ∷ b) h other = before_longer dwell_laws twins 0 (0 ∷ []) (0 ∷ []) (e ∷ b) refl refl refl refl (omega arith)
    go (suc zero ∷ []) h other = inr (refl, inr (refl, inl (omega arith)))
    go (suc zero ∷ e ∷ b) h other = before_longer dwell_laws twins 0 (0 ∷ []) (1 ∷ []) (e ∷ b) refl refl refl refl (omega arith)
    go (suc (suc e) ∷ b) h other = absurd (none-some 1 h)

twins_1 : Least dwell twins 1 1 []
twins_1 = least_at_watched dwell_laws twins 1

no_detours : ChainOf dwell twins 1 0 (0 ∷ []) []
no_detours = (ten, refl, inr (λ d. d.aside [] twins_0, refl))

aside_0 : Detour dwell twins 1 0 1
aside_0 = record {
  lead = ten;
  open_exit = refl;
  lives = ([], refl);
  aside = λ rest k. omega (arith, head-eq_of_cons-eq (least_one dwell_laws twins 1 0 (1 ∷ rest) (0 ∷ []) k twins_0));
}

aside_1 : (e : ℕ) → twins 1 e ≡ Some ten → Detour dwell twins 1 1 e
aside_1 e h = record {
  lead = ten;
  open_exit = h;
  lives = ([], refl);
  aside = λ rest k. not_empty e rest (least_one dwell_laws twins 1 1 [] (e ∷ rest) twins_1 k);
}

offer_0 : Offer dwell twins 1 0 (0 ∷ []) 0 1 (1 ∷ [])
unfolding aside_0
offer_0 = record { course = refl; chain = []; is_chain = no_detours; from_stretch = omega arith; to_stretch = omega arith; mode = 0; reached = refl; detour = aside_0; rest = []; least = twins_1; is = refl }

offer_1 : (e : ℕ) → twins 1 e ≡ Some ten → Offer dwell twins 1 0 (0 ∷ []) 1 e (0 ∷ e ∷ [])
unfolding aside_1
offer_1 e h = record { course = refl; chain = []; is_chain = no_detours; from_stretch = omega arith; to_stretch = omega arith; mode = 1; reached = refl; detour = aside_1 e h; rest = []; least = twins_1; is = refl }

abbrev listed : List (ℕ × ℕ × Course)
listed = (0, 1, 1 ∷ []) ∷ (1, 0, 0 ∷ 0 ∷ []) ∷ (1, 1, 0 ∷ 1 ∷ []) ∷ []

in_order : (i k : ℕ) (d : ℕ × ℕ × Course) → i < k → k < length listed → Earlier (get_or listed i d) (get_or listed k d)
in_order i zero d h l = absurd (omega arith)
in_order zero (suc zero) d h l = inl (omega arith)
in_order zero (suc (suc zero)) d h l = inl (omega arith)
in_order (suc i) (suc zero) d h l = absurd (omega arith)
in_order (suc zero) (suc (suc zero)) d h l = inr (refl, omega arith)
in_order (suc (suc i)) (suc (suc zero)) d h l = absurd (omega arith)
in_order i (suc (suc (suc k))) d h l = absurd (omega arith)

module _ (i e : ℕ) (c : Course) (o : Offer dwell twins 1 0 (0 ∷ []) i e c) (p : ℕ) (here : Leads twins 0 p (take i (0 ∷ []))) where
  same_mode : o.mode ≡ p
  same_mode = same_Some o.mode p (sym o.reached ∙ here)

  open_here : twins p e ≡ Some o.detour.lead
  open_here = ap (λ q. twins q e) (sym same_mode) ∙ o.detour.open_exit

  -- it goes on by the empty course
  ends_there : twins p e ≡ Some ten → take i (0 ∷ []) ++ e ∷ [] ≡ c
  ends_there h =
      let same : o.detour.lead ≡ ten = same_Some o.detour.lead ten (sym open_here ∙ h) in
      let rest : o.rest ≡ [] = least_one dwell_laws twins 1 1 o.rest [] (subst (λ (k : Lead). Least dwell twins 1 k.to o.rest) same o.least) twins_1 in
      sym (o.is ∙ ap {B = Course} (λ (r : Course). take i (0 ∷ []) ++ e ∷ r) rest)

every : (i e : ℕ) (c : Course) → Offer dwell twins 1 0 (0 ∷ []) i e c → Has listed (i, e, c)
every zero zero c o = absurd (o.detour.aside [] (subst (λ p. Least dwell twins 1 p (0 ∷ [])) (sym (same_mode 0 0 c o 0 refl)) twins_0))
every zero (suc zero) c o = (0, omega arith, λ d z. (0, 1, ends_there 0 1 c o 0 refl refl z))
every zero (suc (suc e)) c o = absurd (none-some o.detour.lead (open_here 0 (suc (suc e)) c o 0 refl))
every (suc zero) zero c o = (1, omega arith, λ d z. (1, 0, ends_there 1 0 c o 1 refl refl z))
every (suc zero) (suc zero) c o = (2, omega arith, λ d z. (1, 1, ends_there 1 1 c o 1 refl refl z))
every (suc zero) (suc (suc e)) c o = absurd (none-some o.detour.lead (open_here 1 (suc (suc e)) c o 1 refl))
every (suc (suc i)) e c o = absurd (omega (arith, o.to_stretch))

pub offers_listed : OffersInOrder dwell twins 1 0 (0 ∷ []) listed
offers_listed = record { offers = (offer_0, (offer_1 0 refl, (offer_1 1 refl, tt))); in_order = in_order; every = every }
