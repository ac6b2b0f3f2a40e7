-- The first courses of the hub chart.
use Rattle.std.proofs.Common.{◌≡◌, ℕ, zero, suc, ◌<◌, Bool, true, false, cond, [], ◌∷◌, length, Some, None, Option, refl, inl, inr, arith}
use Rattle.measures.specs.Values.{dwell, faults_first}
use Rattle.std.proofs.lemmas.Option.{same_Some, none-some}
use Rattle.measures.specs.ValuesLemmas.{dwell_laws, faults_first_laws}
use Rattle.charts.specs.LockMeaning.{lock_on}
use Rattle.charts.specs.Locks.{locked}
use Rattle.charts.specs.declared.lead.Lead.{Lead}
use Rattle.courses.specs.Courses.{Course, Leads, Before}
use Rattle.cases.specs.Cases.{hub, hub_locked}
use Rattle.courses.proofs.Walks.{first_exit, leads_first}
use Rattle.cases.proofs.Sorted.{Placed, Sorted, before_longer}

-- the ways on from mode 0
from_0 : (P : Course → Type 0) → P (1 ∷ []) → ((b : Course) → Leads hub 1 2 b → P (0 ∷ b)) → (a : Course) → Leads hub 0 2 a → P a
from_0 P out on [] h = absurd (omega (arith, same_Some 0 2 h))
from_0 P out on (zero ∷ b) h = on b h
from_0 P out on (suc zero ∷ []) h = out
from_0 P out on (suc zero ∷ e ∷ b) h = absurd (none-some 2 h)
from_0 P out on (suc (suc e) ∷ b) h = absurd (none-some 2 h)

-- the ways on from mode 1
pub from_1 : (P : Course → Type 0) → P (1 ∷ []) → ((b : Course) → Leads hub 0 2 b → P (0 ∷ b)) → (a : Course) → Leads hub 1 2 a → P a
from_1 P out back [] h = absurd (omega (arith, same_Some 1 2 h))
from_1 P out back (zero ∷ b) h = back b h
from_1 P out back (suc zero ∷ []) h = out
from_1 P out back (suc zero ∷ e ∷ b) h = absurd (none-some 2 h)
from_1 P out back (suc (suc e) ∷ b) h = absurd (none-some 2 h)

-- a course of the hub leaves at mode 0, or at mode 1, or comes back to mode 0
hub_cases : (P : Course → Type 0) → P (1 ∷ []) → P (0 ∷ 1 ∷ []) → ((b : Course) → Leads hub 0 2 b → P (0 ∷ 0 ∷ b)) → (a : Course) → Leads hub 0 2 a → P a
hub_cases P at-0 at_1 back a h = from_0 P at-0 (λ b k. from_1 (λ c. P (0 ∷ c)) at_1 back b k) a h

pub some_step : (a : Course) → Leads hub 0 2 a → 0 < length a
some_step a h = hub_cases (λ b. 0 < length b) (omega arith) (omega arith) (λ b k. omega arith) a h

pub by_dwell : Sorted dwell hub 0 2 (1 ∷ []) ((0 ∷ 1 ∷ []) ∷ (0 ∷ 0 ∷ 1 ∷ []) ∷ [])
by_dwell = record {
  leads = (refl, (refl, (refl, tt)));
  rising = (inl refl, (inl refl, tt));
  rest = hub_cases P (inl (0, omega arith, refl)) (inl (1, omega arith, refl)) (λ b h. hub_cases (λ c. P (0 ∷ 0 ∷ c)) (inl (2, omega arith, refl)) (inr (late 1 [])) (λ c k. inr (late 0 c)) b h);
}
  where
    P : Course → Type 0
    P c = Placed dwell hub 0 (1 ∷ []) ((0 ∷ 1 ∷ []) ∷ (0 ∷ 0 ∷ 1 ∷ []) ∷ []) c

    late : (e : ℕ) (r : Course) → Before dwell hub 0 (0 ∷ 0 ∷ 1 ∷ []) (0 ∷ 0 ∷ 0 ∷ e ∷ r)
    late e r = before_longer dwell_laws hub 0 (0 ∷ 0 ∷ 1 ∷ []) (0 ∷ 0 ∷ 0 ∷ []) (e ∷ r) refl refl refl refl (omega arith)

pub by_faults : Sorted faults_first hub 0 2 (0 ∷ 1 ∷ []) ((1 ∷ []) ∷ (0 ∷ 0 ∷ 0 ∷ 1 ∷ []) ∷ [])
by_faults = record {
  leads = (refl, (refl, (refl, tt)));
  rising = (inl refl, (inl refl, tt));
  rest = hub_cases P (inl (1, omega arith, refl)) (inl (0, omega arith, refl)) (λ b h. hub_cases (λ c. P (0 ∷ 0 ∷ c)) (inr (inl refl)) (inl (2, omega arith, refl)) (λ c k. inr (late c k)) b h);
}
  where
    P : Course → Type 0
    P c = Placed faults_first hub 0 (0 ∷ 1 ∷ []) ((1 ∷ []) ∷ (0 ∷ 0 ∷ 0 ∷ 1 ∷ []) ∷ []) c

    late : (c : Course) → Leads hub 0 2 c → Before faults_first hub 0 (0 ∷ 0 ∷ 0 ∷ 1 ∷ []) (0 ∷ 0 ∷ 0 ∷ 0 ∷ c)
    late c h = before_longer faults_first_laws hub 0 (0 ∷ 0 ∷ 0 ∷ 1 ∷ []) (0 ∷ 0 ∷ 0 ∷ 0 ∷ []) c refl refl refl refl (omega (arith, some_step c h))

-- a lock opens no exit
still_open : (b : Bool) (o : Option Lead) (l : Lead) → cond b None o ≡ Some l → o ≡ Some l
still_open true o l h = absurd (none-some l h)
still_open false o l h = h

still_leads : (p t : ℕ) (a : Course) → Leads hub_locked p t a → Leads hub p t a
still_leads p t [] h = h
still_leads p t (e ∷ a) h =
    let o = first_exit hub_locked p t e a h in
    leads_first hub p t e a o.0 (still_open (locked (lock_on 0 1 ∷ []) p e) (hub p e) o.0 o.1) (still_leads o.0.to t a o.2)

pub by_dwell_locked : Sorted dwell hub_locked 0 2 (0 ∷ 1 ∷ []) ((0 ∷ 0 ∷ 0 ∷ 1 ∷ []) ∷ [])
by_dwell_locked = record {
  leads = (refl, (refl, tt));
  rising = (inl refl, tt);
  rest = λ a h.
      hub_cases
      (λ b. Leads hub_locked 0 2 b → P b)
      (λ k. absurd (none-some 2 k))
      (λ k. inl (0, omega arith, refl))
      (λ b k. hub_cases (λ c. Leads hub_locked 0 2 (0 ∷ 0 ∷ c) → P (0 ∷ 0 ∷ c)) (λ n. absurd (none-some 2 n)) (λ n. inl (1, omega arith, refl)) (λ c j n. inr (late c j)) b k)
      a
      (still_leads 0 2 a h)
      h;
}
  where
    P : Course → Type 0
    P c = Placed dwell hub_locked 0 (0 ∷ 1 ∷ []) ((0 ∷ 0 ∷ 0 ∷ 1 ∷ []) ∷ []) c

    late : (c : Course) → Leads hub 0 2 c → Before dwell hub_locked 0 (0 ∷ 0 ∷ 0 ∷ 1 ∷ []) (0 ∷ 0 ∷ 0 ∷ 0 ∷ c)
    late c h = before_longer dwell_laws hub_locked 0 (0 ∷ 0 ∷ 0 ∷ 1 ∷ []) (0 ∷ 0 ∷ 0 ∷ 0 ∷ []) c refl refl refl refl (omega (arith, some_step c h))
