-- The chains of a course of the hub chart.
use Rattle.std.proofs.Common.{◌≡◌, ℕ, ◌+◌, true, [], ◌∷◌, Some, refl, inl, inr, arith}
use mathlib.Core.List.{head-eq_of_cons-eq}
use Rattle.measures.specs.Laws.{Laws}
use Rattle.measures.specs.Operations.{Operations}
use Rattle.measures.specs.Values.{dwell, faults_first}
use Rattle.measures.specs.ValuesLemmas.{dwell_laws, faults_first_laws}
use Rattle.charts.specs.declared.lead.Lead.{Lead}
use Rattle.courses.specs.Courses.{Exits, Course, value_of, Before, Live, Least, Chain, Detours, ChainOf}
use Rattle.cases.specs.Cases.{hub}
use Rattle.courses.proofs.LeastCourses.{least_one}
use Rattle.cases.proofs.Sorted.{before_longer, least_first}
use Rattle.cases.proofs.HubCases.{from_1, some_step, by_dwell, by_faults}

module _ {V : Type 0} {m : Operations V} (laws : Laws m) where
  module _ (x : Exits) (t p i e : ℕ) (a : Course) (c : Chain) {r : Course} {l : Lead} where
    -- a step that the least course takes is no detour
    along_least : Least m x t p (e ∷ r) → x p e ≡ Some l → Detours m x t l.to (i + 1) a c → Detours m x t p i (e ∷ a) c
    along_least least open_exit rest = (l, open_exit, inr (λ d. d.aside r least, rest))

    -- a step by another exit is one
    by_detour : {f : ℕ} → Least m x t p (f ∷ r) → (e ≡ f → ⊥) → x p e ≡ Some l → Live x t l.to → Detours m x t l.to (i + 1) a c → Detours m x t p i (e ∷ a) ((i, e) ∷ c)
    by_detour {f} least other open_exit lives rest = (l, open_exit, inl (c, record { lead = l; open_exit = open_exit; lives = lives; aside = aside }, refl, rest))
      where
        aside : (b : Course) → Least m x t p (e ∷ b) → ⊥
        aside b k = other (head-eq_of_cons-eq (least_one laws x t p (e ∷ b) (f ∷ r) k least))

  -- from mode 1 the least course leaves at once, where that is no more than to go back
  out_of_1 : {u w : V} → value_of m hub 1 (1 ∷ []) ≡ Some u → value_of m hub 1 (0 ∷ []) ≡ Some w → m.at_most u w ≡ true → Least m hub 2 1 (1 ∷ [])
  out_of_1 eu ew le = record {
    leads = refl;
    first = from_1 (λ b. (b ≡ 1 ∷ [] → ⊥) → Before m hub 1 (1 ∷ []) b) (λ other. absurd (other refl)) (λ b h other. before_longer laws hub 1 (1 ∷ []) (0 ∷ []) b refl eu ew le (omega (arith, some_step b h)));
  }

dwell_0 : Least dwell hub 2 0 (1 ∷ [])
dwell_0 = least_first dwell_laws hub 0 2 _ _ by_dwell

dwell_1 : Least dwell hub 2 1 (1 ∷ [])
dwell_1 = out_of_1 dwell_laws refl refl refl

faults_0 : Least faults_first hub 2 0 (0 ∷ 1 ∷ [])
faults_0 = least_first faults_first_laws hub 0 2 _ _ by_faults

faults_1 : Least faults_first hub 2 1 (1 ∷ [])
faults_1 = out_of_1 faults_first_laws refl refl refl

pub chain_by_dwell : ChainOf dwell hub 2 0 (0 ∷ 0 ∷ 1 ∷ []) ((0, 0) ∷ (1, 0) ∷ [])
chain_by_dwell =
    by_detour dwell_laws hub 2 0 0 0 (0 ∷ 1 ∷ []) _ dwell_0 (omega arith) refl (1 ∷ [], refl) (
    by_detour dwell_laws hub 2 1 1 0 (1 ∷ []) _ dwell_1 (omega arith) refl (1 ∷ [], refl) (
    along_least dwell_laws hub 2 0 2 1 [] _ dwell_0 refl refl))

pub chain_by_faults : ChainOf faults_first hub 2 0 (0 ∷ 0 ∷ 1 ∷ []) ((1, 0) ∷ (2, 1) ∷ [])
chain_by_faults =
    along_least faults_first_laws hub 2 0 0 0 (0 ∷ 1 ∷ []) _ faults_0 refl (
    by_detour faults_first_laws hub 2 1 1 0 (1 ∷ []) _ faults_1 (omega arith) refl (1 ∷ [], refl) (
    by_detour faults_first_laws hub 2 0 2 1 [] _ faults_0 (omega arith) refl ([], refl) refl))
