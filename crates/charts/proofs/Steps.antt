-- A step is its faults and its dwell: the bounds that it carries make no difference.
use Rattle.std.proofs.Common.{◌≡◌, ℕ, ◌≤◌, min, subst, sym, ◌∙◌}
use Rattle.std.proofs.Math.Nat.{min-le_right, min-eq_left}
use native.Mathlib.Bridge.{le_prop}
use Rattle.measures.specs.declared.step.Step.{Step}
use Rattle.charts.specs.BladeMeaning.{step_of}

abbrev pub step_with : (f d : ℕ) → f ≤ 255 → d ≤ 4294967295 → Step
step_with f d few short = record { faults = f; dwell = d; few = few; short = short }

pub same_bounds : (f d : ℕ) (few few' : f ≤ 255) (short short' : d ≤ 4294967295) → step_with f d few short ≡ step_with f d few' short'
same_bounds f d few few' short short' = λ i. step_with f d (le_prop few few' i) (le_prop short short' i)

pub same_step : (s : Step) (f d : ℕ) → s.faults ≡ f → s.dwell ≡ d → (few : f ≤ 255) (short : d ≤ 4294967295) → s ≡ step_with f d few short
same_step s f d p q =
    subst (λ (x : ℕ). (few : x ≤ 255) (short : d ≤ 4294967295) → s ≡ step_with x d few short) p
    (subst (λ (y : ℕ). (few : s.faults ≤ 255) (short : y ≤ 4294967295) → s ≡ step_with s.faults y few short) q
    (λ few short. same_bounds s.faults s.dwell s.few few s.short short))

-- a step is the step of its faults and its dwell
pub same_step_of : (s : Step) (f d : ℕ) → s.faults ≡ f → s.dwell ≡ d → s ≡ step_of f d
same_step_of s f d faults dwell =
    let few : f ≤ 255 = rw faults at s.few in
    let short : d ≤ 4294967295 = rw dwell at s.short in
    same_step s (min f 255) (min d 4294967295) (faults ∙ sym (min-eq_left few)) (dwell ∙ sym (min-eq_left short)) (min-le_right f 255) (min-le_right d 4294967295)
