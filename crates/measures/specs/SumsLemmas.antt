-- Sums of 64 bits: where one exists, what it is, and how it ranks.
use Rattle.std.specs.Prelude.{◌≡◌, ℕ, ◌+◌, ◌*◌, ◌≤◌, max, Bool, true, false, cond, Some, None, nat_le, refl}
use Rattle.std.proofs.Common.{sym, ◌∙◌, arith}
use Rattle.std.proofs.lemmas.Bool.{le-leb, cond-true}
use Rattle.measures.specs.declared.step.Step.{Step}
use Rattle.measures.specs.Bracketing.{Bracketing, one, both, count, evaluated}
use Rattle.measures.specs.Laws.{longest}
use Rattle.measures.specs.Sums.{added}
use Rattle.std.proofs.lemmas.Option.{same_Some, none-some}
use Rattle.measures.specs.OptionLemmas.{and_then_some}

-- a sum that exists is the sum
pub added_is : (a b x : ℕ) → added a b ≡ Some x → x ≡ a + b
added_is a b x e = go (nat_le (a + b) (max 18446744073709551615 (max a b))) e
  where
    go : (t : Bool) → cond t (Some (a + b)) None ≡ Some x → x ≡ a + b
    go true h = sym (same_Some (a + b) x h)
    go false h = absurd (none-some x h)

-- a sum of two numbers exists where it fits, or where it is one of the two
pub added_fits : (a b : ℕ) → a + b ≤ max 18446744073709551615 (max a b) → added a b ≡ Some (a + b)
added_fits a b h = cond-true _ _ _ (le-leb _ _ h)

-- the sum of a number of each step of a bracketing
abbrev pub total : (Step → ℕ) → Bracketing → ℕ
total f (one s) = f s
total f (both l r) = total f l + total f r

-- a number of a step that is so small (below 2 ^ 36) that the longest join of such numbers fits 64 bits
abbrev pub Small : (Step → ℕ) → Type 0
Small f = (s : Step) → f s ≤ 68719476735

total_small : (f : Step → ℕ) → Small f → (t : Bracketing) → total f t ≤ 68719476735 * count t
total_small f h (one s) = omega (arith, h s)
total_small f h (both l r) = omega (arith, total_small f h l, total_small f h r)

-- the sum at a joint of a long join exists
pub total_fits : (f : Step → ℕ) → Small f → (l r : Bracketing) → count l + count r ≤ longest → added (total f l) (total f r) ≡ Some (total f (both l r))
total_fits f h l r k = added_fits (total f l) (total f r) (omega (arith, total_small f h l, total_small f h r))

-- every long join of small numbers is their sum, whatever the value of nothing and the order
pub sums_exist : (n : ℕ) (o : ℕ → ℕ → Bool) (f : Step → ℕ) → Small f → (t : Bracketing) → count t ≤ longest → evaluated (record { nothing = n; step_value = f; joined = added; at_most = o }) t ≡ Some (total f t)
sums_exist n o f h (one s) k = refl
sums_exist n o f h (both l r) k =
    and_then_some _ (total f l) _ (sums_exist n o f h l (omega arith)) ∙ and_then_some _ (total f r) _ (sums_exist n o f h r (omega arith)) ∙ total_fits f h l r k
