-- A join of step values in some bracketing.
use Rattle.std.specs.Prelude.{ℕ, ◌+◌, List, [], ◌∷◌, ◌++◌, Some, Option}
use Rattle.measures.specs.Operations.{Operations}
use Rattle.measures.specs.declared.step.Step.{Step}
use Rattle.std.specs.Option.{option_and_then}

-- one step, or two bracketings joined
pub data Bracketing : Type 0 where
  one : Step → Bracketing
  both : Bracketing → Bracketing → Bracketing

-- how many step values are joined
abbrev pub count : Bracketing → ℕ
count (one s) = 1
count (both l r) = count l + count r

-- the steps, in their order
abbrev pub steps : Bracketing → List Step
steps (one s) = s ∷ []
steps (both l r) = steps l ++ steps r

-- the value that the bracketing comes to, none where one of its joins does not exist
abbrev pub evaluated : {V : Type 0} → Operations V → Bracketing → Option V
evaluated m (one s) = Some (m.step_value s)
evaluated m (both l r) =
    option_and_then (λ a. option_and_then (m.joined a) (evaluated m r)) (evaluated m l)
