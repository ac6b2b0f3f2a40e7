-- The operations of a measure.
use Rattle.std.specs.Prelude.{Bool, Option}
use Rattle.measures.specs.declared.step.Step.{Step}

pub record Operations (V : Type 0) : Type 0 where
  -- the value of no step at all
  pub nothing : V
  -- the value of one step
  pub step_value : Step → V
  -- the value of two parts, one after the other; none where it does not exist
  pub joined : V → V → Option V
  -- whether the first value is at most the second
  pub at_most : V → V → Bool
