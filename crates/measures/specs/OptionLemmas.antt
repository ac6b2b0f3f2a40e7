-- One question after another, where any of them may have no answer: what the last answer says of the first.
use Rattle.std.specs.Prelude.{◌≡◌, Some, None, Option}
use Rattle.std.specs.Option.{option_and_then}
use Rattle.std.proofs.Common.{ap}
use Rattle.std.proofs.lemmas.Option.{option_and_then_some}

-- an answer that is there is handed on
pub and_then_some : {A B : Type 0} (o : Option A) (a : A) (f : A → Option B) → o ≡ Some a → option_and_then f o ≡ f a
and_then_some o a f e = ap (option_and_then f) e

-- and without a first answer there is none at all
pub and_then_none : {A B : Type 0} (o : Option A) (f : A → Option B) → o ≡ None → option_and_then f o ≡ None
and_then_none o f e = ap (option_and_then f) e

-- where the last answer is there, so is the first
pub and_then_parts : {A B : Type 0} (o : Option A) (f : A → Option B) (b : B) → option_and_then f o ≡ Some b → (a : A) × (o ≡ Some a) × (f a ≡ Some b)
and_then_parts o f b e = option_and_then_some f o b e (λ a p q. (a, p, q))
