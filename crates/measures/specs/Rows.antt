-- What a row of steps comes to, and what the laws of a measure say of rows.
use Rattle.std.specs.Prelude.{◌≡◌, ◌+◌, ◌≤◌, true, List, [], ◌∷◌, ◌++◌, length, Some, Option}
use Rattle.measures.specs.declared.step.Step.{Step}
use Rattle.measures.specs.Bracketing.{Bracketing, count, steps, evaluated}
use Rattle.measures.specs.Laws.{Below, longest}
use Rattle.measures.specs.Operations.{Operations}
use Rattle.std.specs.Option.{option_and_then}

-- the value v with the values of the steps joined to it, from the first step on
abbrev pub row_from : {V : Type 0} → Operations V → V → List Step → Option V
row_from m v [] = Some v
row_from m v (s ∷ ss) = option_and_then (λ w. row_from m w ss) (m.joined v (m.step_value s))

-- the value of a row of steps: nothing if it is empty, none where a join does not exist
abbrev pub row_value : {V : Type 0} → Operations V → List Step → Option V
row_value m ss = row_from m m.nothing ss

module _ {V : Type 0} (m : Operations V) where
  -- a row of at most so many steps has a value
  abbrev pub RowsExist : Type 0
  RowsExist = (ps : List Step) → length ps ≤ longest → (v : V) × (row_value m ps ≡ Some v)

  -- the values of two rows join to the value of the one behind the other
  abbrev pub RowsJoin : Type 0
  RowsJoin = (ps qs : List Step) (a b : V) → length ps + length qs ≤ longest → row_value m ps ≡ Some a → row_value m qs ≡ Some b → m.joined a b ≡ row_value m (ps ++ qs)

  -- every bracketing of a row comes to the row's value
  abbrev pub OneValue : Type 0
  OneValue = (t : Bracketing) → count t ≤ longest → evaluated m t ≡ row_value m (steps t)

  -- a common front keeps the order of two rows
  abbrev pub FrontsKeep : Type 0
  FrontsKeep = (ps qs rs : List Step) (a b x y : V) → length rs + length ps ≤ longest → length rs + length qs ≤ longest → row_value m ps ≡ Some a → row_value m qs ≡ Some b → Below m a b → row_value m (rs ++ ps) ≡ Some x → row_value m (rs ++ qs) ≡ Some y → Below m x y

  -- a common end keeps the order of two rows
  abbrev pub EndsKeep : Type 0
  EndsKeep = (ps qs rs : List Step) (a b x y : V) → length ps + length rs ≤ longest → length qs + length rs ≤ longest → row_value m ps ≡ Some a → row_value m qs ≡ Some b → Below m a b → row_value m (ps ++ rs) ≡ Some x → row_value m (qs ++ rs) ≡ Some y → Below m x y

  -- nothing is at most the value of every row
  abbrev pub NothingLeast : Type 0
  NothingLeast = (ps : List Step) (a : V) → row_value m ps ≡ Some a → m.at_most m.nothing a ≡ true

  -- a join is at least its left part, however many steps either stands for
  abbrev pub JoinsGrow : Type 0
  JoinsGrow = (a b x : V) → m.joined a b ≡ Some x → m.at_most a x ≡ true
