-- What a measure is known by. Each law speaks only of joins that exist.
use Rattle.std.specs.Prelude.{◌≡◌, ℕ, ◌≤◌, true, false, if◌then◌else◌, Some}
use Rattle.std.specs.declared.cmp.Ordering.TheVariants.{Less, Equal, Greater}
use Rattle.std.specs.declared.cmp.Ordering.{Ordering}
use Rattle.measures.specs.Bracketing.{Bracketing, count, evaluated}
use Rattle.measures.specs.Operations.{Operations}

-- as many step values as every measure must be able to join
abbrev pub longest : ℕ
longest = 268435456

-- a is less than b: b is not at most a
abbrev pub Below : {V : Type 0} → Operations V → V → V → Type 0
Below m a b = m.at_most b a ≡ false

-- the answer of a comparison
abbrev pub ranked : {V : Type 0} → Operations V → V → V → Ordering
ranked m a b = if m.at_most a b then (if m.at_most b a then Equal else Less) else Greater

pub record Laws {V : Type 0} (m : Operations V) : Type 0 where
  -- of two values one is at most the other
  pub either : (a b : V) → m.at_most a b ≡ false → m.at_most b a ≡ true
  -- both ways only if they are equal
  pub equal : (a b : V) → m.at_most a b ≡ true → m.at_most b a ≡ true → a ≡ b
  -- "at most" carries through a third value
  pub carries : (a b c : V) → m.at_most a b ≡ true → m.at_most b c ≡ true → m.at_most a c ≡ true
  -- the bracketing of three values does not matter, where all four joins exist
  pub regroups : (a b c ab bc x y : V) → m.joined a b ≡ Some ab → m.joined b c ≡ Some bc → m.joined ab c ≡ Some x → m.joined a bc ≡ Some y → x ≡ y
  -- nothing, joined on either side, alters no value
  pub nothing_first : (a : V) → m.joined m.nothing a ≡ Some a
  pub nothing_last : (a : V) → m.joined a m.nothing ≡ Some a
  -- nothing is at most every value
  pub nothing_least : (a : V) → m.at_most m.nothing a ≡ true
  -- a common front keeps "less", where both joins exist
  pub front_keeps : (a b c x y : V) → Below m a b → m.joined c a ≡ Some x → m.joined c b ≡ Some y → Below m x y
  -- and so does a common end
  pub end_keeps : (a b c x y : V) → Below m a b → m.joined a c ≡ Some x → m.joined b c ≡ Some y → Below m x y
  -- a join of at most so many step values exists in any bracketing
  pub long_joins : (t : Bracketing) → count t ≤ longest → (v : V) × (evaluated m t ≡ Some v)
