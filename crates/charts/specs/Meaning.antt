-- What a chart means, whatever it is made of.
use Rattle.std.specs.Prelude.{◌≡◌, ℕ, ◌<◌, ◌≤◌, Some, None, Option}
use Rattle.charts.specs.declared.lead.Lead.{Lead}

-- How many modes there are, how many exits each has, and where an exit leads: None where it is shut or does not exist.
pub record Meaning : Type 0 where
  pub modes : ℕ
  pub exits : ℕ → ℕ
  pub exit : ℕ → ℕ → Option Lead

-- What every chart keeps to.
pub record Lawful (m : Meaning) : Type 0 where
  pub some_mode : 1 ≤ m.modes
  pub few_modes : m.modes ≤ 4096
  pub few_exits : (p : ℕ) → m.exits p ≤ 64
  pub unknown_mode : (p : ℕ) → m.modes ≤ p → m.exits p ≡ 0
  pub absent_exit : (p e : ℕ) → m.exits p ≤ e → m.exit p e ≡ None
  pub known_target : (p e : ℕ) (l : Lead) → m.exit p e ≡ Some l → l.to < m.modes

-- Two charts mean the same exits: each exit is open in neither, or leads to the same mode by the same step in both.
abbrev pub SameExits : Meaning → Meaning → Type 0
SameExits m n = (p e : ℕ) → m.exit p e ≡ n.exit p e
