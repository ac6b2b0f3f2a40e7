-- What every chart keeps to, as said of an open exit.
use Rattle.std.proofs.Common.{◌≡◌, ℕ, ◌<◌, Some, arith}
use Rattle.charts.specs.Meaning.{Meaning, Lawful}
use Rattle.charts.specs.declared.lead.Lead.{Lead}

module _ (m : Meaning) (lawful : Lawful m) (p e : ℕ) (l : Lead) (opens : m.exit p e ≡ Some l) where
  -- it is one of its mode's exits
  pub open_exit_counted : e < m.exits p
  open_exit_counted = grind (arith, lawful.absent_exit p e)

  -- and so below 64
  pub open_exit_small : e < 64
  open_exit_small = omega (arith, open_exit_counted, lawful.few_exits p)

  -- its mode exists
  pub open_exit_mode : p < m.modes
  open_exit_mode = grind (arith, open_exit_counted, lawful.unknown_mode p)
