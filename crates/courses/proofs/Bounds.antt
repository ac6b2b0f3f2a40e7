-- What the laws of a chart say of its open exits.
use Rattle.std.proofs.Common.{◌≡◌, ℕ, ◌<◌, ◌≤◌, Some}
use Rattle.charts.specs.Meaning.{Meaning, Lawful}
use Rattle.charts.specs.declared.lead.Lead.{Lead}
use Rattle.charts.proofs.OpenExits.{open_exit_mode, open_exit_small}
use Rattle.courses.specs.Courses.{Exits}

-- the open exits lead from and to modes below n, and are numbered below 64
pub record Bounded (x : Exits) (n : ℕ) : Type 0 where
  pub some_mode : 1 ≤ n
  pub few_modes : n ≤ 4096
  pub known_target : (p e : ℕ) (l : Lead) → x p e ≡ Some l → l.to < n
  pub known_source : (p e : ℕ) (l : Lead) → x p e ≡ Some l → p < n
  pub low_exit : (p e : ℕ) (l : Lead) → x p e ≡ Some l → e < 64

pub bounded : (c : Meaning) → Lawful c → Bounded c.exit c.modes
bounded c lawful = record {
  some_mode = lawful.some_mode;
  few_modes = lawful.few_modes;
  known_target = lawful.known_target;
  known_source = open_exit_mode c lawful;
  low_exit = open_exit_small c lawful;
}
