-- A table that keeps its rules keeps to what every chart keeps to.
use Rattle.std.specs.Prelude.{◌≡◌, ℕ, ◌+◌, ◌<◌, Bool, true, false, if◌then◌else◌, List, length, Some, None, Option, nat_lt}
use Rattle.std.proofs.Common.{arith}
use Rattle.std.specs.List.{slice_get}
use Rattle.std.proofs.lemmas.Option.{slice_get_within}
use Rattle.std.proofs.lemmas.Bool.Decides.{nat_tests}
use Rattle.charts.specs.Meaning.{Lawful}
use Rattle.charts.specs.Tables.{offset, table_modes, table_exits, table_meaning, GoodCount, GoodOffsets, Rising, KnownTargets, SoundTable}
use Rattle.charts.specs.declared.lead.Lead.{Lead}

-- what a test leaves open was open
some_from_cond : (b : Bool) (o : Option Lead) (l : Lead) → (if b then o else None) ≡ Some l → o ≡ Some l
some_from_cond true o l h = h
some_from_cond false o l h = cc

-- good offsets rise
pub rising_from_good : (os : List ℕ) (n : ℕ) → GoodOffsets os n → Rising os
rising_from_good os n good p h = let g = good (p + 1) h in grind (arith, g)

pub table_lawful : (os : List ℕ) (es : List Lead) → GoodCount os → Rising os → KnownTargets (table_modes os) es → Lawful (table_meaning os es)
table_lawful os es counted rising known = record {
  some_mode = omega (arith, counted);
  few_modes = omega (arith, counted);
  few_exits = λ p. grind (arith, nat_tests, rising p);
  unknown_mode = λ p h. grind (arith, nat_tests);
  absent_exit = λ p e h. grind (arith, nat_tests);
  known_target = λ p e l h. entry_known (offset os p + e) l (some_from_cond (nat_lt e (table_exits os p)) (slice_get es (offset os p + e)) l h);
}
  where
    entry_known : (j : ℕ) (l : Lead) → slice_get es j ≡ Some l → l.to < table_modes os
    entry_known j l s = known j (slice_get_within es j l s) l s

pub sound_table_lawful : (os : List ℕ) (es : List Lead) → SoundTable os es → Lawful (table_meaning os es)
sound_table_lawful os es sound = table_lawful os es sound.0 (rising_from_good os (length es) sound.1) sound.2
