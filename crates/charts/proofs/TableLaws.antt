-- What was found of a table, and what a table chart keeps of it.
use Rattle.std.specs.Prelude.{◌≡◌, ℕ, ◌<◌, List, length, get_or, Decides, Option, nat_lt, slice_index_or}
use Rattle.std.proofs.Common.{subst}
use Rattle.std.proofs.lemmas.Option.{slice_get-get_or}
use Rattle.std.proofs.lemmas.Bool.{ltb-true, lt-ltb}
use Rattle.charts.specs.TableLaws.{rising_from_good}
use Rattle.charts.specs.Tables.{table_modes, GoodCount, Rising, KnownTarget, KnownTargets, SoundTable, CheckedTable}
use Rattle.charts.specs.declared.fault.ChartFault.{ChartFault}
use Rattle.charts.specs.declared.lead.Lead.{Lead}

-- an entry that was read says whether its target is known
target_known : (m : ℕ) (es : List Lead) (j : ℕ) (x : Lead) → j < length es → (get_or es j x).to < m → KnownTarget m es j
target_known m es j x h k l s =
    let g = slice_get-get_or es j x h in
    let same : get_or es j x ≡ l = cc in
    subst (λ (y : Lead). y.to < m) same k

pub target_decided : (m : ℕ) (es : List Lead) (j : ℕ) (x : Lead) → j < length es → Decides (nat_lt (get_or es j x).to m) (KnownTarget m es j)
target_decided m es j x h =
    ((λ t. target_known m es j x h (ltb-true (get_or es j x).to m t)), (λ k. lt-ltb (get_or es j x).to m (k (slice_index_or es j x) (slice_get-get_or es j x h))))

-- a sound table has what a table chart keeps
pub kept_by_sound : (os : List ℕ) (es : List Lead) → SoundTable os es → GoodCount os × (Rising os × (KnownTargets (table_modes os) es × Unit {0}))
kept_by_sound os es s = (s.0, (rising_from_good os (length es) s.1, (s.2, tt)))

-- what was found of equal lists
pub checked_at : (os os' : List ℕ) (es es' : List Lead) (a : Option ChartFault) → os ≡ os' → es ≡ es' → CheckedTable os es a → CheckedTable os' es' a
checked_at os os' es es' a p q found =
    subst (λ (x : List ℕ). CheckedTable x es' a) p (subst (λ (y : List Lead). CheckedTable os y a) q found)
