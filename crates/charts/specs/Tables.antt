-- A table of offsets and entries: when it is a chart, why it is refused, and what it means.
use Rattle.std.specs.Prelude.{◌≡◌, ℕ, ◌+◌, ◌-◌, ◌<◌, ◌≤◌, if◌then◌else◌, List, length, Some, None, Option, nat_lt, slice_index}
use Rattle.std.specs.List.{slice_get}
use Rattle.charts.specs.Meaning.{Meaning}
use Rattle.charts.specs.declared.fault.ChartFault.{ChartFault}
use Rattle.charts.specs.declared.fault.ChartFault.TheVariants.{OffsetCount, BadOffset, UnknownTarget}
use Rattle.charts.specs.declared.lead.Lead.{Lead}

-- the offset with a number; 0 past the last
abbrev pub offset : List ℕ → ℕ → ℕ
offset os i = slice_index os i

-- a mode begins at each offset but the last
abbrev pub table_modes : List ℕ → ℕ
table_modes os = length os - 1

-- a mode has as many exits as its offset lies below the next; an unknown mode has none
abbrev pub table_exits : List ℕ → ℕ → ℕ
table_exits os p = if nat_lt p (table_modes os) then offset os (p + 1) - offset os p else 0

-- its exits are the entries from its offset on
abbrev pub table_exit : List ℕ → List Lead → ℕ → ℕ → Option Lead
table_exit os es p e = if nat_lt e (table_exits os p) then slice_get es (offset os p + e) else None

-- what a table means
abbrev pub table_meaning : List ℕ → List Lead → Meaning
table_meaning os es = record { modes = table_modes os; exits = table_exits os; exit = table_exit os es }

-- a table has 1 to 4,096 modes, so 2 to 4,097 offsets
abbrev pub GoodCount : List ℕ → Type 0
GoodCount os = (2 ≤ length os) × (length os ≤ 4097)

-- the first offset is 0, each is 0 to 64 above the one before, and the last is the number of entries
abbrev pub GoodOffset : List ℕ → (entries : ℕ) → ℕ → Type 0
GoodOffset os n i =
    (i ≡ 0 → offset os i ≡ 0)
    × (0 < i → (offset os (i - 1) ≤ offset os i) × (offset os i ≤ offset os (i - 1) + 64))
    × (i + 1 ≡ length os → offset os i ≡ n)

-- an entry leads to one of the modes
abbrev pub KnownTarget : (modes : ℕ) → List Lead → ℕ → Type 0
KnownTarget m es j = (l : Lead) → slice_get es j ≡ Some l → l.to < m

-- every offset is good
abbrev pub GoodOffsets : List ℕ → (entries : ℕ) → Type 0
GoodOffsets os n = (i : ℕ) → i < length os → GoodOffset os n i

-- each offset is followed by one that is 0 to 64 above it
abbrev pub Rising : List ℕ → Type 0
Rising os = (p : ℕ) → p + 1 < length os → (offset os p ≤ offset os (p + 1)) × (offset os (p + 1) ≤ offset os p + 64)

-- every entry leads to one of the modes
abbrev pub KnownTargets : (modes : ℕ) → List Lead → Type 0
KnownTargets m es = (j : ℕ) → j < length es → KnownTarget m es j

-- a table that is a chart
abbrev pub SoundTable : List ℕ → List Lead → Type 0
SoundTable os es = GoodCount os × GoodOffsets os (length es) × KnownTargets (table_modes os) es

-- the offset at fault is the least one
abbrev pub FirstBadOffset : List ℕ → (entries : ℕ) → ℕ → Type 0
FirstBadOffset os n i = (i < length os) × (GoodOffset os n i → ⊥) × ((k : ℕ) → k < i → GoodOffset os n k)

-- the entry at fault is the least one
abbrev pub FirstUnknownTarget : (modes : ℕ) → List Lead → ℕ → Type 0
FirstUnknownTarget m es j = (j < length es) × (KnownTarget m es j → ⊥) × ((k : ℕ) → k < j → KnownTarget m es k)

-- a table is refused for a fault only if it has none that is named before it
abbrev pub FaultyTable : List ℕ → List Lead → ChartFault → Type 0
FaultyTable os es OffsetCount = GoodCount os → ⊥
FaultyTable os es (BadOffset i) = GoodCount os × FirstBadOffset os (length es) i
FaultyTable os es (UnknownTarget j) = GoodCount os × GoodOffsets os (length es) × FirstUnknownTarget (table_modes os) es j

-- what the check of a table finds
abbrev pub CheckedTable : List ℕ → List Lead → Option ChartFault → Type 0
CheckedTable os es None = SoundTable os es
CheckedTable os es (Some f) = FaultyTable os es f

-- the check of a table finds this, and nothing else would be right
abbrev pub AnswerOfTable : List ℕ → List Lead → Option ChartFault → Type 0
AnswerOfTable os es a = CheckedTable os es a × ((b : Option ChartFault) → CheckedTable os es b → b ≡ a)
