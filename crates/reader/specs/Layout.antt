-- The chart that a file's lines lay out, with its locks.
use Rattle.std.specs.Prelude.{◌≡◌, ℕ, zero, suc, ◌+◌, List, [], ◌∷◌, map, Some, None, vec_items, count_by, nat_lt}
use Rattle.std.specs.List.{range_with_len}
use Rattle.charts.specs.declared.fault.ChartFault.{ChartFault}
use Rattle.charts.specs.declared.fault.ChartFault.TheVariants.{OffsetCount, BadOffset, UnknownTarget}
use Rattle.charts.specs.declared.fault.LockFault.{LockFault}
use Rattle.charts.specs.declared.lead.Lead.{Lead}
use Rattle.charts.specs.declared.lock.LockChart.{LockChart}
use Rattle.charts.specs.declared.locks.Lock.{Lock}
use Rattle.charts.specs.declared.table.TableChart.{TableChart}
use Rattle.charts.specs.LockMeaning.{lock_on, lock_fault, chart_meaning}
use Rattle.charts.specs.Locks.{with_lock}
use Rattle.charts.specs.Meaning.{Meaning}
use Rattle.charts.specs.Tables.{table_meaning}
use Rattle.reader.specs.declared.content.ExitLine.{ExitLine}
use Rattle.reader.specs.declared.content.LockLine.{LockLine}

-- where the exits of mode p begin: behind the exit lines that leave a mode below p
abbrev pub begins : List ExitLine → ℕ → ℕ
begins exits p = count_by (λ x. nat_lt x.from p) exits

-- the offsets: one for each mode, and one more
abbrev pub offsets_of : ℕ → List ExitLine → List ℕ
offsets_of modes exits = map (begins exits) (range_with_len 0 (modes + 1))

-- the entries: the exit lines in order
abbrev pub lead_of : ExitLine → Lead
lead_of x = record { to = x.to; step = x.step }

-- the line of a chart's fault: an entry has its own, anything else shows on the line that counts the exits
abbrev pub chart_line : ℕ → ChartFault → ℕ
chart_line modes OffsetCount = modes + 2
chart_line modes (BadOffset i) = modes + 2
chart_line modes (UnknownTarget j) = modes + 3 + j

-- the locks that are held once all these lock lines are set in turn
abbrev pub set_all : List Lock → List LockLine → List Lock
set_all held [] = held
set_all held (l ∷ ls) = set_all (with_lock held (lock_on l.mode l.exit)) ls

-- each lock line in turn is accepted
abbrev pub AllSet : Meaning → List Lock → List LockLine → Type 0
AllSet m held [] = Unit {0}
AllSet m held (l ∷ ls) = (lock_fault m held l.mode l.exit ≡ None) × AllSet m (with_lock held (lock_on l.mode l.exit)) ls

-- lock line i is declined, for this fault, and those before it are accepted
abbrev pub Declined : Meaning → List Lock → List LockLine → ℕ → LockFault → Type 0
Declined m held [] i f = ⊥
Declined m held (l ∷ ls) zero f = lock_fault m held l.mode l.exit ≡ Some f
Declined m held (l ∷ ls) (suc i) f =
    (lock_fault m held l.mode l.exit ≡ None) × Declined m (with_lock held (lock_on l.mode l.exit)) ls i f

-- what a table chart means
abbrev pub table_means : TableChart → Meaning
table_means t = table_meaning (vec_items t.offsets) (vec_items t.entries)

-- what a table chart with its locks means
abbrev pub means : LockChart TableChart → Meaning
means c = chart_meaning table_means c
