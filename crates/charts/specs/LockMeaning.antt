-- What a lock chart means, and what setting a lock does to it.
use Rattle.std.specs.Prelude.{◌≡◌, ℕ, if◌then◌else◌, ◌&&◌, List, Some, None, Option, ◌==◌, nat_le}
use Rattle.charts.specs.Locks.{locked, set_fault}
use Rattle.charts.specs.Meaning.{Meaning}
use Rattle.charts.specs.declared.fault.LockFault.{LockFault}
use Rattle.charts.specs.declared.fault.LockFault.TheVariants.{UnknownMode, UnknownExit}
use Rattle.charts.specs.declared.lock.LockChart.{LockChart}
use Rattle.charts.specs.declared.locks.Lock.{Lock}

-- the locks that a lock chart holds, oldest first
abbrev pub locks_of : {C : Type 0} → LockChart C → List Lock
locks_of c = c.locks.items

-- the lock on one exit of one mode
abbrev pub lock_on : ℕ → ℕ → Lock
lock_on p e = record { mode = p; exit = e }

-- the chart below with the locked exits shut
abbrev pub lock_meaning : Meaning → List Lock → Meaning
lock_meaning m ls = record { modes = m.modes; exits = m.exits; exit = λ p e. if locked ls p e then None else m.exit p e }

-- what a lock chart means, from what the chart below means
abbrev pub chart_meaning : {C : Type 0} → (C → Meaning) → LockChart C → Meaning
chart_meaning below c = lock_meaning (below c.below) (locks_of c)

-- why a lock is declined: no such mode, no such exit of the mode, or too many locks
abbrev pub lock_fault : Meaning → List Lock → ℕ → ℕ → Option LockFault
lock_fault m ls p e =
    if nat_le m.modes p then Some UnknownMode else if nat_le (m.exits p) e then Some UnknownExit else set_fault ls (lock_on p e)

-- one exit is shut, and every other is as it was
abbrev pub Shuts : ℕ → ℕ → Meaning → Meaning → Type 0
Shuts p e m n = (q f : ℕ) → n.exit q f ≡ (if p == q && e == f then None else m.exit q f)
