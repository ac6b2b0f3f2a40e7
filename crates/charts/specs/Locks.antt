-- A list of locks: which exits it shuts, and what becomes of it when a lock is set.
use Rattle.std.specs.Prelude.{ℕ, Bool, if◌then◌else◌, ◌&&◌, List, [], ◌∷◌, ◌++◌, length, Some, None, Option, ◌==◌, nat_le}
use Rattle.std.specs.List.{list_any}
use Rattle.charts.specs.declared.fault.LockFault.{LockFault}
use Rattle.charts.specs.declared.fault.LockFault.TheVariants.{LocksFull}
use Rattle.charts.specs.declared.locks.Lock.{Lock}

-- a lock is on one exit of one mode
abbrev pub is_on : Lock → ℕ → ℕ → Bool
is_on l p e = l.mode == p && l.exit == e

-- an exit is locked if one of the locks is on it
abbrev pub locked : List Lock → ℕ → ℕ → Bool
locked ls p e = list_any (λ l. is_on l p e) ls

-- a 33rd different lock is declined
abbrev pub set_fault : List Lock → Lock → Option LockFault
set_fault ls l = if locked ls l.mode l.exit then None else if nat_le 32 (length ls) then Some LocksFull else None

-- a lock that is not held yet comes behind the others
abbrev pub with_lock : List Lock → Lock → List Lock
with_lock ls l = if locked ls l.mode l.exit then ls else ls ++ l ∷ []
