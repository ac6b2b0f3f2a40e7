-- A lock chart keeps to what every chart keeps to.
use Rattle.std.specs.Prelude.{◌≡◌, Bool, true, false, if◌then◌else◌, List, Some, None, Option, refl}
use Rattle.charts.specs.LockMeaning.{lock_meaning}
use Rattle.charts.specs.Locks.{locked}
use Rattle.charts.specs.Meaning.{Meaning, Lawful}
use Rattle.charts.specs.declared.lead.Lead.{Lead}
use Rattle.charts.specs.declared.locks.Lock.{Lock}

-- what is open above a lock is open below it
some_below : (b : Bool) (o : Option Lead) (l : Lead) → (if b then None else o) ≡ Some l → o ≡ Some l
some_below true o l h = cc
some_below false o l h = h

-- and what is shut below stays so
none_above : (b : Bool) (o : Option Lead) → o ≡ None → (if b then None else o) ≡ None
none_above true o h = refl
none_above false o h = h

pub lock_lawful : (m : Meaning) (ls : List Lock) → Lawful m → Lawful (lock_meaning m ls)
lock_lawful m ls lawful =
    record {
      some_mode = lawful.some_mode;
      few_modes = lawful.few_modes;
      few_exits = lawful.few_exits;
      unknown_mode = lawful.unknown_mode;
      absent_exit = λ p e h. none_above (locked ls p e) (m.exit p e) (lawful.absent_exit p e h);
      known_target = λ p e l h. lawful.known_target p e l (some_below (locked ls p e) (m.exit p e) l h);
    }
