-- Lists of locks, and the chart that has them.
use Rattle.std.specs.Prelude.{◌≡◌, ℕ, ◌+◌, ◌<◌, ◌≤◌, Bool, true, false, cond, ◌||◌, List, [], ◌∷◌, ◌++◌, length, take, drop, None, Ok, Err, Option, Result, MatchResult, ◌==◌, ◌≢◌, nat_le, slice_index_or, slice_set, refl}
use Rattle.std.proofs.Common.{sym, ap, ◌∙◌, arith}
use Rattle.std.proofs.lemmas.List.{at_drop_more, at_drop_all, take_more_set, length-take-le}
use Rattle.std.proofs.lemmas.Bool.{lt-leb, eqb-true, and_parts}
use Rattle.charts.specs.LockMeaning.{lock_on, lock_meaning, Shuts}
use Rattle.charts.specs.Locks.{is_on, locked, set_fault, with_lock}
use Rattle.charts.specs.Meaning.{Meaning, SameExits}
use Rattle.charts.specs.declared.fault.LockFault.{LockFault}
use Rattle.charts.specs.declared.lead.Lead.{Lead}
use Rattle.charts.specs.declared.locks.Lock.{Lock}

-- a look through the locks, of which those before i are not on the exit
module _ (ls : List Lock) (p e i : ℕ) (so_far : locked (drop i ls) p e ≡ locked ls p e) where
  pub locked_here : (d : Lock) → i < length ls → true ≡ is_on (slice_index_or ls i d) p e → true ≡ locked ls p e
  locked_here d h on = let step = at_drop_more (λ xs. locked xs p e) ls i d h in cc

  pub locked_later : (d : Lock) → i < length ls → false ≡ is_on (slice_index_or ls i d) p e → locked (drop (i + 1) ls) p e ≡ locked ls p e
  locked_later d h off = let step = at_drop_more (λ xs. locked xs p e) ls i d h in cc

  pub locked_never : length ls ≤ i → false ≡ locked ls p e
  locked_never h = let end = at_drop_all (λ xs. locked xs p e) ls i h in cc

-- a new lock in the next place
pub set_new : (ls : List Lock) (n : ℕ) (l : Lock) → length ls ≡ 32 → n ≤ 32 → (n ≢ 32) → false ≡ locked (take n ls) l.mode l.exit
    → (None ≡ set_fault (take n ls) l) × (take (n + 1) (slice_set ls n l) ≡ with_lock (take n ls) l)
set_new ls n l long few some free =
    let lt : n < length ls = omega arith in
    let here = length-take-le n ls (omega arith) in
    let room : nat_le 32 (length (take n ls)) ≡ false = lt-leb 32 (length (take n ls)) (omega arith) in
    simp (sym free, room) (refl, take_more_set ls n l lt)

-- a lock shuts its exit and no other
or_swap : (a b c : Bool) → (a || (b || c)) ≡ (b || (a || c))
or_swap true true c = refl
or_swap true false c = refl
or_swap false true c = refl
or_swap false false c = refl

locked_append : (ls : List Lock) (l : Lock) (p e : ℕ) → locked (ls ++ l ∷ []) p e ≡ (is_on l p e || locked ls p e)
locked_append [] l p e = refl
locked_append (x ∷ ls) l p e =
    ap (λ t. is_on x p e || t) (locked_append ls l p e) ∙ or_swap (is_on x p e) (is_on l p e) (locked ls p e)

-- a lock on an exit that is locked already
module _ (ls : List Lock) (l : Lock) (held : true ≡ locked ls l.mode l.exit) (p e : ℕ) where
  held_on : is_on l p e ≡ true → locked ls p e ≡ true
  held_on on =
      let both = and_parts (l.mode == p) (l.exit == e) on in
      let mode = eqb-true l.mode p both.0 in
      let exit = eqb-true l.exit e both.1 in
      cc

  held_or : (t : Bool) → is_on l p e ≡ t → locked ls p e ≡ (t || locked ls p e)
  held_or true on = held_on on
  held_or false off = refl

locked_with_by : (ls : List Lock) (l : Lock) (p e : ℕ) (b : Bool) → b ≡ locked ls l.mode l.exit
    → locked (cond b ls (ls ++ l ∷ [])) p e ≡ (is_on l p e || locked ls p e)
locked_with_by ls l p e true held = held_or ls l held p e (is_on l p e) refl
locked_with_by ls l p e false free = locked_append ls l p e

locked_with : (ls : List Lock) (l : Lock) (p e : ℕ) → locked (with_lock ls l) p e ≡ (is_on l p e || locked ls p e)
locked_with ls l p e = locked_with_by ls l p e (locked ls l.mode l.exit) refl

shut_or : (a b : Bool) (o : Option Lead) → cond (a || b) None o ≡ cond a None (cond b None o)
shut_or true b o = refl
shut_or false b o = refl

pub lock_shuts : (m : Meaning) (ls ls' : List Lock) (p e : ℕ) → ls' ≡ with_lock ls (lock_on p e) → Shuts p e (lock_meaning m ls) (lock_meaning m ls')
lock_shuts m ls ls' p e same q f =
    ap (λ t. cond t None (m.exit q f)) (ap (λ xs. locked xs q f) same ∙ locked_with ls (lock_on p e) q f)
    ∙ shut_or (is_on (lock_on p e) q f) (locked ls q f) (m.exit q f)

pub lock_kept : (m : Meaning) (ls ls' : List Lock) → ls' ≡ ls → SameExits (lock_meaning m ls) (lock_meaning m ls')
lock_kept m ls ls' same q f = ap (λ xs. cond (locked xs q f) None (m.exit q f)) (sym same)

-- what an answer of `lock` says of the exits
pub lock_exits : {X : Type 0} (m : Meaning) (ls ls' : List Lock) (p e : ℕ) (r : Result X LockFault)
    → MatchResult r (λ _. ls' ≡ with_lock ls (lock_on p e)) (λ _. ls' ≡ ls)
    → MatchResult r (λ _. Shuts p e (lock_meaning m ls) (lock_meaning m ls')) (λ _. SameExits (lock_meaning m ls) (lock_meaning m ls'))
lock_exits m ls ls' p e (Ok x) same = lock_shuts m ls ls' p e same
lock_exits m ls ls' p e (Err f) same = lock_kept m ls ls' same
