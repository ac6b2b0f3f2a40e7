-- Offsets, entries and locks as they are laid out.
use Rattle.std.proofs.Common.{◌≡◌, ℕ, zero, suc, ◌+◌, ◌<◌, ◌≤◌, Bool, true, false, cond, List, [], ◌∷◌, ◌++◌, map, length, get_or, drop, Some, None, count_by, sym, refl, ap, ◌∙◌, subst, arith}
use Rattle.std.specs.List.Sorted.{IsNonDecreasingBy, IsPartitionPoint}
use Rattle.std.proofs.lemmas.List.Sums.{sum_by-cons}
use Rattle.std.proofs.lemmas.List.{drop_more}
use Rattle.std.proofs.lemmas.Bool.Decides.{nat_tests}
use Rattle.charts.specs.declared.fault.LockFault.{LockFault}
use Rattle.charts.specs.declared.locks.Lock.{Lock}
use Rattle.charts.specs.LockMeaning.{lock_on, lock_fault}
use Rattle.charts.specs.Locks.{with_lock}
use Rattle.charts.specs.Meaning.{Meaning}
use Rattle.reader.specs.declared.content.ExitLine.{ExitLine}
use Rattle.reader.specs.declared.content.LockLine.{LockLine}
use Rattle.reader.specs.Layout.{set_all, AllSet, Declined}
use Rattle.reader.specs.Rows.{Exit, exit_told, exit_form, last_from}
use Rattle.reader.specs.Sections.{Fine}

-- what setting the lines that are left does is what setting all of them does
pub record LeftToSet (m : Meaning) (held : List Lock) (left : List LockLine) (i : ℕ) (start : List Lock) (all : List LockLine) : Type 0 where
  pub sets : AllSet m held left → AllSet m start all
  pub ends : set_all held left ≡ set_all start all
  pub declines : (k : ℕ) (f : LockFault) → Declined m held left k f → Declined m start all (i + k) f

pub left_more : (m : Meaning) (held : List Lock) (l : LockLine) (left : List LockLine) (i : ℕ) (start : List Lock) (all : List LockLine) → LeftToSet m held (l ∷ left) i start all → lock_fault m held l.mode l.exit ≡ None → LeftToSet m (with_lock held (lock_on l.mode l.exit)) left (i + 1) start all
left_more m held l left i start all h fine = record {
  sets = λ rest. h.sets (fine, rest);
  ends = h.ends;
  declines = λ k f d. let e : i + suc k ≡ i + 1 + k = omega arith in subst (λ n. Declined m start all n f) e (h.declines (suc k) f (fine, d));
}

pub left_declined : (m : Meaning) (held : List Lock) (l : LockLine) (left : List LockLine) (i : ℕ) (start : List Lock) (all : List LockLine) (f : LockFault) → LeftToSet m held (l ∷ left) i start all → lock_fault m held l.mode l.exit ≡ Some f → Declined m start all i f
left_declined m held l left i start all f h e =
    let z : i + 0 ≡ i = omega arith in subst (λ n. Declined m start all n f) z (h.declines 0 f e)

-- no line leaves a mode below the one before, and the first none below n
abbrev Climbs : ℕ → List ExitLine → Type 0
Climbs n [] = Unit {0}
Climbs n (x ∷ xs) = (n ≤ x.from) × Climbs x.from xs

last_push : (n : ℕ) (xs : List Exit) (x : Exit) → last_from n (xs ++ x ∷ []) ≡ x.from
last_push n [] x = refl
last_push n (y ∷ ys) x = last_push y.from ys x

climbs_fine : (modes : ℕ) (before : List Exit) (xs : List ExitLine) → Fine exit_form modes before (map exit_told xs) → Climbs (last_from 0 before) xs
climbs_fine modes before [] h = tt
climbs_fine modes before (x ∷ xs) h =
    let slip = h.1 in
    let on : last_from 0 before ≤ x.from = grind (arith, nat_tests) in
    (on, subst (λ n. Climbs n xs) (last_push 0 before (exit_told x)) (climbs_fine modes (before ++ exit_told x ∷ []) xs h.2))

climbs_least : (n : ℕ) (xs : List ExitLine) (j : ℕ) (d : ExitLine) → Climbs n xs → j < length xs → n ≤ (get_or xs j d).from
climbs_least n [] j d h l = absurd (omega arith)
climbs_least n (x ∷ xs) zero d h l = h.0
climbs_least n (x ∷ xs) (suc j) d h l = let first = h.0 in omega (arith, climbs_least x.from xs j d h.1 (omega arith))

climbs_rise : (n : ℕ) (xs : List ExitLine) → Climbs n xs → IsNonDecreasingBy (λ x. x.from) xs
climbs_rise n [] h i j d k l = absurd (omega arith)
climbs_rise n (x ∷ xs) h zero zero d k l = omega arith
climbs_rise n (x ∷ xs) h zero (suc j) d k l = climbs_least x.from xs j d h.1 (omega arith)
climbs_rise n (x ∷ xs) h (suc i) zero d k l = absurd (omega arith)
climbs_rise n (x ∷ xs) h (suc i) (suc j) d k l = climbs_rise x.from xs h.1 i j d (omega arith) (omega arith)

pub fine_rising : (modes : ℕ) (xs : List ExitLine) → Fine exit_form modes [] (map exit_told xs) → IsNonDecreasingBy (λ x. x.from) xs
fine_rising modes xs h = climbs_rise 0 xs (climbs_fine modes [] xs h)

-- where those that pass come first, the place at which they end is their number
pub partition_count : (p : ExitLine → Bool) (xs : List ExitLine) (i : ℕ) → i ≤ length xs → IsPartitionPoint (λ x. p x ≡ true) (λ x. p x ≡ false) xs i → i ≡ count_by p xs
partition_count p [] i l h = omega arith
partition_count p (x ∷ xs) zero l h =
    let a = h.1 0 x (omega arith) (omega arith) in
    let r = partition_count p xs zero (omega arith) ((λ k d g m. absurd (omega arith)), λ k d g m. h.1 (suc k) d (omega arith) (omega arith)) in
    let s : count_by p (x ∷ xs) ≡ 0 + count_by p xs = sum_by-cons (λ y. cond (p y) 1 0) x xs ∙ ap (λ t. cond t 1 0 + count_by p xs) a in
    omega arith
partition_count p (x ∷ xs) (suc i) l h =
    let a = h.0 0 x (omega arith) (omega arith) in
    let r = partition_count p xs i (omega arith) ((λ k d g m. h.0 (suc k) d (omega arith) (omega arith)), λ k d g m. h.1 (suc k) d (omega arith) (omega arith)) in
    let s : count_by p (x ∷ xs) ≡ 1 + count_by p xs = sum_by-cons (λ y. cond (p y) 1 0) x xs ∙ ap (λ t. cond t 1 0 + count_by p xs) a in
    omega arith

-- the next lock line is accepted, or declined
pub lock_more : (m m' : Meaning) (held held' start : List Lock) (all : List LockLine) (i : ℕ) (d : LockLine) → i < length all → m' ≡ m → LeftToSet m held (drop i all) i start all → None ≡ lock_fault m' held (get_or all i d).mode (get_or all i d).exit → held' ≡ with_lock held (lock_on (get_or all i d).mode (get_or all i d).exit) → LeftToSet m held' (drop (i + 1) all) (i + 1) start all
lock_more m m' held held' start all i d l same left fine is =
    let here = subst (λ ls. LeftToSet m held ls i start all) (drop_more all i d l) left in
    let fine' = ap (λ n. lock_fault n held (get_or all i d).mode (get_or all i d).exit) (sym same) ∙ sym fine in
    subst (λ ls. LeftToSet m ls (drop (i + 1) all) (i + 1) start all) (sym is) (left_more m held (get_or all i d) (drop (i + 1) all) i start all here fine')

pub lock_declined : (m m' : Meaning) (held start : List Lock) (all : List LockLine) (i : ℕ) (d : LockLine) (f : LockFault) → i < length all → m' ≡ m → LeftToSet m held (drop i all) i start all → Some f ≡ lock_fault m' held (get_or all i d).mode (get_or all i d).exit → Declined m start all i f
lock_declined m m' held start all i d f l same left fault =
    let here = subst (λ ls. LeftToSet m held ls i start all) (drop_more all i d l) left in
    let fault' = ap (λ n. lock_fault n held (get_or all i d).mode (get_or all i d).exit) (sym same) ∙ sym fault in
    left_declined m held (get_or all i d) (drop (i + 1) all) i start all f here fault'
