use Rattle.std.proofs.Common.{◌≡◌, ◌∙◌, ◌<◌, ℕ, Bool, true, false, List, length, MatchBool, rules, tests}
use Rattle.std.specs.List.{HoldsAt, AllWithin, list_any}
use Rattle.std.proofs.lemmas.Iterator.{cases_from_any, YieldsList-from_slice}
use Rattle.std.proofs.lemmas.List.Elements.{All-from_all_within}
use Rattle.std.proofs.lemmas.List.Folds.{list_any_none}
use Rattle.charts.specs.Locks.{is_on, locked}
use Rattle.charts.specs.LockMeaning.{locks_of}
use Rattle.charts.specs.declared.locks.Lock.{Lock}
use Rattle.charts.proofs.lock.LockChartChart.exit.Goals as goal

-- where the search finds no lock, none is on the exit
none : (test : Lock → Bool) (ls : List Lock) (r : Bool) → r ≡ false → MatchBool r ((k : ℕ) × (k < length ls) × HoldsAt (λ l. Unit {0}) ls k) (AllWithin (λ l. test l ≡ false) ls 0 (length ls)) → list_any test ls ≡ false
none test ls false e all = list_any_none test ls (All-from_all_within (λ l. test l ≡ false) ls all)
none test ls true e all = cc

pub returns-else-any : goal.returns-else-any
returns-else-any g c =
    let free : locked (locks_of c.args.self.now) c.args.mode c.args.exit ≡ false =
    none (λ l. is_on l c.args.mode c.args.exit) (locks_of c.args.self.now) c.any.result c.if-any.false
    (cases_from_any _ _ c.any.result (λ l. Unit {0}) (λ l. is_on l c.args.mode c.args.exit ≡ false) c.any.ensures.ran (YieldsList-from_slice (locks_of c.args.self.now) (c.iter.ensures.rest ∙ c.deref.ensures.0)) (λ x q k. tt) (λ x q k. search (rules, tests))) in
    rw free c.exit.ensures
