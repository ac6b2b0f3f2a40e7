use Rattle.std.proofs.Common.{ℕ, ◌<◌, ◌≤◌, Some, None, Option, List, length, MatchOption, rules, arith}
use Rattle.std.proofs.lemmas.Iterator.{first_from_Range}
use Rattle.charts.specs.Tables.{GoodOffset, GoodOffsets, FirstBadOffset}
use Rattle.charts.proofs.table_check.first_bad_offset.Goals as goal

least : (os : List ℕ) (n : ℕ) (r : Option ℕ)
    → MatchOption r ((k : ℕ) → 0 ≤ k → k < length os → GoodOffset os n k) (λ i. (0 ≤ i) × (i < length os) × (GoodOffset os n i → ⊥) × ((k : ℕ) → 0 ≤ k → k < i → GoodOffset os n k))
    → MatchOption r (GoodOffsets os n) (FirstBadOffset os n)
least os n None all = λ k h. all k (omega arith) h
least os n (Some i) found = (found.1, found.2, λ k h. found.3 k (omega arith) h)

pub returns : goal.returns
returns c =
    let os = c.args.offsets.now in
    let n = c.args.entries in
    least os n c.find.result (first_from_Range _ _ _ c.find.result (λ i. GoodOffset os n i → ⊥) (GoodOffset os n) c.find.ensures.ran (λ x q k. search rules) (λ x q k. search rules))
