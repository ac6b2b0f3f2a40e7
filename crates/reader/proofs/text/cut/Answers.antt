use Rattle.std.proofs.Common.{◌≢◌, ◌≡◌, rules, tests}
use Rattle.std.proofs.lemmas.Iterator.{IsFirst-from_position, YieldsList-from_slice}
use Rattle.reader.proofs.Cuts.{cut_found}
use Rattle.reader.proofs.text.cut.Goals as goal

pub returns : goal.returns
returns c =
    cut_found c.args.mark c.args.bytes.now c.in_ok-at.at
    (IsFirst-from_position _ _ _ (λ b. b ≡ c.args.mark) (λ b. b ≢ c.args.mark) c.in_ok-at.ensures.ran (YieldsList-from_slice c.args.bytes.now cc) (λ x q k. search (rules, tests)) (λ x q k. search (rules, tests)))
