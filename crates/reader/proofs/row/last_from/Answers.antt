use Rattle.std.proofs.Common.{◌≡◌, ℕ, Some, None, Option, MatchOption, Bor, rules}
use Rattle.reader.specs.declared.content.ExitLine.{ExitLine}
use Rattle.reader.proofs.Exits.{last_read}
use Rattle.reader.proofs.row.last_from.Goals as goal

told : (o : Option (Bor ExitLine)) (r : ℕ) (Q : Bor ExitLine → Type 0) → MatchOption o (r ≡ 0) Q → ((x : Bor ExitLine) → Q x → r ≡ x.now.from) → MatchOption o (r ≡ 0) (λ x. r ≡ x.now.from)
told None r Q h f = h
told (Some x) r Q h f = f x h

pub returns : goal.returns
returns c = last_read c.args.before.now c.last.result c.map_or.result c.last.ensures.value (told _ _ _ c.map_or.ensures (λ x q. search rules))
