use Rattle.std.proofs.Common.{◌≡◌, ◌+◌, ◌*◌, ◌<◌, get_or, drop, sym, ap, ◌∙◌, subst, arith}
use Rattle.std.specs.Char.{digit_value}
use Rattle.std.specs.Str.Parse.{AllDigits, digits_value, digits_value_after}
use Rattle.std.proofs.lemmas.Int.Digits.{digits_more}
use Rattle.std.proofs.lemmas.List.{at_drop_all, take_all}
use Rattle.reader.proofs.Words.{digit_at, value_more, value_least}
use Rattle.reader.proofs.text.digits_value.Goals as goal

pub returns-in_err-digit : goal.returns-in_err-digit
returns-in_err-digit c =
    rw c.from_residual.ensures (λ p. c.in_err-digit.ensures.value (let small = digit_at _ _ p.0 c.loop-b-test.true in let same = ap digit_value c.from.ensures in omega arith))

pub returns-in_err-checked_mul : goal.returns-in_err-checked_mul
returns-in_err-checked_mul c =
    let least = value_least c.args.word.now c.loop-b.b-index c.loop-b.value c.loop-b-test.true c.loop-b.invariant.1 in
    rw c.from_residual-in_err-checked_mul.ensures (λ p. c.in_err-checked_mul.ensures (let small = p.1 in omega arith))

pub returns-in_err-value : goal.returns-in_err-value
returns-in_err-value c =
    let least = value_least c.args.word.now c.loop-b.b-index c.loop-b.value c.loop-b-test.true c.loop-b.invariant.1 in
    let same = ap digit_value c.from.ensures in
    let digit = c.in_ok-digit.ensures.value.1 in
    let shifted = c.in_ok-checked_mul.ensures.1 in
    rw c.from_residual-in_err-value.ensures (λ p. c.in_err-value.ensures (let small = p.1 in omega arith))

pub loop-b-preserved : goal.loop-b-preserved
loop-b-preserved c =
    let same = ap digit_value c.from.ensures in
    let digit = c.in_ok-digit.ensures.value in
    let shifted = c.in_ok-checked_mul.ensures in
    let value = c.in_ok-value.ensures in
    let small : digit_value (get_or c.args.word.now c.loop-b.b-index 0) < 10 = let d = digit.0 in omega arith in
    let e : c.in_ok-value.value ≡ c.loop-b.value * 10 + digit_value (get_or c.args.word.now c.loop-b.b-index 0) =
    let d = digit.1 in
    let s = shifted.1 in
    let v = value.1 in
    omega arith in
    (digits_more 10 _ _ c.loop-b-test.true c.loop-b.invariant.0 small, ap (λ n. digits_value_after 10 n (drop (c.loop-b.b-index + 1) c.args.word.now)) e ∙ value_more _ _ _ c.loop-b-test.true c.loop-b.invariant.1, (let f = value.0 in let v = value.1 in omega arith))

pub returns : goal.returns
returns c =
    let e : c.loop-b.value ≡ digits_value 10 c.args.word.now = sym (at_drop_all (digits_value_after 10 c.loop-b.value) c.args.word.now c.loop-b.b-index c.loop-b-test.false) ∙ c.loop-b.invariant.1 in
    ((subst (AllDigits 10) (take_all _ _ c.loop-b-test.false) c.loop-b.invariant.0, (let small = c.loop-b.invariant.2 in omega arith)), e)
