use Rattle.std.proofs.Common.{◌∙◌, ◌<◌, ◌-◌, ◌/◌, get_or, sym}
use Rattle.cert_parser.proofs.DigitLemmas.{over_digit}
use Rattle.cert_parser.proofs.digits.digits_value.Goals as goal

pub returns-then-number-greatest : goal.returns-then-number-greatest
returns-then-number-greatest c =
    let high : (c.args.greatest - (get_or c.args.digits.now c.loop-digit.digit-index 0 - 48)) / 10
    < c.loop-digit.number = rw (c.from-digit.ensures) at
    c.if-number-greatest.true in
    record {
      value = sym (over_digit c.args.greatest c.loop-digit.number c.args.digits.now c.loop-digit.digit-index
          c.loop-digit-test.true high) ∙
          c.loop-digit.invariant.goes_on;
      within = tt;
    }
