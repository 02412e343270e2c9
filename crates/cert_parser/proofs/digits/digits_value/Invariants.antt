use Rattle.std.proofs.Common.{◌≡◌, ◌≤◌, drop}
use Rattle.cert_parser.specs.Digits.{at_most, digits_of}
use Rattle.book_model.specs.lines.Lines.{value_from}
use Rattle.cert_parser.proofs.digits.digits_value.Given as goal

-- the rest of the digits goes on from the number so far
abbrev pub invariant-loop-digit : goal.invariant-loop-digit
invariant-loop-digit l = record {
  goes_on : at_most l.greatest (value_from l.number (drop l.digit-index l.digits)) ≡ at_most l.greatest
      (digits_of l.digits);
  small : l.number ≤ l.greatest;
}
