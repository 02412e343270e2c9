use Rattle.std.proofs.Common.{◌≡◌, ◌<◌, ◌^◌, drop}
use Rattle.book_model.specs.lines.Lines.{value_from}
use Rattle.line_core.proofs.fields.number.Given as goal

-- the rest of the digits goes on from the number so far, which has as many digits as are read
abbrev pub invariant-loop-digit : goal.invariant-loop-digit
invariant-loop-digit l = record {
  goes_on : value_from l.number (drop l.digit-index l.digits) ≡ value_from 0 l.digits;
  has_digits : l.number < 10 ^ l.digit-index;
}
