use Rattle.std.proofs.Common.{◌≡◌, drop}
use Rattle.std.specs.Str.{all_ascii_digits}
use Rattle.command_line.proofs.number.is_number.Given as goal

-- the digits that are left decide
abbrev pub invariant-loop-digit : goal.invariant-loop-digit
invariant-loop-digit l = all_ascii_digits (drop l.digit-index l.digits) ≡ all_ascii_digits l.digits
