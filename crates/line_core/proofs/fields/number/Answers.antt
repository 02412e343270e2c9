use Rattle.std.proofs.lemmas.Grind.{common_steps}
use Rattle.std.proofs.Common.{arith}
use Rattle.line_core.proofs.DateText.{few_digits, seven_digits}
use Rattle.line_core.proofs.fields.number.Goals as goal

pub overflow_mul-number : goal.overflow_mul-number
overflow_mul-number c = let small = few_digits c.loop-digit.digit-index c.loop-digit.number (omega arith)
    c.loop-digit.invariant.has_digits in omega arith

pub overflow_add-number : goal.overflow_add-number
overflow_add-number c = let small = few_digits c.loop-digit.digit-index c.loop-digit.number (omega arith)
    c.loop-digit.invariant.has_digits in omega arith

pub returns-clause-small : goal.returns-clause-small
returns-clause-small c = seven_digits c.loop-digit.digit-index c.loop-digit.number (omega arith)
    c.loop-digit.invariant.has_digits

pub returns-then-not-is_ascii_digit-clause-number : goal.returns-then-not-is_ascii_digit-clause-number
returns-then-not-is_ascii_digit-clause-number c = grind (arith, common_steps)

pub loop-digit-preserved : goal.loop-digit-preserved
loop-digit-preserved c = record { goes_on = grind (arith, common_steps); has_digits = grind (arith, common_steps) }

pub returns-clause-number : goal.returns-clause-number
returns-clause-number c = grind (arith, common_steps)
