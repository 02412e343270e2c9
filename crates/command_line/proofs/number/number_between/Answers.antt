use Rattle.std.proofs.Common.{◌≡◌, true, arith}
use Rattle.std.specs.declared.num.ParseIntError.{ParseIntError}
use Rattle.command_line.specs.Words as spec
use Rattle.command_line.proofs.NumberLemmas.{reads_above, reads_below, reads_inside, reads_none}
use Rattle.command_line.proofs.number.number_between.Goals as goal

pub returns-in-Ok-clause-number : goal.returns-in-Ok-clause-number
returns-in-Ok-clause-number c =
    let number : spec.is_number c.args.word.now ≡ true = cc in
    reads_inside ParseIntError c.args.word.now c.args.low c.args.high number c.in-Ok.number c.in-Ok.ensures.value.0
    (omega arith) (omega arith)

pub returns-in_default-clause-number : goal.returns-in_default-clause-number
returns-in_default-clause-number c =
    let number : spec.is_number c.args.word.now ≡ true = cc in
    reads_above ParseIntError c.args.word.now c.args.low c.args.high number c.in-Ok.number c.in-Ok.ensures.value.0
    (omega arith)

pub returns-in_default-2-clause-number : goal.returns-in_default-2-clause-number
returns-in_default-2-clause-number c =
    let number : spec.is_number c.args.word.now ≡ true = cc in
    reads_below ParseIntError c.args.word.now c.args.low c.args.high number c.in-Ok.number c.in-Ok.ensures.value.0
    (omega arith)

pub returns-in_default-3-clause-number : goal.returns-in_default-3-clause-number
returns-in_default-3-clause-number c =
    let number : spec.is_number c.args.word.now ≡ true = cc in
    reads_none ParseIntError c.args.word.now c.args.low c.args.high number c.in_default.field-0
    c.in_default.ensures.value.0 c.ranges.high.fits
