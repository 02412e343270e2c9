use Rattle.std.proofs.Common.{arith, SFits, w64}
use Rattle.std.specs.Int.{w128}
use Rattle.std.proofs.lemmas.Int.{to_z-of_z, ints}
use Rattle.calendar_math.proofs.SpanLemmas.{quotient_lies}
use Rattle.calendar_math.proofs.spans.quotient_within.Goals as goal

pub overflow_cast-result : goal.overflow_cast-result
overflow_cast-result c =
    let fn = c.ranges.number in
    let quotient = simp to_z-of_z at c.wide_quotient.ensures.quotient in
    let near = quotient_lies c.args.number c.args.divisor 99999999999 100000000000 c.requires.positive c.requires.low
    c.requires.high in
    let from = rw (← quotient) at near.from in
    let to = rw (← quotient) at near.to in
    let fq : SFits w128 c.wide_quotient.result = omega (arith, ints, from, to) in
    simp to_z-of_z (omega (arith, ints, from, to))

pub returns : goal.returns
returns c =
    let fn = c.ranges.number in
    let quotient = simp to_z-of_z at c.wide_quotient.ensures.quotient in
    let near = quotient_lies c.args.number c.args.divisor 99999999999 100000000000 c.requires.positive c.requires.low
    c.requires.high in
    let from = rw (← quotient) at near.from in
    let to = rw (← quotient) at near.to in
    let fq : SFits w128 c.wide_quotient.result = omega (arith, ints, from, to) in
    let fr : SFits w64 c.wide_quotient.result = omega (arith, ints, from, to) in
    record { quotient = simp to_z-of_z quotient }
