use Rattle.std.proofs.Common.{rules, ◌∙◌, SFits, w64}
use Rattle.std.proofs.lemmas.Int.{to_z-of_z}
use Rattle.int_division.proofs.Remainders.{rest_lies}
use Rattle.int_division.proofs.counts.modulo.Goals as goal

pub left_below-requires : goal.left_below-requires
left_below-requires c =
    let fn = c.ranges.number in
    let fq : SFits w64 c.quotient.result = search rules in
    let e = simp to_z-of_z at c.quotient.ensures.quotient in
    let near = rest_lies c.args.number c.quotient.result c.args.divisor c.requires.positive e in
    simp to_z-of_z (record { from = near.from; to = near.to; number = c.requires.number })

pub returns : goal.returns
returns c =
    let fn = c.ranges.number in
    let fq : SFits w64 c.quotient.result = search rules in
    let e = simp to_z-of_z at c.quotient.ensures.quotient in
    let near = rest_lies c.args.number c.quotient.result c.args.divisor c.requires.positive e in
    let fr : SFits w64 c.left_below.result = search rules in
    let left = simp to_z-of_z at c.left_below.ensures.left in
    simp to_z-of_z (record { number = left ∙ near.same; from = rw left near.from; to = rw left near.to })
