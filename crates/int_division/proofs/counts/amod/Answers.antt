use Rattle.std.proofs.Common.{rules, ◌∙◌, SFits, w64}
use Rattle.std.proofs.lemmas.Int.{to_z-of_z}
use Rattle.int_division.proofs.Remainders.{left_lies}
use Rattle.int_division.proofs.counts.amod.Goals as goal

pub left_of-requires : goal.left_of-requires
left_of-requires c =
    let fn = c.ranges.number in
    let fq : SFits w64 c.quotient_before.result = search rules in
    let e = simp to_z-of_z at c.quotient_before.ensures.quotient in
    let near = left_lies c.args.number c.quotient_before.result c.args.divisor c.requires.positive e in
    simp to_z-of_z (record { from = near.from; to = near.to; number = c.requires.number })

pub returns : goal.returns
returns c =
    let fn = c.ranges.number in
    let fq : SFits w64 c.quotient_before.result = search rules in
    let e = simp to_z-of_z at c.quotient_before.ensures.quotient in
    let near = left_lies c.args.number c.quotient_before.result c.args.divisor c.requires.positive e in
    let fr : SFits w64 c.left_of.result = search rules in
    let left = simp to_z-of_z at c.left_of.ensures.left in
    simp to_z-of_z (record { number = left ∙ near.same; from = rw left near.from; to = rw left near.to })
