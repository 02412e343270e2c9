use Rattle.std.proofs.Common.{arith, refl, SFits, pos, ◌*ℤ◌}
use Rattle.std.specs.Int.{w128}
use Rattle.std.proofs.lemmas.Int.{to_z-of_z, ints}
use Rattle.calendar_math.proofs.SpanLemmas.{product_lies}
use Rattle.calendar_math.proofs.spans.product.Goals as goal

pub returns : goal.returns
returns c =
    let fc = c.ranges.count in
    let near = product_lies c.args.count c.args.parts c.requires.count.0 c.requires.count.1 in
    let fw : SFits w128 c.args.count = omega (arith, ints, c.requires.count.0, c.requires.count.1) in
    let fp : SFits w128 (pos c.args.parts) = omega (arith, ints, c.requires.few_parts) in
    let few = c.requires.few_parts in
    let fr : SFits w128 (c.args.count *ℤ pos c.args.parts) = omega (arith, ints, near.from, near.to, few) in
    let count = simp to_z-of_z at c.from.ensures in
    rw (count, c.from-2.ensures) (simp to_z-of_z (record { product = refl; low = near.from; high = near.to }))
