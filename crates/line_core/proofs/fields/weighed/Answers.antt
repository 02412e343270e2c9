use Rattle.std.proofs.Common.{ℤ, refl, SFits, w32, rules, arith, pos, ◌*ℤ◌, slice_index_or}
use Rattle.std.specs.Int.{w128}
use Rattle.std.proofs.lemmas.Int.{to_z-of_z, ints}
use Rattle.line_core.proofs.YearNumbers.{product_size}
use Rattle.line_core.proofs.fields.weighed.Goals as goal

pub overflow_mul-result : goal.overflow_mul-result
overflow_mul-result c =
    let f : SFits w128 c.from.result = search rules in
    let g : SFits w128 c.from-2.result = search rules in
    let small = product_size c.from.result c.from-2.result (omega (arith, ints)) (omega (arith, ints)) in
    simp to_z-of_z (omega (arith, ints, small))

pub returns : goal.returns
returns c =
    let weight : ℤ = slice_index_or c.args.row.now.weights c.args.index (pos 0) in
    let f : SFits w128 c.from.result = search rules in
    let g : SFits w128 c.from-2.result = search rules in
    let fits : SFits w32 weight = search rules in
    let small = product_size c.from.result c.from-2.result (omega (arith, ints)) (omega (arith, ints)) in
    let h : SFits w128 (c.from.result *ℤ c.from-2.result) = omega (arith, ints, small) in
    let same = simp to_z-of_z at c.from.ensures in
    record {
      weighed = simp to_z-of_z (rw (same, c.from-2.ensures, c.field.ensures.field) refl);
      small = simp to_z-of_z small;
    }
