use Rattle.std.proofs.Common.{◌≡◌, arith, rules, SFits, w64, ◌*ℤ◌}
use Rattle.std.specs.Int.{w128}
use Rattle.std.proofs.lemmas.Int.{ints, to_z-of_z}
use Rattle.periodic_terms.proofs.Counts.{size_bounds, fits_128}
use Rattle.periodic_terms.proofs.rows_by_time.sized_sine.Goals as goal

pub overflow_mul-result : goal.overflow_mul-result
overflow_mul-result c =
    let fa = c.ranges.size in
    let fb : SFits w64 c.args.sine.count = search rules in
    let ff : SFits w128 c.from.result = search rules in
    let fg : SFits w128 c.from-2.result = search rules in
    let e : c.from.result ≡ c.args.size = simp to_z-of_z at c.from.ensures in
    let e' : c.from-2.result ≡ c.args.sine.count = simp to_z-of_z at c.from-2.ensures in
    let b = size_bounds c.args.size c.args.sine.count (omega (arith, ints, fa)) (omega (arith, ints, fa))
    c.args.sine.from
    c.args.sine.to in
    let p : SFits w128 (c.from.result *ℤ c.from-2.result) =
    rw (e, e') (fits_128 _ (omega (arith, ints, b.0)) (omega (arith, ints, b.1))) in
    simp to_z-of_z p

pub returns-clause-low : goal.returns-clause-low
returns-clause-low c =
    let fa = c.ranges.size in
    let fb : SFits w64 c.args.sine.count = search rules in
    let ff : SFits w128 c.from.result = search rules in
    let fg : SFits w128 c.from-2.result = search rules in
    let e : c.from.result ≡ c.args.size = simp to_z-of_z at c.from.ensures in
    let e' : c.from-2.result ≡ c.args.sine.count = simp to_z-of_z at c.from-2.ensures in
    let b = size_bounds c.args.size c.args.sine.count (omega (arith, ints, fa)) (omega (arith, ints, fa))
    c.args.sine.from
    c.args.sine.to in
    let q : SFits w128 (c.from.result *ℤ c.from-2.result) =
    rw (e, e') (fits_128 _ (omega (arith, ints, b.0)) (omega (arith, ints, b.1))) in
    simp to_z-of_z (rw (e, e') b.0)

pub returns-clause-high : goal.returns-clause-high
returns-clause-high c =
    let fa = c.ranges.size in
    let fb : SFits w64 c.args.sine.count = search rules in
    let ff : SFits w128 c.from.result = search rules in
    let fg : SFits w128 c.from-2.result = search rules in
    let e : c.from.result ≡ c.args.size = simp to_z-of_z at c.from.ensures in
    let e' : c.from-2.result ≡ c.args.sine.count = simp to_z-of_z at c.from-2.ensures in
    let b = size_bounds c.args.size c.args.sine.count (omega (arith, ints, fa)) (omega (arith, ints, fa))
    c.args.sine.from
    c.args.sine.to in
    let q : SFits w128 (c.from.result *ℤ c.from-2.result) =
    rw (e, e') (fits_128 _ (omega (arith, ints, b.0)) (omega (arith, ints, b.1))) in
    simp to_z-of_z (rw (e, e') b.1)
