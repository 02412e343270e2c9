use Rattle.std.proofs.Common.{◌≡◌, rules, arith, pos, SFits, Fits, w64, ◌*ℤ◌}
use Rattle.std.specs.Int.{w128}
use Rattle.std.proofs.lemmas.Int.{ints, to_z-of_z}
use Rattle.periodic_terms.proofs.Products.{times_bounds, fits_128}
use Rattle.periodic_terms.proofs.term_rows.times.Goals as goal

pub overflow_mul-result : goal.overflow_mul-result
overflow_mul-result c =
    let fm = c.ranges.multiple in
    let ft : Fits w64 c.args.turn.0 = search rules in
    let ff : SFits w128 c.from.result = search rules in
    let fg : SFits w128 c.from-2.result = search rules in
    let e : c.from.result ≡ c.args.multiple = simp to_z-of_z at c.from.ensures in
    let e' : c.from-2.result ≡ pos c.args.turn.0 = c.from-2.ensures in
    let b = times_bounds c.args.multiple c.args.turn.0 c.requires.few (omega (arith, ft)) in
    let p : SFits w128 (c.from.result *ℤ c.from-2.result) =
    rw (e, e') (fits_128 _ (omega (arith, ints, b.0)) (omega (arith, ints, b.1))) in
    simp to_z-of_z p

pub returns-clause-from : goal.returns-clause-from
returns-clause-from c =
    let fm = c.ranges.multiple in
    let ft : Fits w64 c.args.turn.0 = search rules in
    let ff : SFits w128 c.from.result = search rules in
    let fg : SFits w128 c.from-2.result = search rules in
    let e : c.from.result ≡ c.args.multiple = simp to_z-of_z at c.from.ensures in
    let e' : c.from-2.result ≡ pos c.args.turn.0 = c.from-2.ensures in
    let b = times_bounds c.args.multiple c.args.turn.0 c.requires.few (omega (arith, ft)) in
    let q : SFits w128 (c.from.result *ℤ c.from-2.result) =
    rw (e, e') (fits_128 _ (omega (arith, ints, b.0)) (omega (arith, ints, b.1))) in
    simp to_z-of_z (rw (e, e') b.0)

pub returns-clause-to : goal.returns-clause-to
returns-clause-to c =
    let fm = c.ranges.multiple in
    let ft : Fits w64 c.args.turn.0 = search rules in
    let ff : SFits w128 c.from.result = search rules in
    let fg : SFits w128 c.from-2.result = search rules in
    let e : c.from.result ≡ c.args.multiple = simp to_z-of_z at c.from.ensures in
    let e' : c.from-2.result ≡ pos c.args.turn.0 = c.from-2.ensures in
    let b = times_bounds c.args.multiple c.args.turn.0 c.requires.few (omega (arith, ft)) in
    let q : SFits w128 (c.from.result *ℤ c.from-2.result) =
    rw (e, e') (fits_128 _ (omega (arith, ints, b.0)) (omega (arith, ints, b.1))) in
    simp to_z-of_z (rw (e, e') b.1)
