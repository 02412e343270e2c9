use Rattle.std.proofs.Common.{◌≡◌, refl, rules, arith, SFits, w64, ◌*ℤ◌}
use Rattle.std.specs.Int.{w128}
use Rattle.std.proofs.lemmas.Int.{ints, to_z-of_z}
use Rattle.periodic_terms.proofs.Products.{sized_bounds, fits_128}
use Rattle.periodic_terms.proofs.term_rows.sized.Goals as goal

pub overflow_mul-result : goal.overflow_mul-result
overflow_mul-result c =
    let fm = c.ranges.size in
    let fs : SFits w64 c.args.scaled.count = search rules in
    let ff : SFits w128 c.from.result = search rules in
    let fg : SFits w128 c.from-2.result = search rules in
    let e : c.from.result ≡ c.args.size = simp to_z-of_z at c.from.ensures in
    let e' : c.from-2.result ≡ c.args.scaled.count = simp to_z-of_z at c.from-2.ensures in
    let b = sized_bounds c.args.size c.args.scaled.count c.requires.size c.args.scaled.from
    c.args.scaled.to in
    let p : SFits w128 (c.from.result *ℤ c.from-2.result) =
    rw (e, e') (fits_128 _ (omega (arith, ints, b.0)) (omega (arith, ints, b.1))) in
    simp to_z-of_z p

pub returns : goal.returns
returns c =
    let fm = c.ranges.size in
    let fs : SFits w64 c.args.scaled.count = search rules in
    let ff : SFits w128 c.from.result = search rules in
    let fg : SFits w128 c.from-2.result = search rules in
    let e : c.from.result ≡ c.args.size = simp to_z-of_z at c.from.ensures in
    let e' : c.from-2.result ≡ c.args.scaled.count = simp to_z-of_z at c.from-2.ensures in
    let b = sized_bounds c.args.size c.args.scaled.count c.requires.size c.args.scaled.from
    c.args.scaled.to in
    let p : SFits w128 (c.from.result *ℤ c.from-2.result) =
    rw (e, e') (fits_128 _ (omega (arith, ints, b.0)) (omega (arith, ints, b.1))) in
    record {
      value = simp to_z-of_z (rw (e, e') refl);
      low = simp to_z-of_z (rw (e, e') b.0);
      high =
          simp to_z-of_z (rw (e, e') b.1);
    }
