use Rattle.std.proofs.Common.{◌≡◌, refl, rules, arith, SFits, w64, pos, ◌*ℤ◌}
use Rattle.std.specs.Int.{w128}
use Rattle.std.proofs.lemmas.Int.{ints, to_z-of_z}
use Rattle.periodic_terms.proofs.Products.{factored_bounds, fits_128}
use Rattle.periodic_terms.proofs.term_rows.factored.Goals as goal

pub overflow_mul-result : goal.overflow_mul-result
overflow_mul-result c =
    let fs : SFits w64 c.args.sine.count = search rules in
    let ff : SFits w128 c.from.result = search rules in
    let fg : SFits w128 c.from-2.result = search rules in
    let e : c.from.result ≡ pos c.args.factor.0 = c.from.ensures in
    let e' : c.from-2.result ≡ c.args.sine.count = simp to_z-of_z at c.from-2.ensures in
    let b = factored_bounds c.args.factor.0 c.args.sine.count c.requires.factor c.args.sine.from
    c.args.sine.to in
    let p : SFits w128 (c.from.result *ℤ c.from-2.result) =
    rw (e, e') (fits_128 _ (omega (arith, ints, b.0)) (omega (arith, ints, b.1))) in
    simp to_z-of_z p

pub returns : goal.returns
returns c =
    let fs : SFits w64 c.args.sine.count = search rules in
    let ff : SFits w128 c.from.result = search rules in
    let fg : SFits w128 c.from-2.result = search rules in
    let e : c.from.result ≡ pos c.args.factor.0 = c.from.ensures in
    let e' : c.from-2.result ≡ c.args.sine.count = simp to_z-of_z at c.from-2.ensures in
    let b = factored_bounds c.args.factor.0 c.args.sine.count c.requires.factor c.args.sine.from
    c.args.sine.to in
    let p : SFits w128 (c.from.result *ℤ c.from-2.result) =
    rw (e, e') (fits_128 _ (omega (arith, ints, b.0)) (omega (arith, ints, b.1))) in
    record {
      value = simp to_z-of_z (rw (e, e') refl);
      low = simp to_z-of_z (rw (e, e') b.0);
      high =
          simp to_z-of_z (rw (e, e') b.1);
    }
