use Rattle.std.proofs.Common.{arith}
use Rattle.std.proofs.lemmas.Int.{ints, to_z-of_z}
use Rattle.periodic_terms.proofs.SpansByTime.{middle_fits, half_by, near_by}
use Rattle.periodic_terms.proofs.spans_by_time.width_around.Goals as goal

pub greater_width-requires-clause-some : goal.greater_width-requires-clause-some
greater_width-requires-clause-some c =
    let d = c.args.days in
    let f = middle_fits c.args.middle.count d.lo d.hi c.requires.low c.requires.high c.args.middle.least
    c.args.middle.greatest
    d.ordered in
    let fm = f.middle in
    let fl = f.first in
    let fh = f.last in
    let fp = f.parts in
    let fb = f.before in
    let fa = f.after in
    simp to_z-of_z (omega (arith, ints, d.ordered))

pub greater_width-requires-clause-few : goal.greater_width-requires-clause-few
greater_width-requires-clause-few c =
    let d = c.args.days in
    let f = middle_fits c.args.middle.count d.lo d.hi c.requires.low c.requires.high c.args.middle.least
    c.args.middle.greatest
    d.ordered in
    let fm = f.middle in
    let fl = f.first in
    let fh = f.last in
    let fp = f.parts in
    let fb = f.before in
    let fa = f.after in
    simp to_z-of_z (omega (arith, ints, c.requires.low, c.requires.high, d.ordered))

pub returns : goal.returns
returns c =
    let d = c.args.days in
    let mid = c.args.middle.count in
    let f = middle_fits mid d.lo d.hi c.requires.low c.requires.high c.args.middle.least c.args.middle.greatest
    d.ordered in
    let fm = f.middle in
    let fl = f.first in
    let fh = f.last in
    let fp = f.parts in
    let fb = f.before in
    let fa = f.after in
    let b = simp to_z-of_z at c.greater_width.ensures.before in
    let a = simp to_z-of_z at c.greater_width.ensures.after in
    let l = simp to_z-of_z at c.greater_width.ensures.least in
    record {
      near = near_by mid d.lo d.hi c.greater_width.result d.ordered c.args.middle.least c.args.middle.greatest b a;
      half = half_by mid d.lo d.hi c.greater_width.result c.requires.below c.requires.close l;
      found = λ k. c.greater_width.ensures.found (simp to_z-of_z (omega (arith, ints, k, c.requires.close)))
          (simp to_z-of_z (omega (arith, ints, k, c.requires.below)));
    }
