use Rattle.std.proofs.Common.{arith, rules, SFits}
use Rattle.std.specs.Int.{w128}
use Rattle.std.proofs.lemmas.Int.{ints, to_z-of_z}
use Rattle.interval_products.proofs.Fitting.{opposites_divide}
use Rattle.interval_products.proofs.dividing.opposite_endpoints.Goals as goal

pub returns-in_err-lo-clause-none : goal.returns-in_err-lo-clause-none
returns-in_err-lo-clause-none g c = λ n f h.
    let fw : SFits w128 c.wide.result = search rules in
    let e = simp c.wide.ensures.value at (simp to_z-of_z at c.in_err-lo.ensures) in
    e (omega (arith, ints, h))

pub returns-in_err-hi-clause-none : goal.returns-in_err-hi-clause-none
returns-in_err-hi-clause-none g c = λ n f h.
    let fw : SFits w128 c.wide-2.result = search rules in
    let e = simp c.wide-2.ensures.value at (simp to_z-of_z at c.in_err-hi.ensures) in
    e (omega (arith, ints, f))

pub returns-clause-lower : goal.returns-clause-lower
returns-clause-lower g c =
    let fw : SFits w128 c.wide.result = search rules in
    let fl : SFits w128 c.in_ok-lo.lo = search rules in
    let l = simp to_z-of_z at c.in_ok-lo.ensures in
    simp to_z-of_z (omega (arith, ints, l.1, c.wide.ensures.value))

pub returns-clause-upper : goal.returns-clause-upper
returns-clause-upper g c =
    let fw : SFits w128 c.wide-2.result = search rules in
    let fh : SFits w128 c.in_ok-hi.hi = search rules in
    let h = simp to_z-of_z at c.in_ok-hi.ensures in
    simp to_z-of_z (omega (arith, ints, h.1, c.wide-2.ensures.value))

pub returns-clause-dividends : goal.returns-clause-dividends
returns-clause-dividends g c =
    let fv : SFits w128 c.wide.result = search rules in
    let fw : SFits w128 c.wide-2.result = search rules in
    let fl : SFits w128 c.in_ok-lo.lo = search rules in
    let fh : SFits w128 c.in_ok-hi.hi = search rules in
    let l = simp to_z-of_z at c.in_ok-lo.ensures in
    let h = simp to_z-of_z at c.in_ok-hi.ensures in
    simp to_z-of_z (opposites_divide g.I.MachineWord.scale c.wide-2.result c.wide.result _ _ c.wide-2.ensures.fits
    c.wide.ensures.fits
    (rw (c.wide.ensures.value, c.wide-2.ensures.value) c.args.x.ordered) (omega (arith, ints, l.1))
    (omega (arith, ints, h.1)))
