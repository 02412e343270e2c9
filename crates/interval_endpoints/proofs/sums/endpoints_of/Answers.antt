use Rattle.std.proofs.Common.{refl, arith, SFits}
use Rattle.std.specs.Int.{w128}
use Rattle.std.proofs.lemmas.Int.{ints, to_z-of_z}
use Rattle.interval_endpoints.proofs.sums.endpoints_of.Goals as goal

pub returns-in_err-lo : goal.returns-in_err-lo
returns-in_err-lo g c =
    let f : SFits w128 c.args.lo = c.ranges.lo in
    let n = simp to_z-of_z at c.in_err-lo.ensures.none in
    record { endpoints = rw c.from_residual.ensures (λ p q. n refl p) }

pub returns-in_err-hi : goal.returns-in_err-hi
returns-in_err-hi g c =
    let f : SFits w128 c.args.hi = c.ranges.hi in
    let n = simp to_z-of_z at c.in_err-hi.ensures.none in
    record { endpoints = rw c.from_residual-in_err-hi.ensures (λ p q. n refl q) }

pub invariant_of-result : goal.invariant_of-result
invariant_of-result g c =
    let f : SFits w128 c.args.lo = c.ranges.lo in
    let k : SFits w128 c.args.hi = c.ranges.hi in
    let v = simp to_z-of_z at c.in_ok-lo.ensures.value in
    let w = simp to_z-of_z at c.in_ok-hi.ensures.value in
    record { ordered = omega (arith, ints, v, w, c.requires) }

pub returns : goal.returns
returns g c =
    let f : SFits w128 c.args.lo = c.ranges.lo in
    let k : SFits w128 c.args.hi = c.ranges.hi in
    let v = simp to_z-of_z at c.in_ok-lo.ensures.value in
    let w = simp to_z-of_z at c.in_ok-hi.ensures.value in
    record { endpoints = (v, w) }
