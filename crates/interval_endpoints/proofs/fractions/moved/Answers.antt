use Rattle.std.proofs.Common.{refl, arith, SFits}
use Rattle.std.specs.Int.{w128}
use Rattle.std.proofs.lemmas.Int.{ints, to_z-of_z}
use Rattle.interval_endpoints.proofs.fractions.moved.Goals as goal

pub returns-in_err-lo : goal.returns-in_err-lo
returns-in_err-lo g c =
    let f : SFits w128 c.args.margin = c.ranges.margin in
    let n = simp to_z-of_z at c.in_err-lo.ensures.none in
    record { endpoints = rw c.from_residual.ensures (λ p q. n refl p) }

pub returns-in_err-hi : goal.returns-in_err-hi
returns-in_err-hi g c =
    let f : SFits w128 c.args.margin = c.ranges.margin in
    let n = simp to_z-of_z at c.in_err-hi.ensures.none in
    record { endpoints = rw c.from_residual-in_err-hi.ensures (λ p q. n refl q) }

pub invariant_of-result : goal.invariant_of-result
invariant_of-result g c =
    let f : SFits w128 c.args.margin = c.ranges.margin in
    let v = simp to_z-of_z at c.in_ok-lo.ensures.difference in
    let w = simp to_z-of_z at c.in_ok-hi.ensures.sum in
    record { ordered = omega (arith, ints, v, w, c.args.x.ordered, c.requires) }

pub returns : goal.returns
returns g c =
    let f : SFits w128 c.args.margin = c.ranges.margin in
    let v = simp to_z-of_z at c.in_ok-lo.ensures.difference in
    let w = simp to_z-of_z at c.in_ok-hi.ensures.sum in
    record { endpoints = (v, w) }
