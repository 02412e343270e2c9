use Rattle.std.proofs.Common.{rules, arith, SFits, w64, pos, ◌*ℤ◌}
use Rattle.std.specs.Int.{w128}
use Rattle.std.proofs.lemmas.Int.{ints, to_z-of_z}
use Rattle.interval_endpoints.proofs.Unpromised.{moved_outwards}
use Rattle.interval_endpoints.proofs.OnEndpoints.{shows}
use Rattle.enclosure_tests.proofs.tests.rough.roughened.Goals as goal

pub returns : goal.returns
returns c =
    let fa : SFits w64 c.in_ok-e.e.lo = search rules in
    let fb : SFits w64 c.in_ok-e.e.hi = search rules in
    let fl : SFits w128 c.floor_div-lo.result = search rules in
    let fh : SFits w128 c.ceil_div-hi.result = search rules in
    let fr : SFits w128 c.from.result = search rules in
    let fs : SFits w128 c.from-2.result = search rules in
    let fp : SFits w128 (c.floor_div-lo.result *ℤ pos 268435456) = search rules in
    let fq : SFits w128 (c.ceil_div-hi.result *ℤ pos 268435456) = search rules in
    let e = simp to_z-of_z at c.from.ensures in
    let f = simp to_z-of_z at c.from-2.ensures in
    let l = simp to_z-of_z at c.floor_div-lo.ensures in
    let u = simp to_z-of_z at c.ceil_div-hi.ensures in
    let k = shows _ _ _ (simp to_z-of_z at c.endpoints_of.ensures.endpoints) in
    rw c.in_ok-e.was (moved_outwards c.in_ok-e.e.lo c.in_ok-e.e.hi _ _ _ (omega (arith, ints, e, l.not_above))
    (omega (arith, ints, f, u.not_below)) k)
