use Rattle.std.proofs.Common.{◌≡◌, arith, rules, SFits, pos, ◌^◌, ◌*ℤ◌}
use Rattle.std.specs.Int.{w128}
use Rattle.std.proofs.lemmas.Int.{ints, to_z-of_z}
use Rattle.interval_endpoints.proofs.Scaling.{bounded_z}
use Rattle.encl_core.proofs.turning.product_of.Goals as goal

pub returns-clause-room : goal.returns-clause-room
returns-clause-room c =
    let fa = c.ranges.a in
    let fb = c.ranges.b in
    let ff : SFits w128 c.from.result = search rules in
    let fg : SFits w128 c.from-2.result = search rules in
    let e : c.from.result ≡ c.args.a = simp to_z-of_z at c.from.ensures in
    let e' : c.from-2.result ≡ c.args.b = simp to_z-of_z at c.from-2.ensures in
    let b = bounded_z c.args.a c.args.b (pos (2 ^ 63)) (pos (2 ^ 63)) (omega (arith, ints)) (omega (arith, ints))
    (omega (arith, ints)) (omega (arith, ints)) in
    let p : SFits w128 (c.args.a *ℤ c.args.b) = omega (arith, ints, b.0, b.1) in
    let q : SFits w128 (c.from.result *ℤ c.from-2.result) = rw (e, e') p in
    simp to_z-of_z (rw (e, e') (omega (arith, ints, b.1)))
