use Rattle.std.proofs.Common.{rules, arith, SFits, pos}
use Rattle.std.specs.Int.{w128}
use Rattle.std.proofs.lemmas.Int.{ints, by_lt_z, to_z-of_z}
use Rattle.int_division.proofs.Stepping.{next_ceiling, next_fits, least_ceiling}
use Rattle.int_division.proofs.floors.ceil_div.Goals as goal

pub returns-in-Some : goal.returns-in-Some
returns-in-Some c =
    let fn = c.ranges.n in
    let fd = c.ranges.d in
    let fb : SFits w128 c.in-Some.before = search rules in
    let b = simp to_z-of_z at c.in-Some.ensures in
    let fq : SFits w128 c.floor_div.result = search rules in
    let f = simp b.1 at (simp to_z-of_z at c.floor_div.ensures) in
    let fm = next_fits c.floor_div.result c.args.n c.args.d fn fq c.requires f in
    simp to_z-of_z (next_ceiling c.args.n c.args.d c.floor_div.result f)

pub returns-in-None : goal.returns-in-None
returns-in-None c =
    let fn = c.ranges.n in
    let fd = c.ranges.d in
    let n = simp to_z-of_z at c.in-None.ensures in
    let fq : SFits w128 c.whole_quotient.result = search rules in
    let v = simp to_z-of_z at c.whole_quotient.ensures.value in
    simp to_z-of_z
    (rw v (least_ceiling c.args.n c.args.d c.requires
    (by_lt_z (pos 0) c.args.n (λ l. absurd (n (omega (arith, ints, l)))) (λ l. l))))
