use Rattle.std.proofs.Common.{rules, SFits}
use Rattle.std.specs.Int.{w128}
use Rattle.std.proofs.lemmas.Int.{to_z-of_z}
use Rattle.int_division.proofs.Stepping.{euclid_floor}
use Rattle.int_division.proofs.floors.floor_div.Goals as goal

pub returns-in-None : goal.returns-in-None
returns-in-None c =
    let fn = c.ranges.n in
    let fd = c.ranges.d in
    let fq : SFits w128 c.div_euclid.result = search rules in
    simp to_z-of_z (euclid_floor c.args.n c.args.d c.div_euclid.result c.requires
    (simp to_z-of_z at c.div_euclid.ensures))
