use Rattle.std.proofs.Common.{◌≡◌, rules, arith, SFits, Fits, w64, pos, ◌+ℤ◌, ◌-ℤ◌, ◌*ℤ◌, ◌^◌}
use Rattle.std.specs.Int.{w128}
use Rattle.std.proofs.lemmas.Int.{ints, to_z-of_z}
use Rattle.periodic_terms.specs.Turning.{whole_turns}
use Rattle.periodic_terms.proofs.NearTurns.{added, turn_together}
use Rattle.periodic_terms.proofs.angle_turns.fine_turn.Goals as goal

pub returns : goal.returns
returns c =
    let fm : SFits w128 c.args.middle.count = search rules in
    let fw : SFits w128 c.shr_floor-wide.result = search rules in
    let i = simp to_z-of_z at c.shr_floor-wide.ensures.floor in
    let l = i.not_above in
    let u = i.close in
    let f64 : SFits w64 c.shr_floor-wide.result = omega (arith, ints, c.args.middle.least, c.args.middle.greatest, l, u)
    in
    let fp : SFits w128 (c.shr_floor-wide.result *ℤ pos (2 ^ 19)) =
    omega (arith, ints, c.args.middle.least, c.args.middle.greatest, l, u) in
    let fd : SFits w128 (c.args.middle.count -ℤ c.shr_floor-wide.result *ℤ pos (2 ^ 19)) =
    omega (arith, ints, c.args.middle.least, c.args.middle.greatest, l, u) in
    let fa : SFits w128 c.from.result = search rules in
    let fb : SFits w128 c.from-2.result = search rules in
    let a : c.from.result ≡ pos c.coarse_turn-coarse.result.0 = c.from.ensures in
    let b : c.from-2.result ≡ pos c.rest_of_turn.result.0 = c.from-2.ensures in
    let fc : Fits w64 c.coarse_turn-coarse.result.0 = search rules in
    let fr : Fits w64 c.rest_of_turn.result.0 = search rules in
    let fs : SFits w128 (c.from.result +ℤ c.from-2.result) =
    omega (arith, ints, a, b, fc, fr) in
    let t = simp to_z-of_z at c.coarse_turn-coarse.ensures.turn in
    let p = simp to_z-of_z at c.rest_of_turn.ensures.below in
    let q = simp to_z-of_z at c.rest_of_turn.ensures.close in
    let h = simp to_z-of_z at c.reduced_turn.ensures.value in
    record {
      turn = turn_together c.coarse_turn-coarse.result.0 c.rest_of_turn.result.0 c.reduced_turn.result.0
          c.args.middle.count
          c.shr_floor-wide.result
          (c.args.middle.count -ℤ c.shr_floor-wide.result *ℤ pos (2 ^ 19)) t (omega (arith, ints))
          (omega (arith, ints, p, l, u)) (omega (arith, ints, q, l, u))
          (whole_turns (c.from.result +ℤ c.from-2.result)) (added c.reduced_turn.result.0 c.from.result c.from-2.result
          c.coarse_turn-coarse.result.0 c.rest_of_turn.result.0 (whole_turns (c.from.result +ℤ c.from-2.result)) a b h);
    }
