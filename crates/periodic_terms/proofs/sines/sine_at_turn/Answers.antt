use Rattle.std.proofs.Common.{◌≡◌, ◌%◌, ◌-◌, rules, arith, Fits, SFits, w64, pos, ◌-ℤ◌}
use Rattle.std.proofs.lemmas.Int.{ints, to_z-of_z}
use Rattle.periodic_terms.specs.Turning.{octant_of, degrees_of}
use Rattle.periodic_terms.proofs.Edges.{later_half}
use Rattle.periodic_terms.proofs.sines.sine_at_turn.Goals as goal

pub returns-then-octant-ge4 : goal.returns-then-octant-ge4
returns-then-octant-ge4 c =
    let fr : SFits w64 c.sine_into_half-sine.result.count = search rules in
    let fn : SFits w64 (pos 0 -ℤ c.sine_into_half-sine.result.count) =
    omega (arith, ints, c.sine_into_half-sine.result.from, c.sine_into_half-sine.result.to) in
    let ft : Fits w64 c.args.turn.0 = search rules in
    let e : octant_of c.args.turn.0 % 4 ≡ octant_of c.args.turn.0 - 4 = omega (arith, c.if-octant-ge4.true, ft) in
    let n = rw (c.degrees_into.ensures.value, e) at c.sine_into_half-sine.ensures.near in
    record {
      near = simp to_z-of_z (later_half (octant_of c.args.turn.0) (degrees_of c.args.turn.0)
          c.sine_into_half-sine.result.count
          (omega (arith, c.if-octant-ge4.true)) n);
    }

pub returns : goal.returns
returns c =
    let e : octant_of c.args.turn.0 % 4 ≡ octant_of c.args.turn.0 = omega (arith, c.if-octant-ge4.false) in
    record { near = rw (c.degrees_into.ensures.value, e) at c.sine_into_half-sine.ensures.near }
