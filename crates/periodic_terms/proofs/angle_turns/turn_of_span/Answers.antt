use Rattle.std.proofs.Common.{refl, rules, arith, SFits}
use Rattle.std.specs.Int.{w128}
use Rattle.std.proofs.lemmas.Int.{ints, to_z-of_z}
use Rattle.periodic_terms.proofs.Narrowing.{half_close}
use Rattle.periodic_terms.proofs.NearTurns.{turn_inside}
use Rattle.periodic_terms.proofs.angle_turns.turn_of_span.Goals as goal

pub returns : goal.returns
returns c =
    let fm : SFits w128 c.in_ok-middle.middle.count = search rules in
    let fh : SFits w128 c.args.span.hi = omega (arith, ints, c.args.span.ordered, c.in_ok-middle.ensures) in
    let t = c.fine_turn.ensures.turn in
    let v = simp to_z-of_z at c.in_ok-half.ensures.value in
    record {
      near = λ i h. turn_inside c.fine_turn.result.0 c.in_ok-half.half.count c.in_ok-middle.middle.count c.args.span.lo
          c.args.span.hi i
          t c.in_ok-middle.ensures.below v h;
      narrow = λ n b l u d. record {
        known = refl;
        narrow = half_close c.in_ok-half.half.count n c.in_ok-middle.middle.count c.args.span.lo c.args.span.hi
            c.in_ok-middle.ensures.close v d;
      };
    }
