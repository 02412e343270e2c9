use Rattle.std.proofs.Common.{◌≡◌, arith, SFits, pos, ◌^◌, ◌-ℤ◌, ◌*ℤ◌}
use Rattle.std.specs.Int.{w128}
use Rattle.std.proofs.lemmas.Int.{ints, to_z-of_z}
use Rattle.periodic_terms.proofs.AnySums.{any_holds}
use Rattle.periodic_terms.proofs.spans_by_time.any_sum.Goals as goal

pub returns : goal.returns
returns c =
    let e : c.from-most.result ≡ pos c.args.sizes = c.from-most.ensures in
    let f0 : SFits w128 c.from-most.result = omega (arith, ints, e, c.requires.sizes) in
    let f1 : SFits w128 (c.from-most.result *ℤ pos (2 ^ 56)) = omega (arith, ints, e, c.requires.sizes) in
    let f2 : SFits w128 (pos 0 -ℤ c.from-most.result *ℤ pos (2 ^ 56)) = omega (arith, ints, e, c.requires.sizes) in
    record {
      holds = simp to_z-of_z (λ w x vs slope h. any_holds w x vs slope c.args.sizes _ _ h (omega (arith, ints, e))
          (omega (arith, ints, e)));
      low = simp to_z-of_z (omega (arith, ints, e));
      high = simp to_z-of_z (omega (arith, ints, e));
    }
