use Rattle.std.specs.Int.{w128}
use Rattle.std.proofs.Common.{rules, arith, SFits, w64, ◌+ℤ◌}
use Rattle.std.proofs.lemmas.Int.{ints, to_z-of_z}
use Rattle.fact_eval.proofs.shared.endpoints.Goals as goal

pub returns-clause-high : goal.returns-clause-high
returns-clause-high c =
    let fl : SFits w64 c.lower_36-lower.result = search rules in
    let fw : SFits w64 c.width_36.result = search rules in
    let fb : SFits w64 (c.lower_36-lower.result +ℤ c.width_36.result) =
    omega (
      arith,
      ints,
      c.lower_36-lower.ensures.low,
      c.lower_36-lower.ensures.high,
      c.width_36.ensures.few,
      c.width_36.ensures.from,
    ) in
    let l = c.lower_36-lower.ensures.value in
    let t = c.width_36.ensures.value in
    let h = simp to_z-of_z at c.in_56-hi.ensures in
    let fr : SFits w128 c.in_56-hi.result = search rules in
    simp to_z-of_z (rw (l, t) at h)
