use Rattle.std.proofs.Common.{arith, rules, SFits}
use Rattle.std.specs.Int.{w128}
use Rattle.std.proofs.lemmas.Int.{to_z-of_z}
use Rattle.fact_eval.proofs.Sharing.{same_number}
use Rattle.fact_eval.proofs.shared.says.Goals as goal

pub returns-clause-low : goal.returns-clause-low
returns-clause-low c =
    let f : SFits w128 c.endpoints-said.result.lo = search rules in
    let g : SFits w128 c.args.within.now.lo = search rules in
    grind (arith, to_z-of_z)

pub returns-clause-high : goal.returns-clause-high
returns-clause-high c = λ so.
    let f : SFits w128 c.endpoints-said.result.hi = search rules in
    let g : SFits w128 c.args.within.now.hi = search rules in
    rw c.endpoints-said.ensures.high at (same_number c.endpoints-said.result.hi c.args.within.now.hi f g so)
