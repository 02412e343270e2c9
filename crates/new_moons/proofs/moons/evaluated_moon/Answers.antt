use Rattle.std.proofs.Common.{arith, SFits, w64, ◌-ℤ◌, ◌+◌, ◌^◌, pos}
use Rattle.std.proofs.lemmas.Int.{ints, to_z-of_z}
use Rattle.new_moons.proofs.moons.evaluated_moon.Goals as goal

pub returns-clause-measured : goal.returns-clause-measured
returns-clause-measured g c = λ l h e.
    let f : SFits w64 c.args.n = c.ranges.n in
    let k : SFits w64 (c.args.n -ℤ pos 24724) = omega (arith, ints, l, h) in
    let m = simp to_z-of_z at c.dynamical_new_moon.ensures.measured in
    c.from_dynamical.ensures.measured (2 ^ 29 + 2 ^ 24) e (omega arith)
    (m e (omega (arith, ints, l), omega (arith, ints, h)))

pub returns-clause-recent : goal.returns-clause-recent
returns-clause-recent g c = λ l h e.
    let f : SFits w64 c.args.n = c.ranges.n in
    let k : SFits w64 (c.args.n -ℤ pos 24724) = omega (arith, ints, l, h) in
    let m = simp to_z-of_z at c.dynamical_new_moon.ensures.recent in
    c.from_dynamical.ensures.recent (2 ^ 29 + 2 ^ 24) e (omega arith)
    (m e (omega (arith, ints, l), omega (arith, ints, h)))
