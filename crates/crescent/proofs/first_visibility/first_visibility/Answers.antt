use Rattle.std.proofs.Common.{SFits, w64, arith}
use Rattle.std.proofs.lemmas.Int.{ints, to_z-of_z}
use Rattle.crescent.proofs.first_visibility.first_visibility.Goals as goal

pub returns-clause-close : goal.returns-clause-close
returns-clause-close g c = λ e p.
    let f : SFits w64 c.args.from = c.ranges.from in
    let m = simp to_z-of_z at c.first_day.ensures.close in
    let low = c.requires.near.0 in
    let high = c.requires.near.1 in
    m (λ d h k. (p, (omega (arith, ints, h, low), omega (arith, ints, k, high)))) e
