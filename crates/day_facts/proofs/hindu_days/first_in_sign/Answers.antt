use Rattle.std.proofs.Common.{arith, SFits, w64}
use Rattle.std.proofs.lemmas.Int.{to_z-of_z, ints}
use Rattle.day_facts.proofs.hindu_days.first_in_sign.Goals as goal

pub returns-clause-close : goal.returns-clause-close
returns-clause-close g c = λ l e.
    let f : SFits w64 c.args.from = c.ranges.from in
    let high = c.requires.high in
    let m = simp to_z-of_z at c.first_day.ensures.close in
    m (λ d h k. (omega (arith, ints, l, h), omega (arith, ints, k, high))) e
