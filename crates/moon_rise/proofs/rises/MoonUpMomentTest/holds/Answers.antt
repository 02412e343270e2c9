use Rattle.std.proofs.Common.{arith, SFits, w64}
use Rattle.std.proofs.lemmas.Int.{ints, to_z-of_z}
use Rattle.moon_rise.proofs.Risings.{never_of_year}
use Rattle.moon_rise.proofs.rises.MoonUpMomentTest.holds.Goals as goal

pub returns-clause-close : goal.returns-clause-close
returns-clause-close g c = λ n e.
    let f : SFits w64 c.args.self.now.day = omega (arith, ints, n.1.0, n.1.1) in
    let m = simp to_z-of_z at c.moment_at-t.ensures.measured in
    c.is_up.ensures.close e n.0 (m e n.1)

pub returns-clause-dated : goal.returns-clause-dated
returns-clause-dated g c = λ n a b.
    let f : SFits w64 c.args.self.now.day = omega (arith, ints, n.1.0, n.1.1) in
    let m = simp to_z-of_z at c.moment_at-t.ensures.in_year in
    never_of_year _ c.is_up.result (m a b n.1) c.is_up.ensures.open
