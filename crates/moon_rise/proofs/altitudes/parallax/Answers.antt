use Rattle.moon_rise.specs.Computed.{computed_parallax_of}
use Rattle.moon_rise.proofs.Orders.{parallax_holds}
use Rattle.moon_rise.proofs.altitudes.parallax.Goals as goal

pub returns-clause-holds : goal.returns-clause-holds
unfolding computed_parallax_of
returns-clause-holds g c = λ w x y h k.
    let d = rw c.kilometre_in_radii.ensures.kilometre at (c.mul_frac.ensures.encloses.holds w y k) in
    parallax_holds g.E.Enclosure.shown w x y c.arcsin_deg.result
    (c.arcsin_deg.ensures.encloses.holds w _
    (c.div.ensures.encloses.holds w _ _ (c.cos_deg.ensures.encloses.holds w x h) d))
