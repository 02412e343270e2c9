use Rattle.std.proofs.Common.{arith}
use Rattle.sun_core.proofs.StarWidths.{side, up_within, along_within, precession_within}
use Rattle.sun_core.proofs.stars.precession_by.Goals as goal

pub returns-clause-measured : goal.returns-clause-measured
returns-clause-measured g c = λ v e l t p a.
    let shown = g.E.Enclosure.shown in
    let y = up_within shown _ v c.args.tilt c.args.crossing c.args.advance e l t p a c.cos_deg.result c.sin_deg.result
    c.mul.result
    (λ r x. c.cos_deg.ensures.encloses.narrow r x) (λ r x. c.sin_deg.ensures.encloses.narrow r x)
    (λ r x z. c.mul.ensures.encloses.narrow r x z) in
    let x = along_within shown _ v c.args.tilt c.args.crossing c.args.advance e l t p a c.cos_deg-2.result
    (λ r z. c.cos_deg-2.ensures.encloses.narrow r z) in
    let d = c.arctan2_deg-turned.ensures.measured (side v) e (omega (arith, l)) y x in
    precession_within shown _ v c.args.tilt c.args.crossing c.args.advance e l t p a c.arctan2_deg-turned.result
    c.add.result c.sub.result d
    (λ r y z. c.add.ensures.encloses.narrow r y z) (λ r y z. c.sub.ensures.encloses.narrow r y z)
