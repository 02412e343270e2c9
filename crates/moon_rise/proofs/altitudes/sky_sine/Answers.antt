use Rattle.book_model.specs.sky.Moonrise.{sky_sine_of}
use Rattle.moon_rise.proofs.Heights.{sky_within}
use Rattle.moon_rise.proofs.altitudes.sky_sine.Goals as goal

pub returns-clause-measured : goal.returns-clause-measured
unfolding sky_sine_of
returns-clause-measured g c = λ e k t o l b.
    sky_within g.E.Enclosure.shown _ c.args.location.now c.args.sidereal c.args.obliquity c.args.longitude
    c.args.latitude c.altitude_sine.result e k t o l b
    (λ r x z u v h i j m.
    c.altitude_sine.ensures.narrow r _ z u v
    (c.add-here.ensures.encloses.narrow r x _ h (c.from_frac.ensures.encloses.narrow r)) i j m)
