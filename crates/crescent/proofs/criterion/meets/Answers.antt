use Rattle.crescent.proofs.Evenings.{local_within}
use Rattle.crescent.proofs.criterion.meets.Goals as goal

pub returns-clause-close : goal.returns-clause-close
returns-clause-close g c = λ e p f o l b t.
    let here = local_within g.E.Enclosure.shown _ c.args.location.now.longitude c.args.sidereal c.from_frac.result
    c.add-here.result e p.place t
    (λ r. c.from_frac.ensures.encloses.narrow r) (λ r x y. c.add-here.ensures.encloses.narrow r x y) in
    c.is_crescent.ensures.close e f (c.arc_cosine-arc.ensures.measured e b f)
    (c.altitude_sine-altitude.ensures.measured e p.latitude here o l b)
