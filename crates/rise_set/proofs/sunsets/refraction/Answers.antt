use Rattle.book_model.specs.sky.Horizon.{refraction_of}
use Rattle.rise_set.proofs.Places.{refraction_within}
use Rattle.rise_set.proofs.sunsets.refraction.Goals as goal

pub returns-clause-narrow : goal.returns-clause-narrow
unfolding refraction_of
returns-clause-narrow g c = λ r.
    c.add-2.ensures.encloses.narrow r _ _ (c.add.ensures.encloses.narrow r _ _ (c.from_frac.ensures.encloses.narrow r)
    (c.dip.ensures.encloses.narrow r))
    (c.refraction_of_height.ensures.encloses.narrow r)

pub returns-clause-measured : goal.returns-clause-measured
returns-clause-measured g c = λ e p. refraction_within g.E.Enclosure.shown _ c.args.location.now c.add-2.result e p
    (returns-clause-narrow g c)
