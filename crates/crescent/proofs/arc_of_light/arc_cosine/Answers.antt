use Rattle.book_model.specs.sky.Crescent.{arc_cosine_of}
use Rattle.crescent.proofs.Measured.{arc_within}
use Rattle.crescent.proofs.arc_of_light.arc_cosine.Goals as goal

pub returns-clause-narrow : goal.returns-clause-narrow
unfolding arc_cosine_of
returns-clause-narrow g c = λ r b f h k. c.mul.ensures.encloses.narrow r _ _ (c.cos_deg.ensures.encloses.narrow r b h)
    (c.cos_deg-2.ensures.encloses.narrow r f k)

pub returns-clause-measured : goal.returns-clause-measured
returns-clause-measured g c = λ e h k. arc_within g.E.Enclosure.shown _ c.args.latitude c.args.phase c.mul.result e h k
    (returns-clause-narrow g c)
