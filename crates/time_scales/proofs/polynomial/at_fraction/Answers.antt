use Rattle.book_model.specs.numbers.Fractions.{fraction_of}
use Rattle.time_scales.proofs.HornerWidths.{horner_within}
use Rattle.time_scales.proofs.polynomial.at_fraction.Goals as goal

pub returns-clause-measured : goal.returns-clause-measured
returns-clause-measured g c = λ size e i t. horner_within g.E.Enclosure.shown _ c.args.coefficients.now
    (fraction_of c.args.x) size c.horner.result e i t
    (λ r. c.horner.ensures.narrow r)
