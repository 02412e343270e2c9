use Rattle.book_model.specs.numbers.Expressions.{constant}
use Rattle.book_model.specs.numbers.Fractions.{fraction_of}
use Rattle.book_model.specs.declared.time_tables.TheConstants.{NOON_2000}
use Rattle.sun_core.proofs.Elapsed.{sun_after_time}
use Rattle.sun_core.proofs.linear_models.sun_by.Goals as goal

pub returns-clause-leads : goal.returns-clause-leads
returns-clause-leads g c =
    sun_after_time g.E.Enclosure.shown c.args.t _ _ _ _ _ c.sun_on.result c.in_ok-moment.ensures.leads
    (λ w d r. c.sub.ensures.encloses.holds w d (constant (fraction_of NOON_2000)) r
    (c.from_frac.ensures.encloses.holds w r.deep))
    c.sun_on.ensures.leads
