use Rattle.book_model.specs.numbers.Fractions.{fraction_of}
use Rattle.book_model.specs.declared.time_tables.TheConstants.{DAY_IN_CENTURIES}
use Rattle.sun_core.specs.Daily.{in_centuries, by_days, by_centuries}
use Rattle.sun_core.proofs.Scalings.{both_hold, daily_is}
use Rattle.sun_core.proofs.daily.times_rate.Goals as goal

pub returns-in-Some-clause-holds : goal.returns-in-Some-clause-holds
unfolding by_centuries in_centuries
returns-in-Some-clause-holds g c = λ w x h.
    let k = c.in-Some.ensures.daily in
    both_hold g.E.Enclosure.shown w x (fraction_of DAY_IN_CENTURIES) (fraction_of c.args.rate)
    (fraction_of c.in-Some.rate) c.mul_frac.result
    (daily_is c.args.rate c.in-Some.rate k.2 k.3 k.1) (c.mul_frac.ensures.encloses.holds w x h)

pub returns-in-Some-clause-narrow : goal.returns-in-Some-clause-narrow
unfolding by_days
returns-in-Some-clause-narrow g c = λ r x h.
    let k = c.in-Some.ensures.daily in
    let m = c.mul_frac.ensures.encloses.narrow r x h in
    rw k.0 (rw k.2 at (rw k.3 at m))

pub returns-in-None-clause-holds : goal.returns-in-None-clause-holds
returns-in-None-clause-holds g c = c.rate_by_centuries.ensures.encloses.holds

pub returns-in-None-clause-narrow : goal.returns-in-None-clause-narrow
unfolding by_days
returns-in-None-clause-narrow g c = λ r x h.
    rw c.in-None.ensures.daily (c.rate_by_centuries.ensures.encloses.narrow r x h)
