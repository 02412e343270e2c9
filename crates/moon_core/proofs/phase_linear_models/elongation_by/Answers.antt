use Rattle.book_model.specs.declared.time_tables.TheConstants.{NOON_2000}
use Rattle.book_model.specs.numbers.Expressions.{Expression, constant, subtract}
use Rattle.book_model.specs.numbers.Fractions.{fraction_of}
use Rattle.book_model.specs.sky.Moon.{moon_of}
use Rattle.book_model.specs.sky.Phases.{elongation_of}
use Rattle.book_model.specs.sky.Sun.{sun_of}
use Rattle.book_model.specs.sky.Time.{in_centuries as centuries_from}
use Rattle.book_model.proofs.Leads.{leads_on, leaf_within}
use Rattle.sun_core.specs.Daily.{in_centuries}
use Rattle.sun_core.specs.Longitudes.{reduced_sun_of}
use Rattle.sun_core.proofs.Again.{dynamical_again}
use Rattle.sun_core.proofs.Elapsed.{by_dynamical}
use Rattle.sun_core.proofs.OnLinearModel.{answer_follows}
use Rattle.moon_core.specs.Elements.{reduced_longitude_of}
use Rattle.moon_core.proofs.phase_linear_models.elongation_by.Goals as goal

pub returns-clause-leads : goal.returns-clause-leads
unfolding elongation_of moon_of sun_of reduced_longitude_of reduced_sun_of centuries_from in_centuries
returns-clause-leads g c =
    answer_follows g.E.Enclosure.shown elongation_of c.args.t _ _ c.within_turn.result
    (λ w x h.
    let noon : Expression = constant (fraction_of NOON_2000) in
    let d = c.in_ok-moment.ensures.leads w x h in
    let m = by_dynamical x reduced_longitude_of d
    (λ z r. c.in_ok-there.ensures.leads w (subtract z noon)
    (c.sub-days.ensures.encloses.holds w z noon r (c.from_frac.ensures.encloses.holds w r.deep))) in
    let s = by_dynamical x reduced_sun_of (dynamical_again x d _)
    (λ z r. rw c.step.ensures.counted at (c.in_ok-longitude.ensures.leads w (subtract z noon)
    (c.sub-days.ensures.encloses.holds w z noon r (c.from_frac.ensures.encloses.holds w r.deep)))) in
    leads_on _ m
    (leads_on _ s
    (c.within_turn.ensures.leads w _ (c.sub.ensures.encloses.holds w _ _ (leaf_within m) (leaf_within s)))))
