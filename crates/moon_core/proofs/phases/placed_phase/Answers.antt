use Rattle.std.proofs.Common.{Ok}
use Rattle.std.proofs.lemmas.Result.{err_from_is_err_and}
use Rattle.book_model.specs.numbers.Expressions.{argument}
use Rattle.book_model.specs.numbers.Relations.{Within}
use Rattle.book_model.specs.programs.Leading.{Leads}
use Rattle.book_model.specs.sky.Phases.{elongation_of, phase_of}
use Rattle.book_model.proofs.Early.{elongation_least, three_made}
use Rattle.book_model.proofs.Leads.{leads_bind, leaf_within}
use Rattle.moon_core.proofs.MoonPlaces.{fails_as, leads_as}
use Rattle.moon_core.proofs.PhaseRanges.{world_of, within_world}
use Rattle.sun_core.proofs.UndecidedTests.{open_is_early, late_failure}
use Rattle.moon_core.proofs.phases.placed_phase.Goals as goal

pub returns-clause-leads : goal.returns-clause-leads
unfolding phase_of
returns-clause-leads g c = λ w x h.
    leads_bind (c.in_ok-by_longitudes.ensures.leads w x h)
    (λ p i. leads_as (c.in_ok-angle.ensures.leads w x p h i) (λ v r. r))

pub returns-in_err-angle-clause-leads : goal.returns-in_err-angle-clause-leads
unfolding phase_of
returns-in_err-angle-clause-leads g c = λ w x h.
    let fails = err_from_is_err_and c.from_residual-in_err-angle.result c.from_residual-in_err-angle.ensures.1 in
    rw (fails.1, fails.2) (leads_bind (c.in_ok-by_longitudes.ensures.leads w x h)
    (λ p i. fails_as (c.in_err-angle.ensures.leads w x p h i)))

pub returns-in_err-by_longitudes-clause-early : goal.returns-in_err-by_longitudes-clause-early
returns-in_err-by_longitudes-clause-early g c = λ z.
    let fails = err_from_is_err_and c.from_residual.result c.from_residual.ensures.1 in
    rw (fails.1, fails.2) (open_is_early _ _ c.in_err-by_longitudes.ensures.open)

pub returns-in_err-angle-clause-early : goal.returns-in_err-angle-clause-early
returns-in_err-angle-clause-early g c = λ z.
    let fails = err_from_is_err_and c.from_residual-in_err-angle.result c.from_residual-in_err-angle.ensures.1 in
    let shown = g.E.Enclosure.shown in
    let w = world_of (shown c.args.t) (g.E.Enclosure.proper c.args.t) in
    let i = within_world shown g.E.Enclosure.proper c.args.t in
    let l : Leads w (Within shown w) (elongation_of (argument 0)) _ _ (Ok c.in_ok-by_longitudes.by_longitudes.angle) =
    leads_as (c.in_ok-by_longitudes.ensures.leads w (argument 0) i) (λ v r. r) in
    rw (fails.1, fails.2) (late_failure (shown c.args.t) _ (three_made w (elongation_least (argument 0)) z l)
    (c.in_err-angle.ensures.leads w (argument 0) _ i (leaf_within l)))
