use Rattle.book_model.specs.sky.HinduFacts.{whole_degrees_of}
use Rattle.book_model.proofs.Leads.{leads_on, leaf_within}
use Rattle.day_facts.proofs.HinduRuns.{degrees_found}
use Rattle.moon_core.proofs.PhaseRanges.{within_world}
use Rattle.std.proofs.Common.{arith, ◌+◌, ◌*◌, ◌^◌}
use Rattle.day_facts.proofs.Measured.{turn_about}
use Rattle.std.proofs.lemmas.Result.{err_from_is_err_and}
use Rattle.day_facts.proofs.zodiac.whole_degrees.Goals as goal

pub returns-clause-leads : goal.returns-clause-leads
unfolding whole_degrees_of
returns-clause-leads g c = λ w x h.
    let l = c.in_ok-longitude.ensures.leads w x h in
    leads_on _ l (c.floor_step.ensures.leads w _ (leaf_within l))

pub returns-clause-near : goal.returns-clause-near
returns-clause-near g c =
    let shown = g.E.Enclosure.shown in
    let p = g.E.Enclosure.proper in
    degrees_found shown p c.args.t c.floor_step.result (returns-clause-leads g c _ _ (within_world shown p c.args.t))

pub returns-clause-close : goal.returns-clause-close
returns-clause-close g c = λ v e b h.
    c.floor_step.ensures.close (3 * v + 2 ^ 34) (omega (arith, b))
    (turn_about (3 * v + 2 ^ 34) _ (c.in_ok-longitude.ensures.measured v e (omega (arith, b)) h))

pub returns-in_err-longitude-clause-close : goal.returns-in_err-longitude-clause-close
returns-in_err-longitude-clause-close g c = λ v e b h.
    let fails = err_from_is_err_and c.from_residual.result c.from_residual.ensures.1 in
    rw (fails.1, fails.2) (c.in_err-longitude.ensures.measured v e (omega (arith, b)) h)
