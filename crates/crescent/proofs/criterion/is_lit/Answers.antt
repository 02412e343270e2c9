use Rattle.std.proofs.Common.{arith, refl, not, ◌^◌}
use Rattle.std.proofs.lemmas.Result.{err_from_is_err_and}
use Rattle.book_model.specs.sky.Crescent.{is_lit_of}
use Rattle.book_model.specs.programs.Programs.{answer}
use Rattle.book_model.proofs.Leads.{leads_bind_exact, leads_answer}
use Rattle.crescent.proofs.Thresholds.{least_arc_within}
use Rattle.crescent.proofs.criterion.is_lit.Goals as goal

pub returns-clause-leads : goal.returns-clause-leads
unfolding is_lit_of
returns-clause-leads g c = λ w a h. leads_bind_exact (λ more. answer (not more))
    (c.in_ok-more.ensures.leads w _ _
    (c.cos_deg-least.ensures.encloses.holds w _ (c.from_frac.ensures.encloses.holds w h.deep)) h) (leads_answer refl)

pub returns-in_err-more-clause-close : goal.returns-in_err-more-clause-close
returns-in_err-more-clause-close g c = λ v e b h.
    let fails = err_from_is_err_and c.from_residual.result c.from_residual.ensures.1 in
    rw (fails.1, fails.2)
    (c.in_err-more.ensures.close (2 ^ 16) v (omega (arith, b))
    (least_arc_within g.E.Enclosure.shown _ c.cos_deg-least.result e
    (λ r. c.cos_deg-least.ensures.encloses.narrow r _ (c.from_frac.ensures.encloses.narrow r))) h)
