use Rattle.std.proofs.Common.{arith, refl, not, ◌^◌}
use Rattle.std.proofs.lemmas.Result.{err_from_is_err_and}
use Rattle.book_model.specs.sky.Crescent.{is_within_quarter_of}
use Rattle.book_model.specs.programs.Programs.{answer}
use Rattle.book_model.proofs.Leads.{leads_bind_exact, leads_answer}
use Rattle.crescent.proofs.Thresholds.{none_within}
use Rattle.crescent.proofs.criterion.is_within_quarter.Goals as goal

pub returns-clause-leads : goal.returns-clause-leads
unfolding is_within_quarter_of
returns-clause-leads g c = λ w a h. leads_bind_exact (λ less. answer (not less))
    (c.in_ok-less.ensures.leads w _ _ h (c.from_int.ensures.encloses.holds w h.deep)) (leads_answer refl)

pub returns-in_err-less-clause-close : goal.returns-in_err-less-clause-close
returns-in_err-less-clause-close g c = λ v e b h.
    let fails = err_from_is_err_and c.from_residual.result c.from_residual.ensures.1 in
    rw (fails.1, fails.2) (c.in_err-less.ensures.close v (2 ^ 16) (omega (arith, b)) h
    (none_within g.E.Enclosure.shown _ c.from_int.result e (λ r. c.from_int.ensures.encloses.narrow r)))
