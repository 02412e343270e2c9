use Rattle.std.proofs.lemmas.Result.{err_from_is_err_and}
use Rattle.std.proofs.Common.{rules, SFits, w64}
use Rattle.std.proofs.lemmas.Int.{to_z-of_z}
use Rattle.book_model.specs.sky.Time.{correction_at, correction_of_year}
use Rattle.book_model.proofs.Leads.{leads_bind_exact}
use Rattle.encl_core.proofs.Measuring.{moment_about}
use Rattle.time_scales.proofs.Measured.{moment_in_table}
use Rattle.time_scales.proofs.dynamical_time.correction_of_moment.Goals as goal

pub returns-clause-in_table : goal.returns-clause-in_table
unfolding correction_at
returns-clause-in_table g c =
    let f : SFits w64 c.in_ok-year.year = search rules in
    let k = simp to_z-of_z at c.correction_once.ensures.leads in
    moment_in_table _ g.E.Enclosure.shown g.E.Enclosure.proper c.args.t c.correction_once.result
    (λ w x h. leads_bind_exact (λ y. correction_of_year y) (c.in_ok-year.ensures.leads w x h) (k w h.deep))

pub returns-in_err-year-clause-measured : goal.returns-in_err-year-clause-measured
returns-in_err-year-clause-measured g c = λ v e b h.
    let fails = err_from_is_err_and c.from_residual.result c.from_residual.ensures.1 in
    rw (fails.1, fails.2) (c.in_err-year.ensures.close v b (moment_about v _ h))
