use Rattle.std.proofs.Common.{arith, ◌^◌}
use Rattle.std.proofs.lemmas.Result.{err_from_is_err_and}
use Rattle.book_model.specs.declared.site.Site.TheVariants.{Rise}
use Rattle.moon_rise.proofs.Heights.{zero_within, zero_about, up_closes}
use Rattle.moon_rise.proofs.Risings.{rise_elsewhere}
use Rattle.moon_rise.proofs.altitudes.is_up.Goals as goal

pub returns-clause-close : goal.returns-clause-close
returns-clause-close g c = λ e k t.
    let z = zero_within g.E.Enclosure.shown _ c.from_int.result e (λ r. c.from_int.ensures.encloses.narrow r) in
    up_closes Rise _ _ c.less_step.result z (c.in_ok-altitude.ensures.measured k t e)
    (λ n. c.less_step.ensures.close 0 (2 ^ 41) (omega arith) (zero_about _ z) n) c.less_step.ensures.open

pub returns-clause-open : goal.returns-clause-open
returns-clause-open g c = rise_elsewhere _ _ _ c.less_step.result c.less_step.ensures.open

pub returns-in_err-altitude-clause-close : goal.returns-in_err-altitude-clause-close
returns-in_err-altitude-clause-close g c = λ e k t.
    let fails = err_from_is_err_and c.from_residual.result c.from_residual.ensures.1 in
    rw (fails.1, fails.2) (c.in_err-altitude.ensures.measured k t e)
