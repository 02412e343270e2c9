use Rattle.std.proofs.Common.{arith, ◌^◌}
use Rattle.std.proofs.lemmas.Result.{err_from_is_err_and}
use Rattle.book_model.specs.sky.Moon.{moon_of}
use Rattle.book_model.specs.sky.Moonrise.{observed_with_of}
use Rattle.book_model.proofs.Leads.{leads_answer, leads_bind, leads_fail, leads_fail_same}
use Rattle.moon_core.specs.Elements.{reduced_longitude_of}
use Rattle.moon_core.proofs.MomentElements.{by_elements}
use Rattle.moon_rise.proofs.altitudes.observed_with.Goals as goal

pub returns-clause-leads : goal.returns-clause-leads
unfolding observed_with_of moon_of reduced_longitude_of
returns-clause-leads g c = λ w x t o h k m.
    let moment = c.in_ok-elements.ensures.again w x h in
    leads_bind (by_elements reduced_longitude_of (c.in_ok-elements.ensures.leads w x h)
    (λ d i. c.in_ok-longitude.ensures.leads w d i))
    (λ l i. leads_bind (c.latitude_again-north.ensures.leads w x moment)
    (λ b j. leads_bind (c.distance_again-far.ensures.leads w x moment)
    (λ d n. leads_answer (c.height.ensures.holds w _ _ _ (c.sky_sine-sine.ensures.holds w _ _ _ _ k m i j) n
    (c.sunset_depression.ensures.holds w h.deep)))))

pub returns-in_err-elements-clause-leads : goal.returns-in_err-elements-clause-leads
unfolding observed_with_of moon_of
returns-in_err-elements-clause-leads g c = λ w x t o h k m.
    let fails = err_from_is_err_and c.from_residual.result c.from_residual.ensures.1 in
    rw (fails.1, fails.2) (leads_fail _ (leads_fail_same _ (c.in_err-elements.ensures.leads w x h)))

pub returns-in_err-longitude-clause-leads : goal.returns-in_err-longitude-clause-leads
unfolding observed_with_of moon_of reduced_longitude_of
returns-in_err-longitude-clause-leads g c = λ w x t o h k m.
    let fails = err_from_is_err_and c.from_residual-in_err-longitude.result c.from_residual-in_err-longitude.ensures.1
    in
    rw (fails.1, fails.2) (leads_fail _
    (by_elements reduced_longitude_of (c.in_ok-elements.ensures.leads w x h)
    (λ d i. c.in_err-longitude.ensures.leads w d i)))

pub returns-clause-measured : goal.returns-clause-measured
returns-clause-measured g c = λ k t s o e.
    let a = c.in_ok-elements.ensures.measured (2 ^ 16) e (omega arith) t in
    let l = c.in_ok-longitude.ensures.measured (2 ^ 16) e (omega arith) a in
    let b = c.latitude_again-north.ensures.measured (2 ^ 16) e a in
    let d = c.distance_again-far.ensures.measured (2 ^ 16) e a in
    c.height.ensures.measured e (c.sky_sine-sine.ensures.measured e k s o l b) d
    (c.sunset_depression.ensures.measured e k.narrow)

pub returns-in_err-elements-clause-measured : goal.returns-in_err-elements-clause-measured
returns-in_err-elements-clause-measured g c = λ k t s o e.
    let fails = err_from_is_err_and c.from_residual.result c.from_residual.ensures.1 in
    rw (fails.1, fails.2) (c.in_err-elements.ensures.measured (2 ^ 16) e (omega arith) t)

pub returns-in_err-longitude-clause-measured : goal.returns-in_err-longitude-clause-measured
returns-in_err-longitude-clause-measured g c = λ k t s o e.
    let fails = err_from_is_err_and c.from_residual-in_err-longitude.result c.from_residual-in_err-longitude.ensures.1
    in
    let a = c.in_ok-elements.ensures.measured (2 ^ 16) e (omega arith) t in
    rw (fails.1, fails.2) (c.in_err-longitude.ensures.measured (2 ^ 16) e (omega arith) a)

pub returns-in_err-longitude-clause-open : goal.returns-in_err-longitude-clause-open
returns-in_err-longitude-clause-open g c =
    let fails = err_from_is_err_and c.from_residual-in_err-longitude.result c.from_residual-in_err-longitude.ensures.1
    in
    rw (fails.1, fails.2) (c.in_err-longitude.ensures.elsewhere _)
