use Rattle.std.proofs.Common.{arith, ◌+◌, ◌*◌, ◌^◌}
use Rattle.std.proofs.lemmas.Result.{err_from_is_err_and}
use Rattle.book_model.specs.sky.Crescent.{meets_with_of}
use Rattle.book_model.proofs.Leads.{leads_bind, leads_fail}
use Rattle.crescent.proofs.Evenings.{angle_within, north_within, greenwich_within}
use Rattle.crescent.proofs.criterion.meets_with.Goals as goal

pub returns-clause-leads : goal.returns-clause-leads
unfolding meets_with_of
returns-clause-leads g c = λ w x f o p h j k.
    leads_bind (c.longitude_again-longitude.ensures.leads w x p)
    (λ l m. leads_bind (c.latitude_again-north.ensures.leads w x p.elements)
    (λ b n. leads_bind (c.in_ok-greenwich.ensures.leads w x h)
    (λ t s. c.meets.ensures.leads w f o l b t h.deep j k m n s)))

pub returns-in_err-greenwich-clause-leads : goal.returns-in_err-greenwich-clause-leads
unfolding meets_with_of
returns-in_err-greenwich-clause-leads g c = λ w x f o p h j k.
    let fails = err_from_is_err_and c.from_residual.result c.from_residual.ensures.1 in
    rw (fails.1, fails.2) (leads_bind (c.longitude_again-longitude.ensures.leads w x p)
    (λ l m. leads_bind (c.latitude_again-north.ensures.leads w x p.elements)
    (λ b n. leads_fail _ (c.in_err-greenwich.ensures.leads w x h))))

pub returns-clause-close : goal.returns-clause-close
returns-clause-close g c = λ e p d f o m.
    let l = angle_within (20 * (9 * 2 ^ 29) + 2 ^ 36) _ (omega arith) m.longitude in
    let b = north_within _ (c.latitude_again-north.ensures.measured (9 * 2 ^ 29) e m.elements) in
    let t = greenwich_within _ (c.in_ok-greenwich.ensures.measured (9 * 2 ^ 29) e (omega arith) d) in
    c.meets.ensures.close e p f o (rw c.longitude_again-longitude.ensures.same l) b t
