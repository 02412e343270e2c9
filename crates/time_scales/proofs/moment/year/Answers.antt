use Rattle.std.proofs.Common.{refl}
use Rattle.std.proofs.lemmas.Result.{IfOk-weaker, IfErr-weaker}
use Rattle.time_scales.proofs.Years.{year_shared, open_shared, open_everywhere, leads_year_test, leads_undecided_year}
use Rattle.encl_core.proofs.Closing.{not_all}
use Rattle.time_scales.proofs.Measured.{year_close}
use Rattle.time_scales.proofs.moment.year.Goals as goal

pub returns-in-Some-clause-leads : goal.returns-in-Some-clause-leads
returns-in-Some-clause-leads g c = λ w x h.
    let s = c.in-Some.span in
    leads_year_test c.year_between.result _ _
    (IfOk-weaker c.year_between.result _ _ (λ y d. year_shared s.lo s.hi y _ s.ordered c.in-Some.ensures.holds
    c.in-Some.ensures.tight d)
    c.year_between.ensures.decided)
    (IfErr-weaker c.year_between.result _ _ (λ f o. open_shared s.lo s.hi _ _ _ f c.step-turn.ensures.number s.ordered
    c.in-Some.ensures.holds
    c.in-Some.ensures.tight o) c.year_between.ensures.open)
    c.step-turn.ensures.counted h

pub returns-in-Some-clause-decided : goal.returns-in-Some-clause-decided
returns-in-Some-clause-decided g c =
    let s = c.in-Some.span in
    IfOk-weaker c.year_between.result _ _ (λ y d. year_shared s.lo s.hi y _ s.ordered c.in-Some.ensures.holds
    c.in-Some.ensures.tight d)
    c.year_between.ensures.decided

pub returns-in-Some-clause-open : goal.returns-in-Some-clause-open
returns-in-Some-clause-open g c =
    let s = c.in-Some.span in
    IfErr-weaker c.year_between.result _ _ (λ f o. open_shared s.lo s.hi _ _ _ f c.step-turn.ensures.number s.ordered
    c.in-Some.ensures.holds
    c.in-Some.ensures.tight o) c.year_between.ensures.open

pub returns-in-None-clause-leads : goal.returns-in-None-clause-leads
returns-in-None-clause-leads g c = λ w x h. leads_undecided_year _ _ _ h
    (open_everywhere _ (c.in-None.ensures.none refl), refl, c.step-turn.ensures.number)
    c.step-turn.ensures.counted

pub returns-in-None-clause-open : goal.returns-in-None-clause-open
returns-in-None-clause-open g c = (open_everywhere _ (c.in-None.ensures.none refl), refl, c.step-turn.ensures.number)

pub returns-in-Some-clause-close : goal.returns-in-Some-clause-close
returns-in-Some-clause-close g c = λ v b h.
    let s = c.in-Some.span in
    year_close v s.lo s.hi _ c.year_between.result b h c.in-Some.ensures.tight c.year_between.ensures.endpoints

pub returns-in-None-clause-close : goal.returns-in-None-clause-close
returns-in-None-clause-close g c = λ v b h. absurd (not_all _ _ v _ (c.in-None.ensures.none refl) h)
