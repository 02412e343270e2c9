use Rattle.std.proofs.Common.{arith, ◌+◌}
use Rattle.book_model.specs.programs.Bisection.{has_passed_of}
use Rattle.book_model.proofs.Leads.{leads_on, leaf_within}
use Rattle.angle_search.proofs.Measured.{turn_about, half_within}
use Rattle.angle_search.proofs.bisection.has_passed.Goals as goal

pub returns-clause-leads : goal.returns-clause-leads
unfolding has_passed_of
returns-clause-leads g c = λ w v y h k.
    let l = c.in_ok-past.ensures.leads w v y h k in
    leads_on _ l (c.less_step.ensures.leads w _ _ (leaf_within l) (c.from_int.ensures.encloses.holds w h.deep))

pub returns-clause-close : goal.returns-clause-close
returns-clause-close g c = λ v u e b h k.
    let p = turn_about (v + u) _ (c.in_ok-past.ensures.measured v u e b h k) in
    c.less_step.ensures.close (v + u) 0 (omega (arith, b)) p (half_within g.E.Enclosure.shown _ c.from_int.result e
    (λ r. c.from_int.ensures.encloses.narrow r))
