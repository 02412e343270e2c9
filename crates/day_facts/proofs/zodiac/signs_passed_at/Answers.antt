use Rattle.std.proofs.Common.{arith, ◌+◌, ◌*◌, ◌^◌}
use Rattle.std.proofs.lemmas.Result.{err_from_is_err_and}
use Rattle.book_model.specs.sky.Sidereal.{signs_passed_of}
use Rattle.book_model.proofs.Leads.{leads_on, leaf_within}
use Rattle.day_facts.specs.Counts.{whole_signs_of}
use Rattle.day_facts.proofs.zodiac.signs_passed_at.Goals as goal

pub returns-clause-leads : goal.returns-clause-leads
unfolding signs_passed_of whole_signs_of
returns-clause-leads g c = λ w x h.
    let l = c.in_ok-longitude.ensures.leads w x h in
    leads_on _ l (c.whole_signs.ensures.leads w _ (leaf_within l))

pub returns-clause-close : goal.returns-clause-close
returns-clause-close g c = λ v e b h. c.whole_signs.ensures.close (3 * v + 2 ^ 34) e (omega (arith, b))
    (c.in_ok-longitude.ensures.measured v e (omega (arith, b)) h)

pub returns-in_err-longitude-clause-close : goal.returns-in_err-longitude-clause-close
returns-in_err-longitude-clause-close g c = λ v e b h.
    let fails = err_from_is_err_and c.from_residual.result c.from_residual.ensures.1 in
    rw (fails.1, fails.2) (c.in_err-longitude.ensures.measured v e (omega (arith, b)) h)
