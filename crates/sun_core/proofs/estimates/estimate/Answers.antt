use Rattle.book_model.specs.numbers.Expressions.{minimum}
use Rattle.book_model.specs.programs.Programs.{answer, bind}
use Rattle.book_model.specs.sky.Sun.{off_of, back_by, estimate_of}
use Rattle.book_model.proofs.Leads.{leads_on, leaf_within, leads_answer}
use Rattle.std.proofs.Common.{arith, ◌+◌, ◌*◌, ◌/◌, ◌^◌}
use Rattle.std.proofs.lemmas.Result.{err_from_is_err_and}
use Rattle.sun_core.proofs.Measured.{back_within, near_moment, estimate_within}
use Rattle.sun_core.proofs.estimates.estimate.Goals as goal

pub returns-clause-leads : goal.returns-clause-leads
unfolding estimate_of
returns-clause-leads g c = λ w a x h k.
    let p = c.in_ok-degrees_past.ensures.leads w a x h k in
    let near = c.moved_back-near.ensures.encloses.holds w _ _ (leaf_within p) k in
    let o = c.in_ok-rest.ensures.leads w a _ h near in
    leads_on (λ p. bind (off_of a (back_by p x)) λ o. answer (minimum x (back_by o (back_by p x)))) p
    (leads_on (λ o. answer (minimum x (back_by o (back_by _ x)))) o
    (leads_answer
    (c.min.ensures.encloses.holds w _ _ k (c.moved_back.ensures.encloses.holds w _ _ (leaf_within o) near))))

pub returns-clause-measured : goal.returns-clause-measured
returns-clause-measured g c = λ v e b h k.
    let shown = g.E.Enclosure.shown in
    let i = c.in_ok-degrees_past.ensures.in_table in
    let p = c.in_ok-degrees_past.ensures.measured v e (omega (arith, b)) h k in
    let near = back_within shown _ v c.args.t e i k c.in_ok-degrees_past.field-0 c.moved_back-near.result p
    (λ r a b. c.moved_back-near.ensures.encloses.narrow r a b) in
    let o = c.in_ok-rest.ensures.measured (3 * v + v / 4 + 2 ^ 33) e (omega (arith, b)) h
    (near_moment (3 * v + v / 4 + 2 ^ 33) _ near) in
    estimate_within shown _ v c.args.t e i k c.moved_back-near.result c.in_ok-rest.rest c.moved_back.result c.min.result
    near o
    (λ r a b. c.moved_back.ensures.encloses.narrow r a b) (λ r a b. c.min.ensures.encloses.narrow r a b)

pub returns-in_err-rest-clause-measured : goal.returns-in_err-rest-clause-measured
returns-in_err-rest-clause-measured g c = λ v e b h k.
    let p = c.in_ok-degrees_past.ensures.measured v e (omega (arith, b)) h k in
    let near = back_within g.E.Enclosure.shown _ v c.args.t e c.in_ok-degrees_past.ensures.in_table k
    c.in_ok-degrees_past.field-0 c.moved_back-near.result p
    (λ r a b. c.moved_back-near.ensures.encloses.narrow r a b) in
    let fails = err_from_is_err_and c.from_residual-in_err-rest.result c.from_residual-in_err-rest.ensures.1 in
    rw (fails.1, fails.2) (c.in_err-rest.ensures.measured (3 * v + v / 4 + 2 ^ 33) e (omega (arith, b)) h
    (near_moment (3 * v + v / 4 + 2 ^ 33) _ near))
