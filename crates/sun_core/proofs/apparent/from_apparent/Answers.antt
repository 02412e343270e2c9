use Rattle.book_model.specs.numbers.Expressions.{subtract}
use Rattle.book_model.specs.sky.Noon.{from_apparent_of}
use Rattle.book_model.specs.programs.Programs.{answer}
use Rattle.book_model.proofs.Leads.{leads_on, leaf_within, leads_answer}
use Rattle.std.proofs.Common.{arith, ◌+◌, ◌^◌}
use Rattle.std.proofs.lemmas.Result.{err_from_is_err_and}
use Rattle.sun_core.proofs.Measured.{ahead_within, universal_within, mean_within}
use Rattle.sun_core.proofs.apparent.from_apparent.Goals as goal

pub returns-clause-leads : goal.returns-clause-leads
unfolding from_apparent_of
returns-clause-leads g c = λ w x h.
    let e = c.in_ok-equation.ensures.leads w _
    (c.sub.ensures.encloses.holds w _ _ h (c.ahead.ensures.encloses.holds w h.deep)) in
    leads_on (λ e. answer (subtract x e)) e (leads_answer (c.sub-2.ensures.encloses.holds w _ _ h (leaf_within e)))

pub returns-clause-measured : goal.returns-clause-measured
returns-clause-measured g c = λ p v e b h.
    let shown = g.E.Enclosure.shown in
    let a = ahead_within shown _ c.args.longitude c.ahead.result e p (λ r. c.ahead.ensures.encloses.narrow r) in
    let u = universal_within shown _ v c.args.t e h c.ahead.result c.sub.result a
    (λ r x y. c.sub.ensures.encloses.narrow r x y) in
    mean_within shown _ v c.args.t e h c.in_ok-equation.equation c.sub-2.result b
    (c.in_ok-equation.ensures.measured (v + 2 ^ 10) e (omega (arith, b)) u)
    (λ r x y. c.sub-2.ensures.encloses.narrow r x y)

pub returns-in_err-equation-clause-measured : goal.returns-in_err-equation-clause-measured
returns-in_err-equation-clause-measured g c = λ p v e b h.
    let shown = g.E.Enclosure.shown in
    let a = ahead_within shown _ c.args.longitude c.ahead.result e p (λ r. c.ahead.ensures.encloses.narrow r) in
    let fails = err_from_is_err_and c.from_residual.result c.from_residual.ensures.1 in
    rw (fails.1, fails.2) (c.in_err-equation.ensures.measured (v + 2 ^ 10) e (omega (arith, b))
    (universal_within shown _ v c.args.t e h c.ahead.result c.sub.result a
    (λ r x y. c.sub.ensures.encloses.narrow r x y)))
