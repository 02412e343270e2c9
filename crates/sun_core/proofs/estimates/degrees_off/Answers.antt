use Rattle.std.specs.Prelude.{pos}
use Rattle.book_model.specs.numbers.Expressions.{integer, add, subtract}
use Rattle.book_model.specs.programs.Programs.{answer, bind}
use Rattle.book_model.specs.sky.Sun.{reduced_of, off_of}
use Rattle.book_model.proofs.Leads.{leads_on, leaf_within, leads_answer}
use Rattle.std.proofs.Common.{arith, ◌+◌, ◌*◌, ◌^◌}
use Rattle.std.proofs.lemmas.Result.{err_from_is_err_and}
use Rattle.sun_core.proofs.Measured.{off_within, half_off}
use Rattle.sun_core.proofs.estimates.degrees_off.Goals as goal

pub returns-clause-leads : goal.returns-clause-leads
unfolding off_of
returns-clause-leads g c = λ w l x h k.
    let half = c.from_int-half_turn.ensures.encloses.holds w h.deep in
    let s = c.in_ok-there.ensures.leads w x k in
    let p = c.in_ok-angle.ensures.leads w _
    (c.add.ensures.encloses.holds w _ _ (c.sub.ensures.encloses.holds w _ _ (leaf_within s) h) half) in
    leads_on (λ s. bind (reduced_of (add (subtract s l) (integer (pos 180)))) λ p. answer
    (subtract p (integer (pos 180)))) s
    (leads_on (λ p. answer (subtract p (integer (pos 180)))) p
    (leads_answer (c.sub-2.ensures.encloses.holds w _ _ (leaf_within p) half)))

pub returns-clause-measured : goal.returns-clause-measured
returns-clause-measured g c = λ v e b h k.
    let shown = g.E.Enclosure.shown in
    let z = off_within shown _ v c.in_ok-there.there c.args.longitude c.sub.result e
    (c.in_ok-there.ensures.measured v e b k) h
    (λ r p q. c.sub.ensures.encloses.narrow r p q) c.from_int-half_turn.result c.add.result
    (λ r. c.from_int-half_turn.ensures.encloses.narrow r)
    (λ r p q. c.add.ensures.encloses.narrow r p q) in
    let p = c.in_ok-angle.ensures.measured (2 * v + 2 ^ 32) e (omega (arith, b)) z in
    half_off shown _ (2 * v + 2 ^ 32) c.in_ok-angle.angle c.from_int-half_turn.result c.sub-2.result e p
    (λ r. c.from_int-half_turn.ensures.encloses.narrow r)
    (λ r p q. c.sub-2.ensures.encloses.narrow r p q)

pub returns-in_err-angle-clause-measured : goal.returns-in_err-angle-clause-measured
returns-in_err-angle-clause-measured g c = λ v e b h k.
    let shown = g.E.Enclosure.shown in
    let z = off_within shown _ v c.in_ok-there.there c.args.longitude c.sub.result e
    (c.in_ok-there.ensures.measured v e b k) h
    (λ r p q. c.sub.ensures.encloses.narrow r p q) c.from_int-half_turn.result c.add.result
    (λ r. c.from_int-half_turn.ensures.encloses.narrow r)
    (λ r p q. c.add.ensures.encloses.narrow r p q) in
    let fails = err_from_is_err_and c.from_residual-in_err-angle.result c.from_residual-in_err-angle.ensures.1 in
    rw (fails.1, fails.2) (c.in_err-angle.ensures.measured (2 * v + 2 ^ 32) e (omega (arith, b)) z)
