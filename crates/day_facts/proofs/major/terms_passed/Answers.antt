use Rattle.std.proofs.Common.{arith, SFits, w64, ◌+◌, ◌*◌, ◌^◌}
use Rattle.std.proofs.lemmas.Int.{to_z-of_z}
use Rattle.book_model.specs.sky.Facts.{at_depth}
use Rattle.book_model.proofs.Leads.{leaf_within}
use Rattle.day_facts.proofs.Winters.{is_term, term_from, term_to}
use Rattle.std.proofs.lemmas.Result.{err_from_is_err_and}
use Rattle.day_facts.proofs.Measured.{midnight_day, terms_within}
use Rattle.day_facts.proofs.major.terms_passed.Goals as goal

pub returns-clause-from : goal.returns-clause-from
returns-clause-from g c =
    let f : SFits w64 c.args.day = c.ranges.day in
    let l = simp to_z-of_z at (c.in_ok-longitude.ensures.leads (at_depth 40) (omega arith)) in
    term_from _ (is_term (at_depth 40) _ c.args.place c.args.day _ l
    (c.floor_step.ensures.leads (at_depth 40) _ (c.mul_frac.ensures.encloses.holds (at_depth 40) _ (leaf_within l))))

pub returns-clause-to : goal.returns-clause-to
returns-clause-to g c =
    let f : SFits w64 c.args.day = c.ranges.day in
    let l = simp to_z-of_z at (c.in_ok-longitude.ensures.leads (at_depth 40) (omega arith)) in
    term_to _ (is_term (at_depth 40) _ c.args.place c.args.day _ l
    (c.floor_step.ensures.leads (at_depth 40) _ (c.mul_frac.ensures.encloses.holds (at_depth 40) _ (leaf_within l))))

pub returns-clause-close : goal.returns-clause-close
returns-clause-close g c = λ e h.
    let f : SFits w64 c.args.day = c.ranges.day in
    let m = simp to_z-of_z at c.in_ok-longitude.ensures.measured in
    c.floor_step.ensures.close (2 ^ 32 + 3 * 2 ^ 9 + 2 ^ 9) (omega arith)
    (terms_within g.E.Enclosure.shown _ (2 ^ 32 + 3 * 2 ^ 9) c.in_ok-longitude.longitude e (m (midnight_day _ h) e)
    c.mul_frac.result
    (λ r x. c.mul_frac.ensures.encloses.narrow r x))

pub returns-in_err-longitude-clause-close : goal.returns-in_err-longitude-clause-close
returns-in_err-longitude-clause-close g c = λ e h.
    let f : SFits w64 c.args.day = c.ranges.day in
    let m = simp to_z-of_z at c.in_err-longitude.ensures.measured in
    let fails = err_from_is_err_and c.from_residual.result c.from_residual.ensures.1 in
    rw (fails.1, fails.2) (m (midnight_day _ h) e)
