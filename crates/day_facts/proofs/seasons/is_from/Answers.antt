use Rattle.std.proofs.lemmas.Result.{err_from_is_err_and}
use Rattle.std.proofs.Common.{refl, not, arith, SFits, w64}
use Rattle.std.proofs.lemmas.Int.{to_z-of_z}
use Rattle.book_model.specs.sky.Kinds.{is_on_side_of}
use Rattle.book_model.specs.programs.Programs.{answer, bind}
use Rattle.book_model.proofs.Leads.{leads_bind_exact, leads_fail_exact, leads_answer}
use Rattle.day_facts.proofs.Measured.{turn_about, whole_about}
use Rattle.day_facts.proofs.seasons.is_from.Goals as goal

pub returns-clause-leads : goal.returns-clause-leads
unfolding is_on_side_of bind
returns-clause-leads g c = λ w x h.
    let f : SFits w64 c.args.degrees = c.ranges.degrees in
    let i = simp to_z-of_z at (c.from_int.ensures.encloses.holds w h.deep) in
    leads_bind_exact (λ less. answer (not less)) (c.in_ok-is_less.ensures.leads w x _ h i) (leads_answer refl)

pub returns-in_err-is_less-clause-leads : goal.returns-in_err-is_less-clause-leads
unfolding is_on_side_of bind
returns-in_err-is_less-clause-leads g c = λ w x h.
    let f : SFits w64 c.args.degrees = c.ranges.degrees in
    let i = simp to_z-of_z at (c.from_int.ensures.encloses.holds w h.deep) in
    let fails = err_from_is_err_and c.from_residual.result c.from_residual.ensures.1 in
    rw (fails.1, fails.2) (leads_fail_exact (λ less. answer (not less)) (c.in_err-is_less.ensures.leads w x _ h i))

pub returns-in_err-is_less-clause-close : goal.returns-in_err-is_less-clause-close
returns-in_err-is_less-clause-close g c = λ s v e b h.
    let f : SFits w64 c.args.degrees = c.ranges.degrees in
    let n = whole_about g.E.Enclosure.shown _ c.args.degrees c.from_int.result e s
    (simp to_z-of_z at c.from_int.ensures.encloses.narrow) in
    let fails = err_from_is_err_and c.from_residual.result c.from_residual.ensures.1 in
    rw (fails.1, fails.2) (c.in_err-is_less.ensures.close v 0 (omega (arith, b)) (turn_about v _ h) n)
