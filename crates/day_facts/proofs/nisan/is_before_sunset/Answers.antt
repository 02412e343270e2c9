use Rattle.std.proofs.Common.{arith, SFits, w64, ◌*◌, ◌^◌}
use Rattle.std.proofs.lemmas.Int.{to_z-of_z, ints}
use Rattle.std.proofs.lemmas.Result.{err_from_is_err_and}
use Rattle.book_model.specs.sky.Nisan.{is_before_sunset_of}
use Rattle.book_model.proofs.Leads.{leads_on, leaf_within}
use Rattle.encl_core.proofs.Measuring.{moment_about}
use Rattle.day_facts.proofs.nisan.is_before_sunset.Goals as goal

pub returns-clause-leads : goal.returns-clause-leads
unfolding is_before_sunset_of
returns-clause-leads g c = λ w x h.
    let f : SFits w64 c.args.day = c.ranges.day in
    let s = simp to_z-of_z at (c.in_ok-evening.ensures.leads w h.deep) in
    leads_on _ s (c.less_step.ensures.leads w x _ h (leaf_within s))

pub returns-clause-close : goal.returns-clause-close
returns-clause-close g c = λ e l m.
    let f : SFits w64 c.args.day = c.ranges.day in
    let s = simp to_z-of_z at c.in_ok-evening.ensures.measured in
    let d = c.requires.day in
    c.less_step.ensures.close (2 ^ 33) (9 * 2 ^ 29) (omega arith) (moment_about _ _ m)
    (moment_about _ _ (s l (omega (arith, ints, d.from), omega (arith, ints, d.to)) e))

pub returns-in_err-evening-clause-close : goal.returns-in_err-evening-clause-close
returns-in_err-evening-clause-close g c = λ e l m.
    let f : SFits w64 c.args.day = c.ranges.day in
    let s = simp to_z-of_z at c.in_err-evening.ensures.measured in
    let d = c.requires.day in
    let fails = err_from_is_err_and c.from_residual.result c.from_residual.ensures.1 in
    rw (fails.1, fails.2) (s l (omega (arith, ints, d.from), omega (arith, ints, d.to)) e)
