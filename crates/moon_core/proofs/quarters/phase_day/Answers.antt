use Rattle.std.proofs.lemmas.Result.{err_from_is_err_and}
use Rattle.std.proofs.Common.{SFits, w64}
use Rattle.std.proofs.lemmas.Int.{to_z-of_z}
use Rattle.book_model.specs.sky.Phases.{phase_day_of}
use Rattle.book_model.proofs.Leads.{leads_on, leaf_within}
use Rattle.time_scales.proofs.WholeDays.{no_early_year}
use Rattle.moon_core.proofs.PhaseDays.{phase_day_found}
use Rattle.std.proofs.Common.{arith, ◌+◌, ◌*◌, ◌^◌}
use Rattle.encl_core.proofs.Measuring.{moment_about}
use Rattle.moon_core.proofs.QuarterWidths.{whole_moment}
use Rattle.moon_core.proofs.quarters.phase_day.Goals as goal

pub returns-clause-leads : goal.returns-clause-leads
unfolding phase_day_of
returns-clause-leads g c = λ w d.
    let f : SFits w64 c.args.phase = c.ranges.phase in
    let e : SFits w64 c.args.day = c.ranges.day in
    let i = simp to_z-of_z at (c.from_int.ensures.encloses.holds w d) in
    let j = simp to_z-of_z at (c.from_int-2.ensures.encloses.holds w d) in
    let l = c.in_ok-moment.ensures.leads w _ _ i j in
    leads_on _ l (c.floor_step.ensures.leads w _ (leaf_within l))

pub returns-in_err-moment-clause-early : goal.returns-in_err-moment-clause-early
returns-in_err-moment-clause-early g c = λ z p q h.
    let e : SFits w64 c.args.day = c.ranges.day in
    let n = simp to_z-of_z at c.from_int-2.ensures.encloses.narrow in
    let fails = err_from_is_err_and c.from_residual.result c.from_residual.ensures.1 in
    rw (fails.1, fails.2) (no_early_year g.E.Enclosure.shown _ c.args.day c.from_int-2.result _ p q h n
    (c.in_err-moment.ensures.early z))

pub returns-clause-near : goal.returns-clause-near
returns-clause-near g c = phase_day_found c.args.phase c.args.day _ _ _ (returns-clause-leads g c)

pub returns-clause-close : goal.returns-clause-close
returns-clause-close g c = λ e a k.
    let shown = g.E.Enclosure.shown in
    let f : SFits w64 c.args.phase = c.ranges.phase in
    let d : SFits w64 c.args.day = c.ranges.day in
    let p = whole_moment shown _ c.args.phase c.from_int.result e a
    (simp to_z-of_z at c.from_int.ensures.encloses.narrow) in
    let t = whole_moment shown _ c.args.day c.from_int-2.result e k
    (simp to_z-of_z at c.from_int-2.ensures.encloses.narrow) in
    c.floor_step.ensures.close (3 * 0 + 2 ^ 34) (omega arith)
    (moment_about _ _ (c.in_ok-moment.ensures.measured 0 e (omega arith) p t))

pub returns-in_err-moment-clause-close : goal.returns-in_err-moment-clause-close
returns-in_err-moment-clause-close g c = λ e a k.
    let shown = g.E.Enclosure.shown in
    let f : SFits w64 c.args.phase = c.ranges.phase in
    let d : SFits w64 c.args.day = c.ranges.day in
    let p = whole_moment shown _ c.args.phase c.from_int.result e a
    (simp to_z-of_z at c.from_int.ensures.encloses.narrow) in
    let t = whole_moment shown _ c.args.day c.from_int-2.result e k
    (simp to_z-of_z at c.from_int-2.ensures.encloses.narrow) in
    let fails = err_from_is_err_and c.from_residual.result c.from_residual.ensures.1 in
    rw (fails.1, fails.2) (c.in_err-moment.ensures.measured 0 e (omega arith) p t)
