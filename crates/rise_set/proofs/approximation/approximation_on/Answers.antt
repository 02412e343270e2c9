use Rattle.std.proofs.lemmas.Result.{err_from_is_err_and}
use Rattle.std.specs.Prelude.{pos, ◌+ℤ◌, ◌-ℤ◌}
use Rattle.book_model.specs.declared.time_tables.TheConstants.{TABLE_START, TABLE_END}
use Rattle.std.proofs.Common.{SFits, w64, arith, ◌+◌, ◌*◌, ◌/◌, ◌^◌}
use Rattle.std.proofs.lemmas.Int.{to_z-of_z, ints}
use Rattle.book_model.specs.sky.Horizon.{approximation_on}
use Rattle.book_model.proofs.Estimates.{floor_between}
use Rattle.book_model.proofs.Leads.{leads_on, leads_fail, leaf_within}
use Rattle.rise_set.proofs.Measured.{turn_within}
use Rattle.rise_set.proofs.approximation.approximation_on.Goals as goal

pub returns-clause-leads : goal.returns-clause-leads
unfolding approximation_on
returns-clause-leads g c = λ w a x h k.
    let f : SFits w64 c.args.day = c.ranges.day in
    let l = simp to_z-of_z at (c.in_ok-offset.ensures.leads w a x h k) in
    leads_on _ l (c.from_apparent.ensures.leads w _ (simp to_z-of_z at (c.apparent.ensures.holds w _ (leaf_within l))))

pub returns-clause-measured : goal.returns-clause-measured
returns-clause-measured g c = λ p d v e b h.
    let shown = g.E.Enclosure.shown in
    let f : SFits w64 c.args.day = c.ranges.day in
    let s = c.in_ok-offset.ensures.measured p v e b h in
    let q = floor_between (TABLE_START -ℤ pos 1) (TABLE_END +ℤ pos 1) c.args.day (shown c.args.t)
    (g.E.Enclosure.proper c.args.t)
    (c.in_ok-offset.ensures.dated p v e b h) d in
    let a = simp to_z-of_z at c.apparent.ensures.measured in
    let m = a (v / 16 + 2 ^ 28) e (omega (arith, ints, q.0), omega (arith, ints, q.1)) s in
    let w = (v / 16 + 2 ^ 28) / 5 + 2 ^ 11 in
    turn_within shown (w + w / 100 + 3 * 2 ^ 29) (v / 20 + 2 ^ 32) c.from_apparent.result (omega (arith, b))
    (c.from_apparent.ensures.measured p.place w e (omega (arith, b)) m)

pub returns-in_err-offset-clause-leads : goal.returns-in_err-offset-clause-leads
unfolding approximation_on
returns-in_err-offset-clause-leads g c = λ w a x h k.
    let f : SFits w64 c.args.day = c.ranges.day in
    let fails = err_from_is_err_and c.from_residual.result c.from_residual.ensures.1 in
    rw (fails.1, fails.2) (leads_fail _ (simp to_z-of_z at (c.in_err-offset.ensures.leads w a x h k)))

pub returns-in_err-offset-clause-measured : goal.returns-in_err-offset-clause-measured
returns-in_err-offset-clause-measured g c = λ p d v e b h.
    let fails = err_from_is_err_and c.from_residual.result c.from_residual.ensures.1 in
    rw (fails.1, fails.2) (c.in_err-offset.ensures.measured p v e b h)
