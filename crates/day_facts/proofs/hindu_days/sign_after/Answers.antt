use Rattle.std.proofs.Common.{arith, pos, ◌+ℤ◌, ◌-ℤ◌, ◌*◌, ◌^◌, SFits, w64}
use Rattle.std.proofs.lemmas.Int.{to_z-of_z, ints}
use Rattle.std.proofs.lemmas.Result.{err_from_is_err_and}
use Rattle.book_model.specs.declared.time_tables.TheConstants.{TABLE_END}
use Rattle.book_model.specs.numbers.Expressions.{Expression}
use Rattle.book_model.specs.programs.Leading.{leaf}
use Rattle.book_model.specs.sky.Facts.{at_depth}
use Rattle.book_model.specs.sky.Horizon.{sunrise_of}
use Rattle.book_model.specs.sky.Phases.{moon_from_of}
use Rattle.book_model.proofs.Leads.{leads_leaf, leaf_within}
use Rattle.rise_set.proofs.SkyDays.{sunrise_near, recent_found}
use Rattle.day_facts.proofs.Measured.{dated_moment}
use Rattle.day_facts.proofs.Moons.{moon_from_near}
use Rattle.day_facts.proofs.hindu_days.sign_after.Goals as goal

pub returns-clause-close : goal.returns-clause-close
returns-clause-close g c = λ e.
    let shown = g.E.Enclosure.shown in
    let f : SFits w64 c.args.day = c.ranges.day in
    let d = c.requires.day in
    let w = at_depth 40 in
    let m = c.in_ok-rising.ensures.measured in
    let l = simp to_z-of_z at (c.in_ok-rising.ensures.leads w (omega arith)) in
    let x : Expression = leaf w (sunrise_of c.args.day) in
    let b = sunrise_near w c.args.day x (leads_leaf l) in
    let n = c.in_ok-t.ensures.measured (5 * 2 ^ 8) e (omega arith) (m e) in
    let r = recent_found shown w (2 ^ 30) (c.args.day -ℤ pos 25) (TABLE_END +ℤ pos 200) (moon_from_of x) c.in_ok-t.t
    (omega arith) (omega (arith, ints, d.0))
    (λ y. moon_from_near w x y (c.args.day -ℤ pos 25) (c.args.day +ℤ pos 38) b)
    (c.in_ok-t.ensures.leads w x (leaf_within l)) (dated_moment _ _ n) in
    c.sign.ensures.close (2 ^ 30) e (omega arith) r

pub returns-in_err-rising-clause-close : goal.returns-in_err-rising-clause-close
returns-in_err-rising-clause-close g c = λ e.
    let m = c.in_err-rising.ensures.measured in
    let fails = err_from_is_err_and c.from_residual.result c.from_residual.ensures.1 in
    rw (fails.1, fails.2) (m e)

pub returns-in_err-t-clause-close : goal.returns-in_err-t-clause-close
returns-in_err-t-clause-close g c = λ e.
    let m = c.in_ok-rising.ensures.measured in
    let fails = err_from_is_err_and c.from_residual-in_err-t.result c.from_residual-in_err-t.ensures.1 in
    rw (fails.1, fails.2) (c.in_err-t.ensures.measured (5 * 2 ^ 8) e (omega arith) (m e))
