use Rattle.std.proofs.Common.{SFits, w64, arith, ◌+◌, ◌*◌, ◌^◌}
use Rattle.std.proofs.lemmas.Int.{to_z-of_z}
use Rattle.std.proofs.lemmas.Result.{err_from_is_err_and}
use Rattle.book_model.specs.sky.Kinds.{longitude_day_of}
use Rattle.book_model.proofs.Leads.{leads_on, leaf_within}
use Rattle.moon_core.proofs.QuarterWidths.{whole_moment}
use Rattle.day_facts.proofs.solar_terms.longitude_day.Goals as goal

pub returns-clause-leads : goal.returns-clause-leads
unfolding longitude_day_of
returns-clause-leads g c = λ w d m h.
    let f : SFits w64 c.args.longitude = c.ranges.longitude in
    let i = simp to_z-of_z at (c.from_int.ensures.encloses.holds w m.deep) in
    let l = c.in_ok-moment.ensures.leads w _ _ i m h in
    leads_on _ l (c.day_at.ensures.leads w _ (leaf_within l))

pub returns-clause-close : goal.returns-clause-close
returns-clause-close g c = λ e k m t h.
    let shown = g.E.Enclosure.shown in
    let n : SFits w64 c.args.longitude = c.ranges.longitude in
    let l = whole_moment shown _ c.args.longitude c.from_int.result e k
    (simp to_z-of_z at c.from_int.ensures.encloses.narrow) in
    c.day_at.ensures.close (4 * (3 * 2 ^ 8) + 2 ^ 33) e (omega arith)
    (c.in_ok-moment.ensures.measured (3 * 2 ^ 8) e (omega arith) l m t h)

pub returns-in_err-moment-clause-close : goal.returns-in_err-moment-clause-close
returns-in_err-moment-clause-close g c = λ e k m t h.
    let shown = g.E.Enclosure.shown in
    let n : SFits w64 c.args.longitude = c.ranges.longitude in
    let l = whole_moment shown _ c.args.longitude c.from_int.result e k
    (simp to_z-of_z at c.from_int.ensures.encloses.narrow) in
    let fails = err_from_is_err_and c.from_residual.result c.from_residual.ensures.1 in
    rw (fails.1, fails.2) (c.in_err-moment.ensures.measured (3 * 2 ^ 8) e (omega arith) l m t h)
