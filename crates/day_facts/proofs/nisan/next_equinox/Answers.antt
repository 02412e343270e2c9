use Rattle.std.proofs.Common.{arith, SFits, w64}
use Rattle.std.proofs.lemmas.Int.{to_z-of_z, ints}
use Rattle.std.proofs.lemmas.Result.{IfErr-weaker}
use Rattle.time_scales.proofs.WholeDays.{no_early_year}
use Rattle.moon_core.proofs.QuarterWidths.{whole_moment}
use Rattle.day_facts.specs.Nisan.{next_equinox_of}
use Rattle.day_facts.proofs.Measured.{fact_day, small_day}
use Rattle.day_facts.proofs.nisan.next_equinox.Goals as goal

pub returns-clause-leads : goal.returns-clause-leads
unfolding next_equinox_of
returns-clause-leads g c = λ w d.
    let f : SFits w64 c.args.day = c.ranges.day in
    let i = c.from_int.ensures.encloses.holds w d in
    let j = simp to_z-of_z at (c.from_int-2.ensures.encloses.holds w d) in
    c.sun_from_by.ensures.leads w _ _ i j

pub returns-clause-measured : goal.returns-clause-measured
returns-clause-measured g c = λ e.
    let shown = g.E.Enclosure.shown in
    let f : SFits w64 c.args.day = c.ranges.day in
    let l = whole_moment shown _ _ c.from_int.result e (omega (arith, ints), omega (arith, ints))
    c.from_int.ensures.encloses.narrow in
    let t = whole_moment shown _ c.args.day c.from_int-2.result e (small_day _ (fact_day _ c.requires.day))
    (simp to_z-of_z at c.from_int-2.ensures.encloses.narrow) in
    c.sun_from_by.ensures.measured 0 e (omega arith) l t

pub returns-clause-early : goal.returns-clause-early
returns-clause-early g c = λ z p q.
    let f : SFits w64 c.args.day = c.ranges.day in
    let n = simp to_z-of_z at c.from_int-2.ensures.encloses.narrow in
    IfErr-weaker c.sun_from_by.result _ _ (λ o k. no_early_year g.E.Enclosure.shown _ c.args.day c.from_int-2.result o p
    q c.requires.day n k)
    (c.sun_from_by.ensures.early z)
