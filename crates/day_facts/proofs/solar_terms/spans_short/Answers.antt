use Rattle.std.proofs.Common.{SFits, w64, arith, ◌+◌, ◌*◌, ◌^◌}
use Rattle.std.proofs.lemmas.Int.{to_z-of_z, ints}
use Rattle.book_model.specs.sky.Kinds.{spans_short_of}
use Rattle.book_model.proofs.Leads.{leads_on, leaf_within}
use Rattle.day_facts.proofs.TermDays.{spans_found}
use Rattle.moon_core.proofs.QuarterWidths.{whole_moment}
use Rattle.day_facts.proofs.Measured.{spans_within}
use Rattle.day_facts.proofs.solar_terms.spans_short.Goals as goal

pub returns-clause-leads : goal.returns-clause-leads
unfolding spans_short_of
returns-clause-leads g c = λ w b l.
    let f : SFits w64 c.args.first = c.ranges.first in
    let e : SFits w64 c.args.day = c.ranges.day in
    let there = leaf_within l in
    let i = simp to_z-of_z at (c.from_int.ensures.encloses.holds w there.deep) in
    leads_on _ l
    (c.floor_step.ensures.leads w _
    (c.mul_frac-spans.ensures.encloses.holds w _ (c.sub.ensures.encloses.holds w _ _ i there)))

pub returns-clause-near : goal.returns-clause-near
returns-clause-near g c = λ b h. spans_found c.args.place c.args.first c.args.day _ b _ c.requires.from c.requires.to
    (λ w d. returns-clause-leads g c w b (h w d))

pub returns-clause-close : goal.returns-clause-close
returns-clause-close g c = λ e h.
    let shown = g.E.Enclosure.shown in
    let n : SFits w64 c.args.first = c.ranges.first in
    let l = whole_moment shown _ c.args.first c.from_int.result e (
      omega (arith, ints, c.requires.from),
      omega (arith, ints, c.requires.to),
    )
    (simp to_z-of_z at c.from_int.ensures.encloses.narrow) in
    c.floor_step.ensures.close (2 ^ 32 + 3 * 2 ^ 9 + 2 ^ 9) (omega arith)
    (spans_within shown _ (2 ^ 32 + 3 * 2 ^ 9) c.args.there e h c.from_int.result
    c.sub.result c.mul_frac-spans.result l
    (λ r x y. c.sub.ensures.encloses.narrow r x y) (λ r x. c.mul_frac-spans.ensures.encloses.narrow r x))
