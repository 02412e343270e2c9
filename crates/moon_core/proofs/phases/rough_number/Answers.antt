use Rattle.std.proofs.Common.{arith, ◌+◌, ◌/◌, ◌^◌}
use Rattle.std.proofs.lemmas.Int.{ints}
use Rattle.book_model.specs.sky.Phases.{rough_number_of}
use Rattle.book_model.proofs.Leads.{leads_on, leaf_within}
use Rattle.moon_core.proofs.Measured.{months_about}
use Rattle.moon_core.proofs.PhaseRanges.{rough_found, within_world, dated_from, dated_to, near_low, near_high}
use Rattle.moon_core.proofs.phases.rough_number.Goals as goal

pub returns-clause-leads : goal.returns-clause-leads
unfolding rough_number_of
returns-clause-leads g c = λ w x h.
    let m = c.in_ok-months.ensures.leads w x h in
    leads_on _ m (c.nearest_moon.ensures.leads w _ (leaf_within m))

pub returns-clause-low : goal.returns-clause-low
returns-clause-low g c =
    let shown = g.E.Enclosure.shown in
    let p = g.E.Enclosure.proper in
    near_low _ (rough_found shown p c.args.t c.nearest_moon.result c.requires.in_table
    (returns-clause-leads g c _ _ (within_world shown p c.args.t)))

pub returns-clause-high : goal.returns-clause-high
returns-clause-high g c =
    let shown = g.E.Enclosure.shown in
    let p = g.E.Enclosure.proper in
    near_high _ (rough_found shown p c.args.t c.nearest_moon.result c.requires.in_table
    (returns-clause-leads g c _ _ (within_world shown p c.args.t)))

pub returns-clause-from : goal.returns-clause-from
returns-clause-from g c =
    let shown = g.E.Enclosure.shown in
    let p = g.E.Enclosure.proper in
    dated_from _ (rough_found shown p c.args.t c.nearest_moon.result c.requires.in_table
    (returns-clause-leads g c _ _ (within_world shown p c.args.t)))

pub returns-clause-to : goal.returns-clause-to
returns-clause-to g c =
    let shown = g.E.Enclosure.shown in
    let p = g.E.Enclosure.proper in
    dated_to _ (rough_found shown p c.args.t c.nearest_moon.result c.requires.in_table
    (returns-clause-leads g c _ _ (within_world shown p c.args.t)))

pub returns-clause-close : goal.returns-clause-close
returns-clause-close g c = λ v e b h.
    let m = c.in_ok-months.ensures.measured (omega (arith, ints)) (omega (arith, ints)) v e b h in
    c.nearest_moon.ensures.close (v / 29 + 2 ^ 26) e (omega (arith, b)) (months_about _ _ m)
