use Rattle.std.proofs.Common.{arith}
use Rattle.std.proofs.lemmas.Int.{ints}
use Rattle.book_model.specs.sky.Phases.{number_of_moon}
use Rattle.book_model.proofs.Leads.{leads_on, leaf_within}
use Rattle.moon_core.specs.LinearModels.{number_by, number_of_phase}
use Rattle.moon_core.proofs.PhaseRanges.{number_found, late_found, within_world, dated_from, dated_to, near_low}
use Rattle.moon_core.proofs.PhaseRanges.{near_high}
use Rattle.moon_core.proofs.numbers.number.Goals as goal

pub returns-clause-leads : goal.returns-clause-leads
unfolding number_of_moon number_by number_of_phase
returns-clause-leads g c = λ w x h.
    let m = c.in_ok-months.ensures.leads w x h in
    leads_on _ m (c.number_after.ensures.leads w _ x (leaf_within m) h)

pub returns-clause-low : goal.returns-clause-low
returns-clause-low g c =
    let shown = g.E.Enclosure.shown in
    let p = g.E.Enclosure.proper in
    near_low _ (number_found shown p c.args.t c.number_after.result
    (returns-clause-leads g c _ _ (within_world shown p c.args.t)))

pub returns-clause-high : goal.returns-clause-high
returns-clause-high g c =
    let shown = g.E.Enclosure.shown in
    let p = g.E.Enclosure.proper in
    near_high _ (number_found shown p c.args.t c.number_after.result
    (returns-clause-leads g c _ _ (within_world shown p c.args.t)))

pub returns-clause-from : goal.returns-clause-from
returns-clause-from g c =
    let shown = g.E.Enclosure.shown in
    let p = g.E.Enclosure.proper in
    dated_from _ (number_found shown p c.args.t c.number_after.result
    (returns-clause-leads g c _ _ (within_world shown p c.args.t)))

pub returns-clause-to : goal.returns-clause-to
returns-clause-to g c =
    let shown = g.E.Enclosure.shown in
    let p = g.E.Enclosure.proper in
    dated_to _ (number_found shown p c.args.t c.number_after.result
    (returns-clause-leads g c _ _ (within_world shown p c.args.t)))

pub returns-clause-late : goal.returns-clause-late
returns-clause-late g c = λ v h.
    let shown = g.E.Enclosure.shown in
    let p = g.E.Enclosure.proper in
    late_found shown p c.args.t v c.number_after.result h (returns-clause-leads g c _ _ (within_world shown p c.args.t))

pub returns-clause-close : goal.returns-clause-close
returns-clause-close g c = λ v e b h.
    let m = c.in_ok-months.ensures.measured (omega (arith, ints)) (omega (arith, ints)) v e (omega (arith, b)) h in
    c.number_after.ensures.close v e b m h
