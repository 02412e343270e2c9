use Rattle.std.proofs.Common.{SFits, w64}
use Rattle.std.proofs.lemmas.Int.{to_z-of_z}
use Rattle.book_model.specs.sky.HinduFacts.{calendar_year_of}
use Rattle.day_facts.proofs.HinduRuns.{calendar_year_is_value}
use Rattle.day_facts.proofs.UndecidedTests.{whole_day_year}
use Rattle.std.proofs.Common.{arith}
use Rattle.std.proofs.lemmas.Int.{ints}
use Rattle.day_facts.proofs.HinduWidths.{day_recent}
use Rattle.day_facts.proofs.hindu_days.calendar_year.Goals as goal

pub returns-clause-leads : goal.returns-clause-leads
unfolding calendar_year_of
returns-clause-leads g c = λ w d.
    let f : SFits w64 c.args.day = c.ranges.day in
    c.hindu_year.ensures.leads w _ (simp to_z-of_z at (c.from_int.ensures.encloses.holds w d))

pub returns-clause-value : goal.returns-clause-value
returns-clause-value g c = calendar_year_is_value c.args.day _ _ _ (returns-clause-leads g c)

pub returns-clause-early : goal.returns-clause-early
returns-clause-early g c = λ z p q.
    let f : SFits w64 c.args.day = c.ranges.day in
    let n = simp to_z-of_z at c.from_int.ensures.encloses.narrow in
    whole_day_year g.E.Enclosure.shown _ c.args.day c.from_int.result c.hindu_year.result p q c.requires.day n
    c.hindu_year.ensures.open

pub returns-clause-close : goal.returns-clause-close
returns-clause-close g c = λ e.
    let f : SFits w64 c.args.day = c.ranges.day in
    let d = c.requires.day in
    let n = simp to_z-of_z at c.from_int.ensures.encloses.narrow in
    c.hindu_year.ensures.close 0 e (omega arith) (day_recent g.E.Enclosure.shown _ c.args.day c.from_int.result e
    (omega (arith, ints, d.0))
    (omega (arith, ints, d.1)) n)
