use Rattle.std.proofs.Common.{rules, ◌∙◌, ap, SFits, w64}
use Rattle.std.specs.Int.{w128}
use Rattle.std.proofs.lemmas.Int.{to_z-of_z}
use Rattle.book_model.specs.calendars.Gregorian.{year_of_day}
use Rattle.book_model.proofs.Corrections.{leads_year}
use Rattle.time_scales.proofs.moment.year_of_whole_day.Goals as goal

pub returns-clause-leads : goal.returns-clause-leads
returns-clause-leads c = λ w.
    let f : SFits w64 c.args.day = c.ranges.day in
    let r : SFits w64 c.year_of.result = search rules in
    let q : SFits w128 c.from.result = search rules in
    let d = simp to_z-of_z at c.from.ensures in
    let e = simp to_z-of_z at c.year_of.ensures.year in
    simp to_z-of_z (leads_year w c.args.day _ _ _ (e ∙ ap year_of_day d) c.step.ensures.counted)
