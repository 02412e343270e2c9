use Rattle.std.proofs.Common.{rules, arith, pos, SFits, w16, w64, ◌≡◌, ◌∙◌}
use Rattle.std.specs.Prelude.{unsigned_abs}
use Rattle.std.proofs.lemmas.Int.{to_z-of_z, ints}
use Rattle.jiff.proofs.SpanFacts.{signed_arith}
use Rattle.jiff_core.proofs.DateLemmas.{epoch_day_range}
use Rattle.civil_core.proofs.JiffCalendar.{day_agrees}
use Rattle.civil_core.proofs.years.first_of_july.Goals as goal

pub returns : goal.returns
returns c =
    let fy : SFits w64 c.args.year = c.ranges.year in
    let f : SFits w16 c.args.year = omega (arith, ints, c.requires.from, c.requires.to) in
    let fd : SFits w64 c.day_number.result = search rules in
    let h = simp to_z-of_z at c.date.ensures in
    let e : c.args.year ≡ pos (unsigned_abs c.args.year) = omega (arith, ints, c.requires.from) in
    let day = day_agrees c.date.result (unsigned_abs c.args.year) 7 1 (h.0 ∙ e, h.1, h.2) in
    let range = epoch_day_range c.date.result in
    let number = c.day_number.ensures.day in
    simp to_z-of_z (record {
      day = omega (arith, signed_arith, day, number);
      near_from = omega (arith, signed_arith, range.0, number);
      near_to = omega (arith, signed_arith, range.1, number);
    })
