use Rattle.std.proofs.Common.{rules, refl, sym, SFits, w32, w64}
use Rattle.std.proofs.lemmas.Int.{to_z-of_z}
use Rattle.civil_core.proofs.Days.{named_is_of_day}
use Rattle.civil_core.proofs.civil.to_fixed.Goals as goal

pub returns-in-Some-clause-date : goal.returns-in-Some-clause-date
returns-in-Some-clause-date c =
    let fy : SFits w32 c.args.year = c.ranges.year in
    let f : SFits w64 c.day_number.result = search rules in
    let found = simp to_z-of_z at c.in-Some.ensures.found in
    let named = simp to_z-of_z at c.in-Some.ensures.named in
    simp to_z-of_z (named_is_of_day c.in-Some.date c.args.year c.day_number.result c.args.month c.args.day named
    (found.0 refl) (sym c.day_number.ensures.day))
