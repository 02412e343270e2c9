use Rattle.std.proofs.Common.{rules, arith, SFits, w16, w64, ◌∙◌, sym}
use Rattle.std.proofs.lemmas.Int.{to_z-of_z, ints}
use Rattle.civil_core.proofs.JiffCalendar.{year_agrees}
use Rattle.civil_core.proofs.years.year_of_date.Goals as goal

pub returns : goal.returns
returns c =
    let fy : SFits w16 c.year.result = search rules in
    let fr : SFits w64 c.from.result = search rules in
    let e = rw c.year.ensures at (simp to_z-of_z at c.from.ensures) in
    record {
      year = simp to_z-of_z (e ∙ sym (year_agrees c.args.date));
      from = simp to_z-of_z (omega (arith, ints, e, c.args.date.year_in));
      to = simp to_z-of_z (omega (arith, ints, e, c.args.date.year_in));
    }
