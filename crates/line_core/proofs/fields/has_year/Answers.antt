use Rattle.std.proofs.Common.{◌<◌, length, arith, rules, pos}
use Rattle.std.proofs.lemmas.Int.{ints, to_z-of_z}
use Rattle.std.proofs.lemmas.List.{get_or_default}
use Rattle.book_model.specs.calendars.Versions.{version_number}
use Rattle.line_core.proofs.fields.has_year.Goals as goal

pub returns-then-from-year : goal.returns-then-from-year
returns-then-from-year c =
    let within : version_number c.args.version < length c.args.row.now.years = search rules in
    let same = get_or_default c.args.row.now.years (version_number c.args.version) (pos 0, pos 0) (pos 1, pos 0)
    within in
    record {
      year = grind (
        arith,
        ints,
        to_z-of_z,
        same,
        c.year_number-year.ensures.number,
        c.from.ensures,
        c.from-then-from-year.ensures,
      );
    }
