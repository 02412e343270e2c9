use Rattle.std.proofs.Common.{◌≡◌, arith, sym, pos, to_z, w32}
use Rattle.std.proofs.lemmas.Int.{to_z_pos}
use Rattle.book_model.specs.declared.calendar.Calendar.TheVariants.{Bahai}
use Rattle.book_model.proofs.DateLimits.{within_limits, counted, askable_again}
use Rattle.bahai_cal.proofs.fields.BahaiDateCalendarDate.day_by.Goals as goal

pub to_fixed-requires : goal.to_fixed-requires
to_fixed-requires g c =
    let date = c.args.fields.now in
    let major = within_limits Bahai date 0 (omega arith) c.requires.askable.0 in
    let positive : to_z w32 c.field.result ≡ pos c.field.result = to_z_pos w32 c.field.result
    (omega (arith, c.field.ensures.field, major.high)) in
    record {
      askable = askable_again Bahai date _ (record {
        count = sym (counted Bahai date c.requires.askable.0);
        first = rw positive c.field.ensures.field;
        second = c.field-2.ensures.field;
        third = c.field-3.ensures.field;
        fourth = c.field-4.ensures.field;
        fifth = c.field-5.ensures.field;
      }) c.requires.askable;
    }
