use Rattle.std.proofs.Common.{◌≡◌, ◌≤◌, ◌∙◌, arith, sym, pos, to_z, w32}
use Rattle.std.proofs.lemmas.Int.{to_z_pos}
use Rattle.book_model.specs.declared.calendar.Calendar.TheVariants.{Chinese}
use Rattle.book_model.proofs.DateLimits.{within_limits, counted, askable_again}
use Rattle.book_model.proofs.Flags.{flag_again}
use Rattle.chinese_cal.proofs.fields.ChineseDateCalendarDate.day_by.Goals as goal

pub to_fixed-requires : goal.to_fixed-requires
to_fixed-requires g c =
    let date = c.args.fields.now in
    let cycle = within_limits Chinese date 0 (omega arith) c.requires.askable.0 in
    let leap = within_limits Chinese date 3 (omega arith) c.requires.askable.0 in
    let positive : to_z w32 c.field.result ≡ pos c.field.result = to_z_pos w32 c.field.result
    (omega (arith, c.field.ensures.field, cycle.high)) in
    let one : c.field-4.result ≤ 1 = omega (arith, c.field-4.ensures.field, leap.high) in
    record {
      askable = askable_again Chinese date _ (record {
        count = sym (counted Chinese date c.requires.askable.0);
        first = rw positive c.field.ensures.field;
        second = c.field-2.ensures.field;
        third = c.field-3.ensures.field;
        fourth = flag_again c.field-4.result one ∙ c.field-4.ensures.field;
        fifth = c.field-5.ensures.field;
      }) c.requires.askable;
    }
