use Rattle.std.proofs.Common.{◌≡◌, ◌≤◌, ◌∙◌, arith, sym, pos, to_z, w32}
use Rattle.std.proofs.lemmas.Int.{to_z_pos}
use Rattle.book_model.specs.declared.calendar.Calendar.TheVariants.{HinduLunar}
use Rattle.book_model.proofs.DateLimits.{within_limits, counted, askable_again}
use Rattle.book_model.proofs.Flags.{flag_again}
use Rattle.hindu_astro.proofs.lunar.HinduLunarCalendarDate.day_by.Goals as goal

pub to_fixed-requires : goal.to_fixed-requires
to_fixed-requires g c =
    let date = c.args.fields.now in
    let year = within_limits HinduLunar date 0 (omega arith) c.requires.askable.0 in
    let leap_month = within_limits HinduLunar date 2 (omega arith) c.requires.askable.0 in
    let leap_day = within_limits HinduLunar date 4 (omega arith) c.requires.askable.0 in
    let positive : to_z w32 c.field.result ≡ pos c.field.result = to_z_pos w32 c.field.result
    (omega (arith, c.field.ensures.field, year.high)) in
    let one_month : c.field-3.result ≤ 1 = omega (arith, c.field-3.ensures.field, leap_month.high) in
    let one_day : c.field-5.result ≤ 1 = omega (arith, c.field-5.ensures.field, leap_day.high) in
    record {
      askable = askable_again HinduLunar date _ (record {
        count = sym (counted HinduLunar date c.requires.askable.0);
        first = rw positive c.field.ensures.field;
        second = c.field-2.ensures.field;
        third = flag_again c.field-3.result one_month ∙ c.field-3.ensures.field;
        fourth = c.field-4.ensures.field;
        fifth = flag_again c.field-5.result one_day ∙ c.field-5.ensures.field;
      }) c.requires.askable;
    }
