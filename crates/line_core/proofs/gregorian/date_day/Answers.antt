use Rattle.std.proofs.Common.{w32}
use Rattle.civil_core.proofs.Conversions.{converted, passed}
use Rattle.line_core.proofs.DateDays.{found_exactly, found_day}
use Rattle.line_core.proofs.gregorian.date_day.Goals as goal

pub returns-clause-some : goal.returns-clause-some
returns-clause-some c =
    let y = passed w32 c.in_ok-year.year _ (converted c.try_from.result c.in_ok-year.year _ c.try_from.ensures
    c.in_ok-year.ensures.value) in
    let m = (converted c.try_from-2.result c.in_ok-month.month c.args.month c.try_from-2.ensures
    c.in_ok-month.ensures.value).same in
    let d = (converted c.try_from-3.result c.in_ok-day.day c.args.day c.try_from-3.ensures
    c.in_ok-day.ensures.value).same in
    rw c.ok-4.ensures.value (found_exactly c.to_fixed.result c.args.year c.args.month c.args.day _ _ _ y m d
    c.to_fixed.ensures.found)

pub returns-clause-day : goal.returns-clause-day
returns-clause-day c =
    let y = passed w32 c.in_ok-year.year _ (converted c.try_from.result c.in_ok-year.year _ c.try_from.ensures
    c.in_ok-year.ensures.value) in
    let m = (converted c.try_from-2.result c.in_ok-month.month c.args.month c.try_from-2.ensures
    c.in_ok-month.ensures.value).same in
    let d = (converted c.try_from-3.result c.in_ok-day.day c.args.day c.try_from-3.ensures
    c.in_ok-day.ensures.value).same in
    rw c.ok-4.ensures.value (found_day c.to_fixed.result c.args.year c.args.month c.args.day _ _ _ y m d
    c.to_fixed.ensures.date)
