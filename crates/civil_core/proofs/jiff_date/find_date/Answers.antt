use Rattle.std.proofs.Common.{arith, SFits, w8, w16, w32}
use Rattle.std.proofs.lemmas.Int.{ints, to_z-of_z}
use Rattle.civil_core.proofs.Conversions.{converted, passed}
use Rattle.civil_core.proofs.Days.{found_exactly}
use Rattle.civil_core.proofs.jiff_date.find_date.Goals as goal

pub returns-clause-found : goal.returns-clause-found
returns-clause-found c =
    let f : SFits w32 c.args.year = c.ranges.year in
    let tried = simp to_z-of_z at c.try_from.ensures in
    let y = passed w16 c.in_ok-year.year c.args.year (converted c.try_from.result c.in_ok-year.year c.args.year tried
    c.in_ok-year.ensures.value) in
    let m = passed w8 c.in_ok-month.month _ (converted c.try_from-2.result c.in_ok-month.month _ c.try_from-2.ensures
    c.in_ok-month.ensures.value) in
    let d = passed w8 c.in_ok-day.day _ (converted c.try_from-3.result c.in_ok-day.day _ c.try_from-3.ensures
    c.in_ok-day.ensures.value) in
    rw c.ok-4.ensures.value (found_exactly c.new.result c.args.year _ _ _ c.args.month c.args.day y m d
    (omega (arith, ints)) c.new.ensures.succeeds)
