use Rattle.std.proofs.Common.{◌-◌, ◌≤◌, pos, ◌+ℤ◌}
use Rattle.book_model.specs.numbers.Expressions.{World}
use Rattle.book_model.specs.programs.Leading.{Exact, Continues}
use Rattle.book_model.specs.programs.Searches.{first_of_days, first_day_from}
use Rattle.encl_core.proofs.search.first_day.Given as goal

abbrev pub invariant-loop-later : goal.invariant-loop-later
invariant-loop-later g l =
    (w : World) → 40 ≤ w.depth → Continues w Exact (first_day_from (g.T.DayTest.test_of l.test) l.start)
    l.fn.trail.count
    (first_of_days (46 - l.later) (g.T.DayTest.test_of l.test) (l.start +ℤ pos l.later)) l.trail.count
