use Rattle.std.proofs.Common.{◌≡◌, ◌+◌, ◌-◌, ◌++◌}
use Rattle.almanac_core.specs.Almanac.{lines_from}
use Rattle.almanac_core.specs.East.{east_line_of, east_requests}
use Rattle.almanac_core.proofs.east.east_requests.Given as goal

-- the requests so far, and those that are left
abbrev pub invariant-loop-passed : goal.invariant-loop-passed
invariant-loop-passed l = l.requests.items ++ lines_from (east_line_of l.year) (l.passed + 1) (52 - l.passed)
    ≡ east_requests l.year
