use Rattle.std.proofs.Common.{◌≡◌, ◌+◌, ◌-◌, ◌++◌}
use Rattle.almanac_core.specs.Almanac.{almanac_line_of, almanac_requests, lines_from}
use Rattle.almanac_core.proofs.almanac.almanac_requests.Given as goal

-- the requests so far, and those that are left
abbrev pub invariant-loop-passed : goal.invariant-loop-passed
invariant-loop-passed l = l.requests.items ++ lines_from (almanac_line_of l.year) (l.passed + 1) (104 - l.passed)
    ≡ almanac_requests l.year
