use Rattle.std.proofs.Common.{◌≡◌, map, take, All}
use Rattle.book_model.specs.declared.version.TheConstants.{WRITTEN}
use Rattle.book_model.specs.lines.Requests.{checked_request}
use Rattle.jobs_core.specs.Outcomes.{CanResolve}
use Rattle.conversion.proofs.rows.checked_rows.Given as goal

-- the rows of the requests so far
abbrev pub invariant-loop-request : goal.invariant-loop-request
invariant-loop-request l = (l.rows.items ≡ map (checked_request WRITTEN) (take l.request-index l.requests))
    × All CanResolve l.rows.items
