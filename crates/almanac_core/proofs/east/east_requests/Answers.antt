use Rattle.std.proofs.Common.{arith}
use Rattle.almanac_core.specs.East.{east_line_of}
use Rattle.almanac_core.proofs.Requests.{line_on, all_done}
use Rattle.almanac_core.proofs.SpelledRequests.{east_spelled}
use Rattle.almanac_core.proofs.east.east_requests.Goals as goal

pub loop-passed-preserved : goal.loop-passed-preserved
loop-passed-preserved c =
    line_on (east_line_of c.args.year) 52 c.loop-passed.passed _ _ _ _ (omega (arith, c.loop-passed-test.true))
    c.east_line.ensures.request
    c.loop-passed.invariant c.in_ok-push.ensures.items

pub returns-clause-spelled : goal.returns-clause-spelled
returns-clause-spelled c =
    let all = all_done (east_line_of c.args.year) 52 c.loop-passed.passed _ _ (omega (arith, c.loop-passed-test.false))
    c.loop-passed.invariant in
    rw all (east_spelled c.args.year c.requires.year)
