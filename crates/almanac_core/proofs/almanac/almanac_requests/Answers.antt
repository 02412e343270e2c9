use Rattle.std.proofs.Common.{arith}
use Rattle.almanac_core.specs.Almanac.{almanac_line_of}
use Rattle.almanac_core.proofs.Requests.{line_on, all_done}
use Rattle.almanac_core.proofs.SpelledRequests.{almanac_spelled}
use Rattle.almanac_core.proofs.almanac.almanac_requests.Goals as goal

pub loop-passed-preserved : goal.loop-passed-preserved
loop-passed-preserved c =
    line_on (almanac_line_of c.args.year) 104 c.loop-passed.passed _ _ _ _ (omega (arith, c.loop-passed-test.true))
    c.almanac_line.ensures.request
    c.loop-passed.invariant c.in_ok-push.ensures.items

pub returns-clause-spelled : goal.returns-clause-spelled
returns-clause-spelled c =
    let all = all_done (almanac_line_of c.args.year) 104 c.loop-passed.passed _ _
    (omega (arith, c.loop-passed-test.false)) c.loop-passed.invariant in
    rw all (almanac_spelled c.args.year c.requires.year)
