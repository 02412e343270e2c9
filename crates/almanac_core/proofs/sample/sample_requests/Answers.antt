use Rattle.std.proofs.Common.{arith}
use Rattle.almanac_core.proofs.Requests.{sample_on, sample_done}
use Rattle.almanac_core.proofs.SpelledRequests.{sample_spelled}
use Rattle.almanac_core.proofs.sample.sample_requests.Goals as goal

pub loop-index-preserved : goal.loop-index-preserved
loop-index-preserved c =
    let on = sample_on c.loop-index.state c.loop-index.index c.args.count _ _ _ _
    (omega (arith, c.loop-index-test.true)) c.sample_line-next.ensures.request
    c.loop-index.invariant c.in_ok-push.ensures.items in
    rw (← c.sample_line-next.ensures.state) at on

pub returns-clause-spelled : goal.returns-clause-spelled
returns-clause-spelled c =
    let all = sample_done c.loop-index.state c.loop-index.index c.args.count _ _
    (omega (arith, c.loop-index-test.false)) c.loop-index.invariant in
    rw all (sample_spelled c.args.count c.args.seed)
