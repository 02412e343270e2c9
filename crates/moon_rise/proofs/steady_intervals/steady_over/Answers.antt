use Rattle.moon_rise.proofs.Replays.{told_answer}
use Rattle.moon_rise.proofs.steady_intervals.steady_over.Goals as goal

pub returns-in-Ok-clause-answers : goal.returns-in-Ok-clause-answers
returns-in-Ok-clause-answers g c =
    told_answer (g.T.MomentTest.test_of c.args.test.now) c.steady_by.result c.args.from c.args.to c.count.result
    c.in-Ok.all.so _ _ c.steady_by.ensures.told
    c.steady_by.ensures.few c.anew-apart.ensures.empty c.count.ensures.value c.in-Ok.ensures.leads
