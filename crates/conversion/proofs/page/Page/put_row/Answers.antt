use Rattle.std.proofs.Common.{ap}
use Rattle.jobs_core.specs.Outcomes.{line_outcome}
use Rattle.conversion.specs.Echoes.{echoed_at}
use Rattle.conversion.proofs.EchoLemmas.{three_words_stand}
use Rattle.conversion.proofs.page.Page.put_row.Goals as goal

pub put_found-requires-clause-three : goal.put_found-requires-clause-three
put_found-requires-clause-three c =
    three_words_stand (echoed_at c.args.echoes.now c.args.index) (line_outcome c.args.outcome.now) _ _
    (ap line_outcome c.in-Found.is) c.requires.stands
