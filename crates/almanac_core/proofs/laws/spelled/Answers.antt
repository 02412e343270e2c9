use Rattle.almanac_core.proofs.SpelledRequests.{almanac_spelled, east_spelled}
use Rattle.almanac_core.proofs.laws.spelled.Goals as goal

pub returns-clause-almanac : goal.returns-clause-almanac
returns-clause-almanac c = almanac_spelled

pub returns-clause-east : goal.returns-clause-east
returns-clause-east c = east_spelled
