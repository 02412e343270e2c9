use Rattle.calendrica_c.proofs.HandingLemmas.{number_told}
use Rattle.calendrica_c.proofs.exports.calendrica_result.Goals as goal

pub returns-clause-answered : goal.returns-clause-answered
returns-clause-answered c = (_, number_told _ _ c.number.ensures.number, c.answer_briefly-handed.ensures.answered)
