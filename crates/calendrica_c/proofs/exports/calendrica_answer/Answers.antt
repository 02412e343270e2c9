use Rattle.calendrica_c.proofs.HandingLemmas.{number_told}
use Rattle.calendrica_c.proofs.exports.calendrica_answer.Goals as goal

pub returns-clause-answered : goal.returns-clause-answered
returns-clause-answered c = (_, number_told _ _ c.number.ensures.number, c.answer-handed.ensures.answered)
