use Rattle.calendrica_c.proofs.HandingLemmas.{number_told}
use Rattle.calendrica_c.proofs.exports.calendrica_check.Goals as goal

pub returns-clause-checked : goal.returns-clause-checked
returns-clause-checked c = (_, number_told _ _ c.number.ensures.number, c.check-handed.ensures.checked)
