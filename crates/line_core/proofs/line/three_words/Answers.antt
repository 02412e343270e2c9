use Rattle.std.proofs.Common.{arith}
use Rattle.line_core.proofs.line.three_words.Goals as goal

pub returns-in_err-from-clause-three : goal.returns-in_err-from-clause-three
returns-in_err-from-clause-three c = grind arith

pub returns-in_err-date-clause-three : goal.returns-in_err-date-clause-three
returns-in_err-date-clause-three c = grind arith

pub returns-in_err-to-clause-three : goal.returns-in_err-to-clause-three
returns-in_err-to-clause-three c = grind arith

pub returns-in-Some-clause-three : goal.returns-in-Some-clause-three
returns-in-Some-clause-three c = grind arith

pub returns-in-None-clause-words : goal.returns-in-None-clause-words
returns-in-None-clause-words c = grind arith

pub returns-in-None-clause-three : goal.returns-in-None-clause-three
returns-in-None-clause-three c = grind arith
