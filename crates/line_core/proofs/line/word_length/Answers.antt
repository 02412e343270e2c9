use Rattle.line_core.proofs.LineWords.{no_blank}
use Rattle.line_core.proofs.line.word_length.Goals as goal

pub returns-in-None-clause-length : goal.returns-in-None-clause-length
returns-in-None-clause-length c = no_blank c.args.line.now c.in-None.ensures.place
