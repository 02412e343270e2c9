use Rattle.line_core.proofs.line.read_words.Goals as goal

pub returns-clause-in_reach : goal.returns-clause-in_reach
returns-clause-in_reach c = c.request_in.ensures.in_reach c.args.version c.check_words.ensures.version
