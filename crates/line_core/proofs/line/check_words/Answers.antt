use Rattle.std.proofs.Common.{◌∙◌, sym}
use Rattle.line_core.proofs.SingleSpaces.{asked_long, asked_words}
use Rattle.line_core.proofs.line.check_words.Goals as goal

pub returns-then-are_short-clause-request : goal.returns-then-are_short-clause-request
returns-then-are_short-clause-request c =
    c.asked.ensures.asked ∙ asked_words c.args.version _ _ _ c.requires.from c.requires.date c.requires.to
    (sym c.if-are_short.ensures.short)

pub returns-else-are_short-clause-request : goal.returns-else-are_short-clause-request
returns-else-are_short-clause-request c = asked_long c.args.version _ _ _ (sym c.if-are_short.ensures.short)
