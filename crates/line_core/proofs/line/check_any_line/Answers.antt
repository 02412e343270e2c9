use Rattle.std.proofs.Common.{◌∙◌, sym}
use Rattle.line_core.proofs.Requests.{asked_unreadable, asked_other, asked_three}
use Rattle.line_core.proofs.line.check_any_line.Goals as goal

pub returns-then-not-is_readable-clause-request : goal.returns-then-not-is_readable-clause-request
returns-then-not-is_readable-clause-request c = asked_unreadable c.args.version c.args.bytes.now
    (sym c.if-not-is_readable.ensures.readable)

pub returns-in-Some-clause-request : goal.returns-in-Some-clause-request
returns-in-Some-clause-request c =
    c.asked.ensures.asked ∙ asked_three c.args.version c.args.bytes.now _ _ _
    (sym c.if-not-is_readable.ensures.readable) c.in-Some.ensures.words

pub returns-in-None-clause-request : goal.returns-in-None-clause-request
returns-in-None-clause-request c =
    asked_other c.args.version c.args.bytes.now (sym c.if-not-is_readable.ensures.readable)
    (λ e. cc (c.in-None.ensures.three.1 e))
