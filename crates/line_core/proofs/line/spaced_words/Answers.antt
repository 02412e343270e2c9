use Rattle.line_core.proofs.PrintedPrefixes.{cut_twice}
use Rattle.line_core.proofs.line.spaced_words.Goals as goal

pub returns-clause-line : goal.returns-clause-line
returns-clause-line c =
    rw c.in_ok-to.ensures.same
    (cut_twice c.args.line.now c.in_ok-from.from.now c.in_ok-date.date.now c.in_ok-date.last.now c.in_ok-from.rest.now
    c.in_ok-from.ensures.cut
    c.in_ok-date.ensures.cut)
