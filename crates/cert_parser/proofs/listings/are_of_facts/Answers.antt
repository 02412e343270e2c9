use Rattle.std.proofs.Common.{sym, refl}
use Rattle.cert_parser.proofs.Marking.{mark_next, not_next}
use Rattle.cert_parser.proofs.listings.are_of_facts.Goals as goal

pub loop-number-preserved : goal.loop-number-preserved
loop-number-preserved c = mark_next _ _ _ _ _ _ c.loop-number.invariant c.loop-number-test.true
    (sym c.if-not-mark.ensures.unlisted)
    (c.if-not-mark.ensures.marked refl)

pub returns-then-not-mark-clause-facts : goal.returns-then-not-mark-clause-facts
returns-then-not-mark-clause-facts c = sym (not_next _ _ _ _ _ c.loop-number.invariant c.loop-number-test.true
    (sym c.if-not-mark.ensures.unlisted))
