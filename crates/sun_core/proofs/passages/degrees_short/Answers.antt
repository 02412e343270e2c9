use Rattle.std.proofs.Common.{arith, ◌+◌, ◌*◌, ◌^◌}
use Rattle.sun_core.proofs.PassageWidths.{short_within}
use Rattle.std.proofs.lemmas.Result.{err_from_is_err_and}
use Rattle.sun_core.proofs.UndecidedTests.{open_is_early}
use Rattle.sun_core.proofs.passages.degrees_short.Goals as goal

pub returns-clause-measured : goal.returns-clause-measured
returns-clause-measured g c = λ v e b h k.
    let s = c.in_ok-there.ensures.measured v e b k in
    let d = short_within g.E.Enclosure.shown _ (2 * v + 2 ^ 32) c.args.longitude c.in_ok-there.there c.sub.result e h s
    (λ r p q. c.sub.ensures.encloses.narrow r p q) in
    c.reduced.ensures.measured (2 * v + 2 ^ 32) e (omega (arith, b)) d

pub returns-clause-early : goal.returns-clause-early
returns-clause-early g c = c.reduced.ensures.elsewhere _

pub returns-in_err-there-clause-early : goal.returns-in_err-there-clause-early
returns-in_err-there-clause-early g c =
    let fails = err_from_is_err_and c.from_residual.result c.from_residual.ensures.1 in
    rw (fails.1, fails.2) (open_is_early _ _ c.in_err-there.ensures.open)
