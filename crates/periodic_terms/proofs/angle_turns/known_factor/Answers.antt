use Rattle.std.proofs.Common.{arith, pos, ◌^◌, ◌*◌, refl}
use Rattle.std.proofs.lemmas.Int.{ints}
use Rattle.periodic_terms.proofs.FoundTurns.{factor_found}
use Rattle.periodic_terms.proofs.Narrowing.{endpoints_of, factor_span, some_span}
use Rattle.periodic_terms.proofs.angle_turns.known_factor.Goals as goal

pub returns-clause-near : goal.returns-clause-near
returns-clause-near g c =
    factor_found g.E.Enclosure.shown c.args.factor _ _ c.factor_of_span.result c.in_ok-span.ensures.holds
    c.factor_of_span.ensures.low c.factor_of_span.ensures.high

pub returns-in_err-span-clause-some : goal.returns-in_err-span-clause-some
returns-in_err-span-clause-some g c = λ h. absurd (some_span _ _ _ _ (c.in_err-span.ensures.none refl) h)

pub returns-clause-some : goal.returns-clause-some
returns-clause-some g c = λ h.
    c.factor_of_span.ensures.some (factor_span (pos (2 ^ 30)) (pos (39 * 2 ^ 27)) (2 ^ 26) _ _ (omega (arith, ints))
    (omega (arith, ints)) (omega arith)
    (endpoints_of (pos (2 ^ 30)) (pos (39 * 2 ^ 27)) (2 ^ 26) _ _ _ c.in_ok-span.span.ordered c.in_ok-span.ensures.holds
    c.in_ok-span.ensures.tight h))
