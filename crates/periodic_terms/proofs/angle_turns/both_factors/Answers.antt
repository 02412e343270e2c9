use Rattle.std.proofs.Common.{arith, ◌*◌, ◌^◌}
use Rattle.periodic_terms.proofs.angle_turns.both_factors.Goals as goal

pub returns-then-greatest-gt-GREATEST_FACTOR_37-clause-some
    : goal.returns-then-greatest-gt-GREATEST_FACTOR_37-clause-some
returns-then-greatest-gt-GREATEST_FACTOR_37-clause-some c = λ p q.
    let w = c.greater_of-wide.ensures.least (2 ^ 18) p.narrow q.narrow in
    let m = c.greater_of.ensures.least (39 * 2 ^ 51) p.greatest q.greatest in
    let u = c.ceil_19.ensures.close in
    let g = c.greater_of-greatest.ensures.least (5 * 2 ^ 35) (omega arith) (omega (arith, w, m, u)) in
    omega (arith, g, c.if-greatest-gt-GREATEST_FACTOR_37.true)
