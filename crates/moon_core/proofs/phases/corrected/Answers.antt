use Rattle.std.proofs.Common.{arith}
use Rattle.std.proofs.lemmas.Int.{ints}
use Rattle.moon_core.proofs.phases.corrected.Goals as goal

pub returns-clause-measured : goal.returns-clause-measured
returns-clause-measured g c = λ v e b h k.
    let l = c.in_ok-number.ensures.from in
    let u = c.in_ok-number.ensures.to in
    c.test_which_phase.ensures.measured v e b h (c.in_ok-by_time.ensures.measured (omega (arith, ints, l))
    (omega (arith, ints, u)) v e (omega (arith, b)) k)

pub returns-clause-wide : goal.returns-clause-wide
returns-clause-wide g c = λ v e b h k.
    let l = c.in_ok-number.ensures.from in
    let u = c.in_ok-number.ensures.to in
    c.test_which_phase.ensures.wide v e b h (c.in_ok-by_time.ensures.measured (omega (arith, ints, l))
    (omega (arith, ints, u)) v e (omega (arith, b)) k)
