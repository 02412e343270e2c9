use Rattle.std.proofs.Common.{arith, ◌∷◌, ◌-◌, ℤ, SFits, w64}
use Rattle.std.proofs.lemmas.Int.{ints, to_z-of_z}
use Rattle.oracle_core.proofs.Inquiring.{asking, inquires_ask}
use Rattle.chinese_cal.specs.Walks.{months_back}
use Rattle.chinese_cal.proofs.WalkLemmas.{one_back}
use Rattle.chinese_cal.proofs.walk.+walk_back.Goals as goal

pub returns-clause-back : goal.returns-clause-back
returns-clause-back g r c =
    let ff = c.ranges.first in
    let fm = c.ranges.month in
    let here = c.in_ok-before.ensures {u = tt} in
    let fb : SFits w64 c.in_ok-before.before = omega (arith, ints, here.value.0, here.value.1) in
    let next = λ (before : ℤ). months_back (c.args.calls - 1) c.args.first before (c.args.month ∷ c.args.later) in
    let asks = simp to_z-of_z at rw c.moon_before.ensures.fact at here.asks in
    let rest = simp to_z-of_z at rw c.with_earlier.ensures.months at c.walk_back.ensures.back in
    let not_past = simp to_z-of_z at c.if-month-first.false in
    rw (one_back c.args.calls c.args.first c.args.month c.args.later (omega (arith, c.if-calls-eq0.false)) not_past)
    (inquires_ask next asks rest)

pub returns-then-calls-eq0-clause-back : goal.returns-then-calls-eq0-clause-back
unfolding months_back
returns-then-calls-eq0-clause-back g r c = grind (arith, asking)

pub returns-then-month-first-clause-back : goal.returns-then-month-first-clause-back
unfolding months_back
returns-then-month-first-clause-back g r c = grind (arith, asking)

pub returns-in_err-before-clause-back : goal.returns-in_err-before-clause-back
unfolding months_back
returns-in_err-before-clause-back g r c = grind (arith, asking)
