use Rattle.std.proofs.Common.{arith}
use Rattle.cert_check.proofs.Numbers.{number_at}
use Rattle.cert_check.proofs.listed.first_reason.Goals as goal

pub overflow_sub-index : goal.overflow_sub-index
overflow_sub-index c = (number_at _ _ _ 0 c.requires.numbers c.loop-number-test.true).first

pub item-requires : goal.item-requires
item-requires c =
    let n = number_at _ _ _ 0 c.requires.numbers c.loop-number-test.true in
    record { within = omega (arith, n.first, n.last) }

pub item-requires-in-loop-number : goal.item-requires-in-loop-number
item-requires-in-loop-number c =
    let n = number_at _ _ _ 0 c.requires.numbers c.loop-number-test.true in
    record { within = omega (arith, n.first, n.last, c.requires.answered) }
