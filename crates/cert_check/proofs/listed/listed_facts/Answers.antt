use Rattle.std.proofs.Common.{arith}
use Rattle.cert_check.proofs.Entries.{facts_on}
use Rattle.cert_check.proofs.Numbers.{number_at}
use Rattle.cert_check.proofs.listed.listed_facts.Goals as goal

pub overflow_sub-number : goal.overflow_sub-number
overflow_sub-number c = (number_at _ _ _ 0 c.requires.numbers c.loop-number-test.true).first

pub item-requires : goal.item-requires
item-requires c =
    let n = number_at _ _ _ 0 c.requires.numbers c.loop-number-test.true in
    record { within = omega (arith, n.first, n.last) }

pub loop-number-preserved : goal.loop-number-preserved
loop-number-preserved c = facts_on _ _ _ 0 _ _ _ c.loop-number-test.true c.item.ensures.item c.loop-number.invariant
    c.in_ok-push.ensures.items
