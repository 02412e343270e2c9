use Rattle.std.proofs.Common.{rules, ◌≡◌, to_z, of_z, w64, arith}
use Rattle.cert_check.proofs.Entries.{values_on}
use Rattle.cert_check.proofs.Numbers.{number_at}
use Rattle.cert_check.proofs.listed.listed_values.Goals as goal

pub overflow_sub-number : goal.overflow_sub-number
overflow_sub-number c = (number_at _ _ _ 0 c.requires.numbers c.loop-number-test.true).first

pub item-requires : goal.item-requires
item-requires c =
    let n = number_at _ _ _ 0 c.requires.numbers c.loop-number-test.true in
    record { within = omega (arith, n.first, n.last) }

pub loop-number-preserved : goal.loop-number-preserved
loop-number-preserved c =
    let value : to_z w64 (of_z w64 c.item.result.now.1) ≡ c.item.result.now.1 = search rules in
    values_on _ _ _ 0 _ _ _ c.loop-number-test.true c.item.ensures.item c.loop-number.invariant
    (rw value at c.in_ok-push.ensures.ok)
