use Rattle.std.proofs.Common.{length, arith}
use Rattle.cert_check.specs.Verdicts.{numbered}
use Rattle.cert_check.proofs.Numbers.{numbers_within, numbers_apart, few_numbers}
use Rattle.cert_check.proofs.Entries.{as_many_values, as_many_listed, listed_distinct, listed_known}
use Rattle.cert_check.proofs.check.verdict_for.Goals as goal

pub first_reason-requires-clause-numbers : goal.first_reason-requires-clause-numbers
first_reason-requires-clause-numbers c = numbers_within _ _ _ c.requires.numbers

pub listed_facts-requires : goal.listed_facts-requires
listed_facts-requires c = record { numbers = numbers_within _ _ _ c.requires.numbers }

pub listed_values-requires : goal.listed_values-requires
listed_values-requires c = record { numbers = numbers_within _ _ _ c.requires.numbers }

pub verdict_over-requires-clause-same : goal.verdict_over-requires-clause-same
verdict_over-requires-clause-same c =
    rw (
      c.deref.ensures.value,
      c.deref-in-None.ensures,
      c.in_ok-facts-in-None.ensures.facts,
      c.in_ok-values-in-None.ensures.values,
    )
    (as_many_values (numbered c.args.file.now.facts c.args.numbers.now))

pub verdict_over-requires-clause-distinct : goal.verdict_over-requires-clause-distinct
verdict_over-requires-clause-distinct c =
    rw (c.deref.ensures.value, c.in_ok-facts-in-None.ensures.facts)
    (listed_distinct c.args.file.now.facts (length c.args.file.now.facts) c.args.numbers.now c.requires.distinct
    (numbers_within _ _ _ c.requires.numbers)
    (numbers_apart _ _ _ c.requires.numbers))

pub verdict_over-requires-clause-known : goal.verdict_over-requires-clause-known
verdict_over-requires-clause-known c = rw (c.deref-in-None.ensures, c.in_ok-values-in-None.ensures.values)
    (listed_known c.args.file.now.facts c.args.numbers.now c.requires.known)

pub verdict_over-requires-clause-few : goal.verdict_over-requires-clause-few
verdict_over-requires-clause-few c =
    let numbers = few_numbers (length c.args.file.now.facts) c.args.numbers.now c.requires.numbers
    (λ i h. omega (arith, c.type_inv.numbers i)) in
    let facts = as_many_listed c.args.file.now.facts c.args.numbers.now in
    rw (c.deref.ensures.value, c.in_ok-facts-in-None.ensures.facts) (omega (arith, numbers, facts))
