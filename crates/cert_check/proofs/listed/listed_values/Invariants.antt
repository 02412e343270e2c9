use Rattle.std.proofs.Common.{◌≡◌, ◌++◌, drop}
use Rattle.cert_check.specs.Verdicts.{values_of, numbered}
use Rattle.cert_check.proofs.listed.listed_values.Given as goal

-- the values so far, and those with the numbers that are left
abbrev pub invariant-loop-number : goal.invariant-loop-number
invariant-loop-number l = l.listed.items ++ values_of (numbered l.facts (drop l.number-index l.numbers)) ≡ values_of
    (numbered l.facts l.numbers)
