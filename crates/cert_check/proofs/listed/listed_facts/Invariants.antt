use Rattle.std.proofs.Common.{◌≡◌, ◌++◌, drop}
use Rattle.oracle_core.specs.Pairs.{facts_of}
use Rattle.cert_check.specs.Verdicts.{numbered}
use Rattle.cert_check.proofs.listed.listed_facts.Given as goal

-- the facts so far, and those with the numbers that are left
abbrev pub invariant-loop-number : goal.invariant-loop-number
invariant-loop-number l = l.listed.items ++ facts_of (numbered l.facts (drop l.number-index l.numbers)) ≡ facts_of
    (numbered l.facts l.numbers)
