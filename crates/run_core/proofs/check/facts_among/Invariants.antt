use Rattle.std.proofs.Common.{◌≡◌, ◌++◌, drop, map}
use Rattle.run_core.proofs.check.facts_among.Given as goal

-- the facts so far, and those of the pairs that are left
abbrev pub invariant-loop-pair : goal.invariant-loop-pair
invariant-loop-pair l = l.facts.items ++ map (λ pair. pair.0) (drop l.pair-index l.pairs) ≡ map (λ pair. pair.0) l.pairs
