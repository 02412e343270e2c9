use Rattle.std.proofs.Common.{refl}
use Rattle.oracle_core.proofs.FactLemmas.{same_any, same_position}
use Rattle.conversion.proofs.NumberLemmas.{new_number}
use Rattle.conversion.proofs.numbering.number_in.Goals as goal

pub returns-clause-seen : goal.returns-clause-seen
returns-clause-seen c = rw (← same_any c.args.fact c.args.facts.now.keys) c.in_ok-index.ensures.keys

pub returns-clause-number : goal.returns-clause-number
returns-clause-number c = rw (
  ← same_position c.args.fact c.args.facts.now.keys,
  c.in_ok-number.ensures.number,
  c.in_ok-index.ensures.index,
) refl

pub returns-clause-new : goal.returns-clause-new
returns-clause-new c = rw (← same_any c.args.fact c.args.facts.now.keys) c.in_ok-index.ensures.added

pub returns-clause-last : goal.returns-clause-last
returns-clause-last c =
    new_number _ c.args.facts.now.keys _ _ _ c.in_ok-index.ensures.added c.in_ok-index.ensures.index
    c.in_ok-number.ensures.number
