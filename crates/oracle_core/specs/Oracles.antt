-- What the two oracles know, and what that says of facts.
use Rattle.std.specs.Prelude.{◌≡◌, ℤ, List, Some}
use Rattle.book_model.specs.declared.fact.Fact.{Fact}
use Rattle.oracle_core.specs.Inquiring.{Meaning, State}
use Rattle.oracle_core.specs.Pairs.{StandsWith, facts_of, FactTable, value_beside, one_value_beside, one_truth}
use Rattle.oracle_core.specs.Stops.{MayStopAsking, MayStopListed}

-- an oracle over an evaluator knows nothing of its own: a fact has the value with which it is true
abbrev pub by_evaluator : Meaning (Unit {0})
by_evaluator = record { value_of = λ k. StandsWith; kept_as = λ k f. f; may_stop = λ k. MayStopAsking }

-- its state, by the facts that were answered with their values
abbrev pub after_pairs : List (Fact × ℤ) → State (Unit {0})
after_pairs es = record { known = tt; asked = facts_of es }

-- an oracle over listed facts knows them: a fact has the value that stands beside it
abbrev pub by_table : Meaning FactTable
by_table = record {
  value_of = λ t f v. value_beside t.facts t.values f ≡ Some v;
  kept_as = λ t f. f;
  may_stop = λ t. MayStopListed t.facts;
}

-- either has one value of a fact at most
pub one_by_evaluator : (k : Unit {0}) (f : Fact) (v w : ℤ) → by_evaluator.value_of k f v → by_evaluator.value_of k f w
    → v ≡ w
one_by_evaluator k f v w = one_truth f v w

pub one_by_table : (t : FactTable) (f : Fact) (v w : ℤ) → by_table.value_of t f v → by_table.value_of t f w → v ≡ w
one_by_table t f v w = one_value_beside t.facts t.values f v w
