use Rattle.std.proofs.Common.{rules}
use Rattle.std.proofs.lemmas.Int.{wraps}
use Rattle.periodic_terms.proofs.rows_by_time.turns_made.Goals as goal

pub returns : goal.returns
returns c = record { value = search (rules, wraps) }
