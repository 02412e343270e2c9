use Rattle.std.proofs.Common.{arith}
use Rattle.book_model.proofs.WordTables.{value_placed}
use Rattle.line_core.proofs.result.fact_on.Goals as goal

pub unwrap-requires : goal.unwrap-requires
unwrap-requires c = grind (arith, value_placed)

pub returns : goal.returns
returns c = record { fact = grind (arith, value_placed) }
