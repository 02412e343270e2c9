use Rattle.std.proofs.Common.{arith}
use Rattle.book_model.proofs.WordTables.{day_placed}
use Rattle.line_core.proofs.result.named_fact.Goals as goal

pub unwrap-requires : goal.unwrap-requires
unwrap-requires c = grind (arith, day_placed)

pub returns : goal.returns
returns c = record { fact = grind (arith, day_placed) }
