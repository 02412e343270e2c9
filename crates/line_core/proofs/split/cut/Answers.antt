use Rattle.std.proofs.Common.{arith}
use Rattle.std.proofs.lemmas.List.{take_rest}
use Rattle.line_core.proofs.LineLemmas.{raw_at, raw_none}
use Rattle.line_core.proofs.split.cut.Goals as goal

pub returns-in-Some-clause-cut : goal.returns-in-Some-clause-cut
returns-in-Some-clause-cut c = simp take_rest (raw_at _ _ c.in-Some.ensures)

pub returns-in-None-clause-cut : goal.returns-in-None-clause-cut
returns-in-None-clause-cut c = let e = raw_none c.args.bytes.now c.requires c.in-None.ensures in rw e (grind (arith))
