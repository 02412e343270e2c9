use Rattle.std.proofs.Common.{◌≡◌, ◌++◌, map, length}
use Rattle.book_model.specs.lines.Lines.{lines_of}
use Rattle.line_core.proofs.split.split_lines.Given as goal

abbrev pub invariant-loop-rest : goal.invariant-loop-rest
invariant-loop-rest l = map (λ line. line.now) l.lines.items ++ lines_of l.rest ≡ lines_of l.bytes

abbrev pub decreases-loop-rest : goal.decreases-loop-rest
decreases-loop-rest l = length l.rest
