use Rattle.std.proofs.Common.{◌≡◌, length}
use Rattle.book_model.specs.lines.Lines.{words_of}
use Rattle.cert_parser.specs.Grammar.{counters_of}
use Rattle.cert_parser.proofs.Counters.{with_prefix}
use Rattle.cert_parser.proofs.found.numbers.Given as goal

-- the numbers so far, and those of the other words
abbrev pub invariant-loop-word : goal.invariant-loop-word
invariant-loop-word l = with_prefix l.numbers (counters_of (words_of l.rest)) ≡ counters_of (words_of l.line)

abbrev pub decreases-loop-word : goal.decreases-loop-word
decreases-loop-word l = length (words_of l.rest)
