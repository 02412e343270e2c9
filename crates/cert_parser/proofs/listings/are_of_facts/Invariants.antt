use Rattle.std.proofs.Common.{length}
use Rattle.cert_parser.proofs.Marking.{Marking}
use Rattle.cert_parser.proofs.listings.are_of_facts.Given as goal

-- the marks tell the numbers before this one
abbrev pub invariant-loop-number : goal.invariant-loop-number
invariant-loop-number l = Marking (length l.fn.marks) l.line l.numbers l.number-index l.marks
