use Rattle.std.proofs.Common.{◌≡◌, ◌+◌, false, length}
use Rattle.book_model.specs.lines.Lines.{lines_of}
use Rattle.cert_parser.specs.Agreeing.{Agrees}
use Rattle.cert_parser.specs.Reading.{reading_from}
use Rattle.cert_parser.proofs.read.read_lines.Given as goal

-- the other lines decide, each line has its number, and what the reader holds beside the file agrees with it
abbrev pub invariant-loop-line : goal.invariant-loop-line
invariant-loop-line l = record {
  goes_on : reading_from l.number l.reader.file l.reader.ended (lines_of l.rest) ≡ reading_from 2 l.initial.reader.file
      false (lines_of l.bytes);
  numbered : l.number + length (lines_of l.rest) ≡ 2 + length (lines_of l.bytes);
  agrees : Agrees l.reader.file l.reader.seen l.reader.marks.items;
}

abbrev pub decreases-loop-line : goal.decreases-loop-line
decreases-loop-line l = length (lines_of l.rest)
