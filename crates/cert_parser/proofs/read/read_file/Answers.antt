use Rattle.std.proofs.Common.{◌≡◌, ◌∷◌, length, ap, arith}
use Rattle.book_model.specs.lines.Lines.{lines_of}
use Rattle.cert_parser.proofs.LineCount.{line_count}
use Rattle.cert_parser.proofs.read.read_file.Goals as goal

pub read_lines-requires : goal.read_lines-requires
read_lines-requires c =
    let rest : lines_of c.args.bytes.now ≡ c.in-Some.first.now ∷ lines_of c.in-Some.rest.now = c.in-Some.ensures.cut in
    omega (arith, line_count c.args.bytes.now, ap length rest)
