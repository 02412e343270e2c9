-- A text is at least as long as it has facts and lines.
use Rattle.std.proofs.Common.{ℕ, ◌+◌, ◌≤◌, ◌<◌, List, [], ◌∷◌, length, length-append, arith}
use Rattle.std.specs.List.{flat_map}
use Rattle.std.specs.Prelude.{ℤ}
use Rattle.book_model.specs.declared.fact.Fact.{Fact}
use Rattle.book_model.specs.lines.Text.{fact_text, echo_text, refused_text}
use Rattle.cert_text.specs.declared.line.CertLine.{CertLine}
use Rattle.cert_text.specs.declared.line.CertLine.TheVariants.{Shown, TooFar, NoDate, Refused, Undecided, Void}
use Rattle.cert_text.specs.declared.line.Block.{Block}
use Rattle.cert_text.specs.Text.{fact_texts, line_text, block_text}
use Rattle.cert_parser.specs.ReadAgain.{facts_of}

fact_length : (n : ℕ) (f : Fact) (v : ℤ) → 0 < length (fact_text n f v)
unfolding fact_text
fact_length n f v = omega arith

line_length : (n : ℕ) (line : CertLine) → 0 < length (line_text n line)
unfolding echo_text refused_text
line_length n (Shown echo result facts) = omega arith
line_length n (TooFar echo day facts) = omega arith
line_length n (NoDate echo back facts) = omega arith
line_length n (Refused rule) = omega arith
line_length n (Undecided fact at) = omega arith
line_length n (Void fact site) = omega arith

facts_length : (n : ℕ) (es : List (Fact × ℤ)) → length es ≤ length (fact_texts n es)
facts_length n [] = omega arith
facts_length n (e ∷ es) = omega (
  arith,
  fact_length n e.0 e.1,
  facts_length (n + 1) es,
  length-append (fact_text n e.0 e.1) (fact_texts (n + 1) es),
)

-- as many bytes as facts and lines
pub blocks_length : (bs : List Block) → length (facts_of bs) + length bs ≤ length (flat_map block_text bs)
blocks_length [] = omega arith
blocks_length (b ∷ bs) =
    omega (
      arith,
      facts_length b.first b.facts,
      line_length b.number b.line,
      blocks_length bs,
      length-append b.facts (facts_of bs),
      length-append (fact_texts b.first b.facts) (line_text b.number b.line),
      length-append (block_text b) (flat_map block_text bs),
    )
