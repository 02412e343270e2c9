-- The text that is written for a line of input: its new facts, and then the line.
use Rattle.std.specs.Prelude.{ℕ, ◌+◌, List, [], ◌∷◌, ◌++◌, codes, ℤ}
use Rattle.book_model.specs.declared.fact.Fact.{Fact}
use Rattle.book_model.specs.lines.Text.{fact_text, refused_text, undecided_text, void_text, listed_text}
pub use Rattle.book_model.specs.lines.Text.{too_far_text, no_date_text}
use Rattle.cert_text.specs.declared.line.CertLine.{CertLine}
use Rattle.cert_text.specs.declared.line.CertLine.TheVariants.{Shown, TooFar, NoDate, Refused, Undecided, Void}
use Rattle.cert_text.specs.Echo.{Echo}
use Rattle.cert_text.specs.declared.line.Block.{Block}

-- facts numbered from the first
abbrev pub fact_texts : ℕ → List (Fact × ℤ) → List ℕ
fact_texts number [] = []
fact_texts number (e ∷ es) = fact_text number e.0 e.1 ++ fact_texts (number + 1) es

-- FROM DATE TO
abbrev pub words_in : Echo → List (List ℕ)
words_in echo = echo.from ∷ echo.date ∷ echo.to ∷ []

-- a line with its number
abbrev pub line_text : ℕ → CertLine → List ℕ
line_text number (Shown echo result facts) = listed_text number (words_in echo) result facts
line_text number (TooFar echo day facts) = listed_text number (words_in echo) (too_far_text day) facts
line_text number (NoDate echo back facts) = listed_text number (words_in echo) (no_date_text back) facts
line_text number (Refused rule) = refused_text number rule
line_text number (Undecided fact at) = undecided_text (codes "line ") number fact at
line_text number (Void fact site) = void_text (codes "line ") number fact site

-- the new facts, and then the line
abbrev pub block_text : Block → List ℕ
block_text block = fact_texts block.first block.facts ++ line_text block.number block.line
