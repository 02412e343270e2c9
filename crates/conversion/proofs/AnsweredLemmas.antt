-- An answer that is written whole, and one that is cut.
use Rattle.std.proofs.Common.{◌≡◌, ℕ, Bool, List}
use Rattle.std.specs.declared.option.Option.{Option}
use Rattle.std.specs.Io.KnownBytes.{Appends}
use Rattle.book_model.specs.declared.version.TheConstants.{WRITTEN}
use Rattle.book_model.specs.lines.Outcomes.{LineOutcome, IsRightFor, is_result}
use Rattle.byte_streams.specs.Stream.{AppendsPrefix}
use Rattle.conversion.specs.Answering.{Answered, AnswerCutShort}

-- a line, an outcome that is right for it, and its text
pub answered : (text_of : LineOutcome → List ℕ) (old new : Option (List ℕ)) (line : List ℕ) (o : LineOutcome)
    (is : Bool) → IsRightFor WRITTEN line o
    → Appends old new (text_of o) → is ≡ is_result o → Answered text_of old new line is
answered text_of old new line o is right written result = record {
  outcome = o;
  right = right;
  written = written;
  result = result;
}

-- a line, an outcome that is right for it, and a prefix of its text
pub answer_cut : (text_of : LineOutcome → List ℕ) (old new : Option (List ℕ)) (line : List ℕ) (o : LineOutcome)
    → IsRightFor WRITTEN line o
    → AppendsPrefix old new (text_of o) → AnswerCutShort text_of old new line
answer_cut text_of old new line o right prefix = record { outcome = o; right = right; prefix = prefix }
