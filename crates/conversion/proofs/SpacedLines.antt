-- A line that is three words with single spaces between them is echoed as it stands.
use Rattle.std.proofs.Common.{◌≡◌, ℕ, List, [], ◌∷◌, append_assoc, append-nil}
use Rattle.book_model.specs.lines.Lines.{IsWord, words_of}
use Rattle.book_model.specs.lines.Text.{echo_text, three_words_text}
use Rattle.conversion.proofs.EchoLemmas.{echo_words}
use Rattle.conversion.specs.Rows.{echo_prefix}

three_echoed : (number : ℕ) (from date to : List ℕ) → echo_prefix number (three_words_text from date to) ≡ echo_text
    number (from ∷ date ∷ to ∷ [])
unfolding echo_text three_words_text
three_echoed number from date to = simp (append_assoc, append-nil)

-- by the words that it is
pub line_echoed : (number : ℕ) (line from date to : List ℕ) → line ≡ three_words_text from date to → IsWord from
    → IsWord date → IsWord to
    → echo_prefix number line ≡ echo_text number (words_of line)
line_echoed number line from date to e f d t = rw (e, echo_words from date to f d t) (three_echoed number from date to)
