-- What three words ask, by the line that they are with single spaces. The line isn't built: its length is the sum of
-- the words' and two, its bytes are plain and its words are the three by SpacedWords, so that the lemmas of Requests
-- apply to it.
use Rattle.std.proofs.Common.{◌≡◌, ℕ, ◌+◌, true, false, List, [], ◌∷◌, ◌++◌, length, length-append, append-nil, refl}
use Rattle.std.proofs.Common.{arith}
use Rattle.std.specs.List.{list_all}
use Rattle.std.specs.Prelude.{nat_le, Err}
use Rattle.book_model.specs.declared.request.Rule.TheVariants.{Syntax}
use Rattle.book_model.specs.declared.version.Version.{Version}
use Rattle.book_model.specs.lines.Lines.{IsWord, is_plain, words_of}
use Rattle.book_model.specs.lines.Requests.{request_of, with_words}
use Rattle.book_model.specs.lines.Text.{three_words_text}
use Rattle.book_model.specs.lines.Words.{from_word_in, to_word_in}
use Rattle.line_core.proofs.Requests.{is_readable, asked_unreadable, asked_three}
use Rattle.line_core.proofs.SpacedWords.{spaced, plain_line, words_read}

-- the line, by its first word and the others
pub text_spaced : (from date to : List ℕ) → three_words_text from date to ≡ from ++ spaced (date ∷ to ∷ [])
unfolding three_words_text
text_spaced from date to = simp append-nil

-- how long it is
pub text_length : (from date to : List ℕ) → length (three_words_text from date to) ≡ length from + length date
    + length to + 2
unfolding three_words_text
text_length from date to = omega (arith, length-append {A = ℕ})

-- a long line breaks the first rule
pub asked_long : (version : Version) (from date to : List ℕ) → nat_le (length (three_words_text from date to)) 200
    ≡ false → Err Syntax
    ≡ request_of version (three_words_text from date to)
asked_long version from date to long =
    let unread : is_readable (three_words_text from date to) ≡ false = rw long refl in
    asked_unreadable version (three_words_text from date to) unread

-- any other asks what the words ask
pub asked_words : (version : Version) (from date to : List ℕ) → IsWord from → IsWord date → IsWord to
    → nat_le (length (three_words_text from date to)) 200
    ≡ true
    → with_words version (from_word_in version from) date (to_word_in version to) ≡ request_of version
    (three_words_text from date to)
asked_words version from date to f d t short =
    let same = text_spaced from date to in
    let plain : list_all is_plain (three_words_text from date to) ≡ true =
    rw same (plain_line from (date ∷ to ∷ []) f (d, (t, tt))) in
    let words : words_of (three_words_text from date to) ≡ from ∷ date ∷ to ∷ [] =
    rw same (words_read from (date ∷ to ∷ []) f (d, (t, tt))) in
    let read : is_readable (three_words_text from date to) ≡ true = rw (short, plain) refl in
    asked_three version (three_words_text from date to) from date to read words
