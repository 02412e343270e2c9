-- The words of a line that breaks no rule. Such a line is plain (Requests), and each byte of a plain line that isn't
-- blank is one that a word may hold, so SpacedWords says it of all its words.
use Rattle.std.specs.Prelude.{◌≡◌, ℕ, nat_le, List, length, Ok}
use Rattle.std.specs.List.{list_all}
use Rattle.book_model.specs.declared.request.Request.{Request}
use Rattle.book_model.specs.declared.version.Version.{Version}
use Rattle.book_model.specs.lines.Lines.{is_plain, words_of, AreWords}
use Rattle.book_model.specs.lines.Requests.{request_of}
use Rattle.line_core.proofs.Requests.{asked_readable}
use Rattle.line_core.proofs.SpacedWords.{both, plain_words}

-- each is one byte or more from 0x21 to 0x7E
pub asked_are_words : (version : Version) (line : List ℕ) (r : Request) → request_of version line ≡ Ok r
    → AreWords (words_of line)
asked_are_words version line r h = plain_words line (both (nat_le (length line) 200) (list_all is_plain line)
    (asked_readable version line r h)).1
