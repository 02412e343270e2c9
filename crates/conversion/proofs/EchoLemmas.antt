-- What is echoed, and what may stand for a line.
use Rattle.std.proofs.Common.{◌≡◌, ℕ, zero, suc, ◌<◌, ℤ, List, [], ◌∷◌, length, get_or, map, refl, ap, arith}
use Rattle.std.specs.List.{AllZip}
use Rattle.book_model.specs.declared.fact.Fact.{Fact}
use Rattle.book_model.specs.declared.request.Resolved.{Resolved}
use Rattle.book_model.specs.declared.version.TheConstants.{WRITTEN}
use Rattle.book_model.specs.lines.Lines.{IsWord, words_of}
use Rattle.book_model.specs.lines.Outcomes.{LineOutcome, refused, resolved, undecided, void, IsRightFor, AreRight}
use Rattle.book_model.specs.lines.Text.{echo_text, three_words_text}
use Rattle.jobs_core.specs.declared.outcome.Outcome.{Outcome}
use Rattle.jobs_core.specs.Outcomes.{line_outcome}
use Rattle.line_core.proofs.SingleSpaces.{text_spaced}
use Rattle.line_core.proofs.SpacedWords.{words_read}
use Rattle.conversion.specs.Echoes.{MayStand}
use Rattle.conversion.specs.Rows.{words_echo}
use Rattle.conversion.proofs.RightLemmas.{three_words_found}
use Rattle.conversion.proofs.RowLemmas.{words_echoed}

-- the words of an echo are those of the line that they are with single spaces
pub echo_words : (from date to : List ℕ) → IsWord from → IsWord date → IsWord to
    → words_of (three_words_text from date to) ≡ from ∷ date ∷ to ∷ []
echo_words from date to f d t = rw (text_spaced from date to) (words_read from (date ∷ to ∷ []) f (d, (t, tt)))

-- and they are echoed as that line's
pub echo_echoed : (number : ℕ) (from date to : List ℕ) → IsWord from → IsWord date → IsWord to
    → words_echo number from date to ≡ echo_text number (words_of (three_words_text from date to))
echo_echoed number from date to f d t = rw (echo_words from date to f d t) (words_echoed number from date to)

-- what is right for a line may stand for it
pub right_stands : (l : List ℕ) (o : LineOutcome) → IsRightFor WRITTEN l o → MayStand l o
right_stands l (refused rule) h = tt
right_stands l (resolved x facts) h = three_words_found l (resolved x facts) x facts refl h
right_stands l (undecided f u) h = tt
right_stands l (void f s) h = tt

pub right_stand : (lines : List (List ℕ)) (os : List LineOutcome) → AreRight WRITTEN lines os → AllZip MayStand lines os
right_stand [] [] h = tt
right_stand [] (o ∷ os) h = absurd h
right_stand (l ∷ lines) [] h = absurd h
right_stand (l ∷ lines) (o ∷ os) h = (right_stands l o h.0, right_stand lines os h.1)

-- as many stand as there are lines
pub stand_length : (lines : List (List ℕ)) (os : List LineOutcome) → AllZip MayStand lines os → length lines ≡ length os
stand_length [] [] h = refl
stand_length [] (o ∷ os) h = absurd h
stand_length (l ∷ lines) [] h = absurd h
stand_length (l ∷ lines) (o ∷ os) h = ap suc (stand_length lines os h.1)

stands_place : (lines : List (List ℕ)) (os : List Outcome) (i : ℕ) (d : List ℕ) (e : Outcome) → i < length lines
    → i < length os
    → AllZip MayStand lines (map line_outcome os) → MayStand (get_or lines i d) (line_outcome (get_or os i e))
stands_place [] os i d e h k all = absurd (omega arith)
stands_place (l ∷ lines) [] i d e h k all = absurd (omega arith)
stands_place (l ∷ lines) (o ∷ os) zero d e h k all = all.0
stands_place (l ∷ lines) (o ∷ os) (suc i) d e h k all = stands_place lines os i d e (omega arith) (omega arith) all.1

-- each may stand at its place
pub stands_at : (lines : List (List ℕ)) (os : List Outcome) (i : ℕ) (d : List ℕ) (o : Outcome) → i < length lines
    → i < length os → o ≡ get_or os i o
    → AllZip MayStand lines (map line_outcome os) → MayStand (get_or lines i d) (line_outcome o)
stands_at lines os i d o h k e all = let stands = stands_place lines os i d o h k all in rw (← e) at stands

-- a result stands for a line of three words
pub three_words_stand : (l : List ℕ) (o : LineOutcome) (x : Resolved) (facts : List (Fact × ℤ)) → o ≡ resolved x facts
    → MayStand l o
    → length (words_of l) ≡ 3
three_words_stand l o x facts e h = rw e at h
