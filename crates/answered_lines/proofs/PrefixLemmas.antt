-- A line of which only a prefix is kept. A prefix of 202 bytes is refused by the first rule, as the line is; so the
-- answer to what is kept of a line is the answer to the line.
use Rattle.std.proofs.Common.{◌≡◌, ◌∙◌, sym, ap, refl, ℕ, ◌+◌, ◌-◌, ◌<◌, ◌≤◌, ◌==◌, Bool, true, false, List, [], ◌∷◌}
use Rattle.std.proofs.Common.{◌++◌, length, map, take, arith}
use Rattle.std.proofs.lemmas.Bool.Decides.{nat_tests}
use Rattle.std.proofs.lemmas.List.{length-map, length-take, map-append, take-map, take_all}
use Rattle.std.specs.Prelude.{if◌then◌else◌, nat_lt, nat_le, slice_index, Err}
use Rattle.std.specs.declared.option.Option.{Option}
use borrow.Author.Tests.{ltb-true, ltb-false}
use Rattle.book_model.specs.declared.request.Rule.TheVariants.{Syntax}
use Rattle.book_model.specs.declared.version.TheConstants.{WRITTEN}
use Rattle.book_model.specs.lines.Lines.{lines_of, raw_lines, without_return}
use Rattle.book_model.specs.lines.Outcomes.{LineOutcome, refused, IsRightFor, AreRight}
use Rattle.book_model.specs.lines.Requests.{request_of}
use Rattle.answered_lines.specs.Below.{answer_text}
use Rattle.answered_lines.specs.Lines.{PREFIX, ended_lines, last_line, kept_lines, kept_prefix, plain_lines}
use Rattle.answered_lines.specs.Answers.{answers_text, AnswersAll, AnswersCut}
use Rattle.answered_lines.proofs.LineLemmas.{kept-ended, kept_input}

-- at most one byte is dropped
length-without_return : (line : List ℕ) → length line ≤ length (without_return line) + 1
length-without_return line = by (slice_index line (length line - 1) == 13)
  where
    by : (t : Bool) → length line ≤ length (if t then take (length line - 1) line else line) + 1
    by true = omega (arith, length-take (length line - 1) line)
    by false = omega arith

-- a line of more than 200 bytes breaks the first rule
long_refused : (line : List ℕ) → 200 < length line → request_of WRITTEN line ≡ Err Syntax
unfolding request_of
long_refused line h = let long : nat_le (length line) 200 ≡ false = grind (arith, nat_tests) in rw long refl

-- what is right for a long line is its refusal
long_right : (line : List ℕ) (o : LineOutcome) → 200 < length line → IsRightFor WRITTEN line o → o ≡ refused Syntax
long_right line o h right = rw (long_refused line h) at right

right_long : (line : List ℕ) (o : LineOutcome) → 200 < length line → o ≡ refused Syntax → IsRightFor WRITTEN line o
right_long line o h is = rw (long_refused line h) is

-- the answer to the prefix of a line is the answer to the line
record IsAnswerOf (line kept : List ℕ) (o : LineOutcome) : Type 0 where
  right : IsRightFor WRITTEN line o
  text : answer_text line o ≡ answer_text kept o

prefix_answers : (line : List ℕ) (o : LineOutcome) → IsRightFor WRITTEN (without_return (take PREFIX line)) o
    → IsAnswerOf (without_return line) (without_return (take PREFIX line)) o
prefix_answers line o h = by (nat_lt PREFIX (length line)) refl
  where
    by : (t : Bool) → nat_lt PREFIX (length line) ≡ t
        → IsAnswerOf (without_return line) (without_return (take PREFIX line)) o
    by true e =
        let long : PREFIX < length line = ltb-true _ _ e in
        let whole : 200 < length (without_return line) = omega (arith, length-without_return line) in
        let kept : 200 < length (without_return (take PREFIX line)) =
        omega (arith, length-without_return (take PREFIX line), length-take PREFIX line) in
        let is : o ≡ refused Syntax = long_right (without_return (take PREFIX line)) o kept h in
        record { right = right_long (without_return line) o whole is; text = rw is refl }
    by false e =
        let short : length line ≤ PREFIX = ltb-false _ _ e in
        let same : take PREFIX line ≡ line = take_all PREFIX line short in
        record { right = rw same at h; text = ap (λ l. answer_text (without_return l) o) (sym same) }

-- so it is for each of many
right_prefixes : (lines : List (List ℕ)) (os : List LineOutcome)
    → AreRight WRITTEN (plain_lines (map (take PREFIX) lines)) os
    → AreRight WRITTEN (plain_lines lines) os
right_prefixes [] [] h = tt
right_prefixes [] (o ∷ os) h = absurd h
right_prefixes (l ∷ lines) [] h = absurd h
right_prefixes (l ∷ lines) (o ∷ os) h = let answer = prefix_answers l o h.0 in
    (answer.right, right_prefixes lines os h.1)

text_prefixes : (lines : List (List ℕ)) (os : List LineOutcome)
    → AreRight WRITTEN (plain_lines (map (take PREFIX) lines)) os
    → answers_text (plain_lines lines) os ≡ answers_text (plain_lines (map (take PREFIX) lines)) os
text_prefixes [] [] h = refl
text_prefixes [] (o ∷ os) h = absurd h
text_prefixes (l ∷ lines) [] h = absurd h
text_prefixes (l ∷ lines) (o ∷ os) h =
    let answer = prefix_answers l o h.0 in
    let here : answer_text (without_return l) o ≡ answer_text (without_return (take PREFIX l)) o = answer.text in
    rw (here, text_prefixes lines os h.1) refl

all_prefixes : (a b : Option (List ℕ)) (lines : List (List ℕ)) → AnswersAll a b (plain_lines (map (take PREFIX) lines))
    → AnswersAll a b (plain_lines lines)
all_prefixes a b lines h = record {
  outcomes = h.outcomes;
  right = right_prefixes lines h.outcomes h.right;
  written = rw (text_prefixes lines h.outcomes h.right) h.written;
}

cut_prefixes : (a b : Option (List ℕ)) (lines : List (List ℕ)) → AnswersCut a b (plain_lines (map (take PREFIX) lines))
    → AnswersCut a b (plain_lines lines)
cut_prefixes a b lines h =
    let n = h.count in
    let kept : take n (plain_lines (map (take PREFIX) lines)) ≡ plain_lines (map (take PREFIX) (take n lines)) =
    take-map without_return n (map (take PREFIX) lines) ∙ ap plain_lines (take-map (take PREFIX) n lines) in
    let first : take n (plain_lines lines) ≡ plain_lines (take n lines) = take-map without_return n lines in
    let right : AreRight WRITTEN (plain_lines (map (take PREFIX) (take n lines))) h.outcomes = rw kept at h.right in
    record {
      count = n;
      within = omega (
        arith,
        h.within,
        length-map (map (take PREFIX) lines) without_return,
        length-map lines
            (take PREFIX),
        length-map lines without_return,
      );
      outcomes = h.outcomes;
      right = rw first (right_prefixes (take n lines) h.outcomes right);
      prefix = rw (first, text_prefixes (take n lines) h.outcomes right) (rw kept at h.prefix);
    }

-- ---- of an input
-- what was kept of the lines that ended is answered, so these lines are
pub ended_answered : (a b : Option (List ℕ)) (input : List ℕ) → AnswersAll a b (plain_lines (kept_lines [] input))
    → AnswersAll a b (plain_lines (ended_lines [] input))
ended_answered a b input h =
    let kept : kept_lines [] input ≡ map (take PREFIX) (ended_lines [] input) = kept-ended [] input in
    all_prefixes a b (ended_lines [] input) (rw kept at h)

-- so are all lines of an input
pub input_answered : (a b : Option (List ℕ)) (input : List ℕ)
    → AnswersAll a b (plain_lines (kept_lines [] input) ++ plain_lines (last_line (kept_prefix [] input)))
    → AnswersAll a b (lines_of input)
input_answered a b input h =
    all_prefixes a b (raw_lines input)
    (rw (← map-append without_return (kept_lines [] input) (last_line (kept_prefix [] input)), kept_input input) at
    h)

pub input_cut : (a b : Option (List ℕ)) (input : List ℕ)
    → AnswersCut a b (plain_lines (kept_lines [] input) ++ plain_lines (last_line (kept_prefix [] input)))
    → AnswersCut a b (lines_of input)
input_cut a b input h =
    cut_prefixes a b (raw_lines input)
    (rw (← map-append without_return (kept_lines [] input) (last_line (kept_prefix [] input)), kept_input input) at
    h)
