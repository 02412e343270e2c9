-- What is written for a line by itself.
use Rattle.std.specs.Prelude.{◌≡◌, ℕ, Bool, List, [], ◌++◌, codes, decimal}
use Rattle.std.specs.declared.option.Option.{Option}
use Rattle.std.specs.Io.KnownBytes.{Appends}
use Rattle.book_model.specs.declared.version.TheConstants.{WRITTEN}
use Rattle.book_model.specs.lines.Outcomes.{LineOutcome, refused, resolved, undecided, void, IsRightFor, is_result}
use Rattle.book_model.specs.lines.Requests.{rule_number}
use Rattle.book_model.specs.lines.Text.{block_text, result_text}
use Rattle.byte_streams.specs.Stream.{AppendsPrefix}

-- what stands for a line where no other line stands before it: its facts, numbered from 1, and then the line, of the
-- number 1
abbrev pub answer_text : List ℕ → LineOutcome → List ℕ
answer_text line o = block_text [] 1 line o

-- the outcome of a line in a few words: its result, or `refused` with the rule and the day or date that says why,
-- `undecided` or `void`
abbrev pub brief_text : LineOutcome → List ℕ
brief_text (refused rule) = codes "refused " ++ decimal (rule_number rule)
brief_text (resolved x facts) = result_text x
brief_text (undecided f u) = codes "undecided"
brief_text (void f s) = codes "void"

-- a text of an outcome that is right for the line stands behind what the sink held
pub record Answered (text_of : LineOutcome → List ℕ) (old new : Option (List ℕ)) (line : List ℕ)
    (has_result : Bool) : Type 0 where
  pub outcome : LineOutcome
  pub right : IsRightFor WRITTEN line outcome
  pub written : Appends old new (text_of outcome)
  pub result : has_result ≡ is_result outcome

-- a prefix of such a text stands there
pub record AnswerCutShort (text_of : LineOutcome → List ℕ) (old new : Option (List ℕ)) (line : List ℕ) : Type 0 where
  pub outcome : LineOutcome
  pub right : IsRightFor WRITTEN line outcome
  pub prefix : AppendsPrefix old new (text_of outcome)
