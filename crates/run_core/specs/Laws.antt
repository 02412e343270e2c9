-- What comes of a line that is decided, and when two texts are equal.
use Rattle.std.specs.Prelude.{◌≡◌, ◌⊎◌, ℕ, Bool, true, false, List, Err, length, filter, map}
use Rattle.std.specs.List.{AllZip}
use Rattle.std.specs.declared.option.Option.{Option}
use Rattle.book_model.specs.declared.fact.Fact.{Fact}
use Rattle.book_model.specs.declared.fail.Undecided.{Undecided}
use Rattle.book_model.specs.declared.request.Rule.{Rule}
use Rattle.book_model.specs.declared.site.Site.{Site}
use Rattle.book_model.specs.declared.version.TheConstants.{WRITTEN}
use Rattle.book_model.specs.sky.Facts.{IsNear, IsVoidAt}
use Rattle.book_model.specs.lines.Outcomes.{LineOutcome, refused, IsRightFor, AreRight, RowAsks, is_resolved}
use Rattle.book_model.specs.lines.Requests.{request_of}
use Rattle.book_model.specs.lines.Text.{text}
use Rattle.oracle_core.specs.declared.evaluator.Answer.{Answer}
use Rattle.oracle_core.specs.declared.evaluator.Answer.TheVariants as answer
use Rattle.cert_text.specs.Laws.{HasNoneUndecided, is_undecided}
use Rattle.cert_text.specs.declared.line.CertLine.{CertLine}
use Rattle.cert_text.specs.declared.line.CertLine.TheVariants as line
use Rattle.conversion.specs.Counting.{is_refused, sample_text}
use Rattle.conversion.specs.Echoes.{words_in}
use Rattle.run_core.specs.Checking.{ChecksText, verdicts_of, verdicts_text}
use Rattle.run_core.specs.Commands.{sample_lines}
use Rattle.run_core.specs.Upgrading.{Upgrades}

-- no fact that the line asks is near at a test or void
pub record IsDecided (line : List ℕ) : Type 0 where
  pub not_near : (f : Fact) (u : Undecided) → RowAsks WRITTEN (request_of WRITTEN line) f → IsNear f u → ⊥
  pub not_void : (f : Fact) (s : Site) → RowAsks WRITTEN (request_of WRITTEN line) f → IsVoidAt f s → ⊥

-- the outcome is the refusal of the rule that the line breaks
pub record IsRefusal (line : List ℕ) (o : LineOutcome) : Type 0 where
  pub rule : Rule
  pub broken : request_of WRITTEN line ≡ Err rule
  pub is : o ≡ refused rule

-- where no fact that the line asks is near or void, an outcome that is right for it is a result, a refusal that was
-- found by computing, or the refusal of the rule that the line breaks
abbrev pub HasResultOrRule : List ℕ → Type 0
HasResultOrRule line = IsDecided line → (o : LineOutcome) → IsRightFor WRITTEN line o → (is_resolved o ≡ true)
    ⊎ IsRefusal line o

-- two lines of counts of a sample, none of whose lines is undecided, are equal
abbrev pub HasOneCount : (count seed : ℕ) → Type 0
HasOneCount count seed = (os ps : List LineOutcome) → AreRight WRITTEN (sample_lines count seed) os
    → AreRight WRITTEN (sample_lines count seed) ps
    → HasNoneUndecided os → HasNoneUndecided ps → sample_text count seed os ≡ sample_text count seed ps

-- no line of a sample is refused, by itself or by computing
abbrev pub HasNoRefusal : (count seed : ℕ) → Type 0
HasNoRefusal count seed = (os : List LineOutcome) → AreRight WRITTEN (sample_lines count seed) os
    → length (filter is_refused os) ≡ 0

-- what an upgrade makes of a line with words isn't undecided; a line without words may be anything, since it is copied
abbrev pub IsSettled : CertLine → LineOutcome → Type 0
IsSettled (line.Shown echo result facts) o = is_undecided o ≡ false
IsSettled (line.TooFar echo day facts) o = is_undecided o ≡ false
IsSettled (line.NoDate echo back facts) o = is_undecided o ≡ false
IsSettled (line.Refused number) o = Unit {0}
IsSettled (line.Undecided fact at) o = Unit {0}
IsSettled (line.Void fact site) o = Unit {0}

-- so it is of each line that was upgraded
abbrev pub AreSettled : {old new : Option (List ℕ)} {input : List ℕ} {all : Bool} → Upgrades old new input all → Type 0
AreSettled u = AllZip IsSettled u.of.lines u.renewed.outcomes

-- the text that an upgrade has written
abbrev pub upgraded_text : {old new : Option (List ℕ)} {input : List ℕ} {all : Bool} → Upgrades old new input all
    → List ℕ
upgraded_text u = text (map words_in u.of.lines) u.renewed.outcomes

-- two texts that bytes were upgraded to, in which no line with words is undecided, are equal
abbrev pub HasOneUpgrade : List ℕ → Type 0
HasOneUpgrade input = (old new before after : Option (List ℕ)) (all each : Bool)
    → (u : Upgrades old new input all) (v : Upgrades before after input each) → AreSettled u → AreSettled v
    → upgraded_text u ≡ upgraded_text v

-- whether a fact is answered by an undecided test
abbrev pub is_open : Answer → Bool
is_open (answer.Value v) = false
is_open (answer.Undecided at) = true
is_open (answer.Void site) = false

-- no fact of the file that was checked was answered by an undecided test
abbrev pub HasNoneOpen : {old new : Option (List ℕ)} {input : List ℕ} {all : Bool} → ChecksText old new input all
    → Type 0
HasNoneOpen c = length (filter is_open c.checks.answers) ≡ 0

-- the text that a check has written
abbrev pub checked_text : {old new : Option (List ℕ)} {input : List ℕ} {all : Bool} → ChecksText old new input all
    → List ℕ
checked_text c = verdicts_text (verdicts_of c.of c.checks.answers)

-- two texts of verdicts that were written for bytes, no fact of which was answered by an undecided test, are equal
abbrev pub HasOneCheck : List ℕ → Type 0
HasOneCheck input = (old new before after : Option (List ℕ)) (all each : Bool)
    → (c : ChecksText old new input all) (d : ChecksText before after input each) → HasNoneOpen c → HasNoneOpen d
    → checked_text c ≡ checked_text d
