-- What an upgrade makes of the lines of a certificate, and what it writes.
use Rattle.std.specs.Prelude.{◌≡◌, ℕ, ◌==◌, if◌then◌else◌, Bool, List, map}
use Rattle.std.specs.List.{AllZip, list_all}
use Rattle.std.specs.declared.option.Option.{Option}
use Rattle.std.specs.Io.KnownBytes.{Appends}
use Rattle.book_model.specs.declared.request.Rule.{Rule}
use Rattle.book_model.specs.declared.request.Rule.TheVariants.{Syntax, Calendar, Field, Range}
use Rattle.book_model.specs.declared.version.TheConstants.{WRITTEN}
use Rattle.book_model.specs.lines.Outcomes.{LineOutcome, refused, undecided, void, IsRightFor, is_result}
use Rattle.book_model.specs.lines.Text.{text}
use Rattle.byte_streams.specs.Stream.{AppendsPrefix}
use Rattle.cert_text.specs.declared.line.CertLine.{CertLine}
use Rattle.cert_text.specs.declared.line.CertLine.TheVariants as line
use Rattle.conversion.specs.Echoes.{echo_line, words_in}

-- the rule of a number, from 1 to 4
abbrev pub rule_numbered : ℕ → Rule
rule_numbered n = if n == 1 then Syntax else (if n == 2 then Calendar else (if n == 3 then Field else Range))

-- what an upgrade makes of a line: an outcome that is right for its words by the version that is written; a line
-- without words stays as it is
abbrev pub Renews : CertLine → LineOutcome → Type 0
Renews (line.Shown echo result facts) o = IsRightFor WRITTEN (echo_line echo) o
Renews (line.TooFar echo day facts) o = IsRightFor WRITTEN (echo_line echo) o
Renews (line.NoDate echo back facts) o = IsRightFor WRITTEN (echo_line echo) o
Renews (line.Refused number) o = o ≡ refused (rule_numbered number)
Renews (line.Undecided fact at) o = o ≡ undecided fact at
Renews (line.Void fact site) o = o ≡ void fact site

-- the text of what an upgrade makes of lines stands behind what the sink held
pub record Renewed (old new : Option (List ℕ)) (lines : List CertLine) (all_results : Bool) : Type 0 where
  pub outcomes : List LineOutcome
  pub renews : AllZip Renews lines outcomes
  pub written : Appends old new (text (map words_in lines) outcomes)
  pub results : all_results ≡ list_all is_result outcomes

-- a prefix of such a text stands there
pub record RenewedCutShort (old new : Option (List ℕ)) (lines : List CertLine) : Type 0 where
  pub outcomes : List LineOutcome
  pub renews : AllZip Renews lines outcomes
  pub prefix : AppendsPrefix old new (text (map words_in lines) outcomes)
