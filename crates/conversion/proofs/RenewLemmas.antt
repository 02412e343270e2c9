-- What an upgrade makes of the lines of a certificate.
use Rattle.std.proofs.Common.{◌≡◌, ◌∙◌, ℕ, Bool, List, [], ◌∷◌, map}
use Rattle.std.specs.List.{AllZip, list_all}
use Rattle.std.specs.declared.option.Option.{Option}
use Rattle.std.specs.Io.KnownBytes.{Appends}
use Rattle.book_model.specs.lines.Outcomes.{LineOutcome, is_result}
use Rattle.book_model.specs.lines.Text.{text}
use Rattle.byte_streams.specs.Stream.{AppendsPrefix}
use Rattle.cert_text.specs.declared.line.CertLine.{CertLine}
use Rattle.cert_text.specs.declared.line.CertLine.TheVariants as line
use Rattle.jobs_core.specs.declared.outcome.Outcome.{Outcome}
use Rattle.jobs_core.specs.Outcomes.{line_outcome}
use Rattle.conversion.specs.Echoes.{MayStand, echo_line, words_in}
use Rattle.conversion.specs.Renewing.{Renews, Renewed, RenewedCutShort}
use Rattle.conversion.proofs.EchoLemmas.{right_stands}
use Rattle.conversion.proofs.RightLemmas.{all_results}

-- what an upgrade makes of a line may stand for its words
renews_stands : (l : CertLine) (o : LineOutcome) → Renews l o → MayStand (words_in l) o
renews_stands (line.Shown echo result facts) o h = right_stands (echo_line echo) o h
renews_stands (line.TooFar echo day facts) o h = right_stands (echo_line echo) o h
renews_stands (line.NoDate echo back facts) o h = right_stands (echo_line echo) o h
renews_stands (line.Refused number) o h = rw h tt
renews_stands (line.Undecided fact at) o h = rw h tt
renews_stands (line.Void fact site) o h = rw h tt

pub renews_stand : (lines : List CertLine) (os : List LineOutcome) → AllZip Renews lines os
    → AllZip MayStand (map words_in lines) os
renews_stand [] [] h = tt
renews_stand [] (o ∷ os) h = absurd h
renews_stand (l ∷ lines) [] h = absurd h
renews_stand (l ∷ lines) (o ∷ os) h = (renews_stands l o h.0, renews_stand lines os h.1)

-- what an upgrade makes of lines, by the code's outcomes
pub renewed_all : (lines : List CertLine) (os : List Outcome) → AllZip (λ l o. Renews l (line_outcome o)) lines os
    → AllZip Renews lines (map line_outcome os)
renewed_all [] [] h = tt
renewed_all [] (o ∷ os) h = absurd h
renewed_all (l ∷ lines) [] h = absurd h
renewed_all (l ∷ lines) (o ∷ os) h = (h.0, renewed_all lines os h.1)

-- lines, what an upgrade makes of them, and its text
pub renewed_whole : (old new : Option (List ℕ)) (lines : List CertLine) (os : List Outcome) (all : Bool)
    → AllZip Renews lines (map line_outcome os)
    → Appends old new (text (map words_in lines) (map line_outcome os))
    → all ≡ list_all (λ o. is_result (line_outcome o)) os → Renewed old new lines all
renewed_whole old new lines os all renews written results = record {
  outcomes = map line_outcome os;
  renews = renews;
  written = written;
  results = results ∙ all_results os;
}

-- and a prefix of it
pub renewed_cut : (old new : Option (List ℕ)) (lines : List CertLine) (os : List Outcome)
    → AllZip Renews lines (map line_outcome os)
    → AppendsPrefix old new (text (map words_in lines) (map line_outcome os)) → RenewedCutShort old new lines
renewed_cut old new lines os renews prefix = record { outcomes = map line_outcome os; renews = renews; prefix = prefix }
