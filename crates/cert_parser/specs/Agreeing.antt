-- What a reader holds beside the file that it has read so far.
use Rattle.std.specs.Prelude.{◌≡◌, ◌+◌, ℤ, ℕ, List, length, map}
use Rattle.std.specs.List.{list_any}
use Rattle.std.specs.BTreeSet.{BTreeSet}
use Rattle.book_model.specs.declared.fact.Fact.{Fact}
use Rattle.book_model.specs.calendars.Inquiries.{fact_eq}
use Rattle.cert_parser.specs.declared.lines.CertFile.{CertFile}
use Rattle.cert_parser.specs.Listings.{AreBelow}
use Rattle.cert_parser.specs.Seen.{has_fact}

-- the facts that were seen are the file's, and each of them has a mark, of no later line than the last one
pub record Agrees (file : CertFile) (seen : List (BTreeSet ℤ)) (marks : List ℕ) : Type 0 where
  pub same : (f : Fact) → has_fact seen f ≡ list_any (fact_eq f) (map (λ e. e.0) file.facts)
  pub one_each : length marks ≡ length file.facts
  pub earlier : AreBelow (length file.lines + 1) marks
