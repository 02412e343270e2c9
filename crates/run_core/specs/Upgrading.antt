-- What is written where a certificate of an older version is upgraded.
use Rattle.std.specs.Prelude.{◌≡◌, ℕ, Bool, true, false, if◌then◌else◌, List, [], ◌∷◌}
use Rattle.std.specs.declared.option.Option.{Option}
use Rattle.book_model.specs.calendars.Versions.{header_line}
use Rattle.book_model.specs.declared.version.Version.{Version}
use Rattle.book_model.specs.declared.version.TheConstants.{WRITTEN}
use Rattle.book_model.specs.lines.Lines.{lines_of}
use Rattle.byte_streams.specs.Stream.{AppendsPrefix}
use Rattle.cert_parser.specs.declared.lines.CertFile.{CertFile}
use Rattle.cert_parser.specs.Grammar.{is_word}
use Rattle.cert_parser.specs.Reading.{Reading, grammar_of, file, bad}
use Rattle.conversion.specs.Renewing.{Renewed, RenewedCutShort}
use Rattle.run_core.specs.Checking.{RefusesText, bad_text}
use Rattle.run_core.specs.declared.check.Checked.{Checked}
use Rattle.run_core.specs.declared.check.Checked.TheVariants.{AllYes, NotAll, BadText}

-- the first line is the header of a version
abbrev pub has_header : Version → List (List ℕ) → Bool
has_header version [] = false
has_header version (line ∷ lines) = is_word (header_line version) line

-- what bytes are as a file to be upgraded: one of the version that is written is none from its first line on
unfoldable pub upgradable : List ℕ → Reading
upgradable bytes = if has_header WRITTEN (lines_of bytes) then bad 1 1 else grammar_of bytes

-- the bytes are a file of an older version, and the text of what an upgrade makes of its lines stands behind what the
-- sink held
pub record Upgrades (old new : Option (List ℕ)) (input : List ℕ) (all_results : Bool) : Type 0 where
  pub of : CertFile
  pub read : upgradable input ≡ file of
  pub renewed : Renewed old new of.lines all_results

-- what comes of upgrading bytes
abbrev pub Becomes : Option (List ℕ) → Option (List ℕ) → List ℕ → Checked → Type 0
Becomes old new input AllYes = Upgrades old new input true
Becomes old new input NotAll = Upgrades old new input false
Becomes old new input BadText = RefusesText (upgradable input) old new

-- a prefix of what is written for the bytes stands there
pub data UpgradeCutShort (old new : Option (List ℕ)) (input : List ℕ) : Type 0 where
  cut_text : (f : CertFile) → upgradable input ≡ file f → RenewedCutShort old new f.lines
      → UpgradeCutShort old new input
  cut_refusal : (line rule : ℕ) → upgradable input ≡ bad line rule → AppendsPrefix old new (bad_text line rule)
      → UpgradeCutShort old new input
