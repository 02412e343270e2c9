-- What is read and written where a file is upgraded. By cases of the one test that the definition makes, of the header:
-- under another header the bytes are read by the grammar, which says that each refused line names a rule. What is
-- written is passed on with the file that was read.
use Rattle.std.proofs.Common.{◌≡◌, ℕ, Bool, true, false, List, [], ◌∷◌, All}
use Rattle.std.proofs.lemmas.List.Elements.{All-cons, All-nil}
use Rattle.std.specs.Prelude.{if◌then◌else◌}
use Rattle.std.specs.declared.option.Option.{Option}
use Rattle.book_model.specs.declared.version.TheConstants.{WRITTEN}
use Rattle.book_model.specs.lines.Lines.{lines_of}
use Rattle.cert_text.specs.declared.line.CertLine.{CertLine}
use Rattle.cert_parser.specs.declared.lines.CertFile.{CertFile}
use Rattle.cert_parser.specs.Reading.{HasRule, bad, file, grammar_of}
use Rattle.cert_parser.proofs.ReadFiles.{HaveRules, grammar_well}
use Rattle.conversion.specs.Renewing.{Renewed}
use Rattle.run_core.specs.Checking.{checked}
use Rattle.run_core.specs.Upgrading.{Becomes, has_header, upgradable}

all_ruled : (ls : List CertLine) → HaveRules ls → All HasRule ls
all_ruled [] h = All-nil HasRule
all_ruled (l ∷ ls) h = All-cons HasRule l ls h.0 (all_ruled ls h.1)

-- the refused lines of a file that is upgraded name rules
pub older_ruled : (bytes : List ℕ) (f : CertFile) → upgradable bytes ≡ file f → All HasRule f.lines
unfolding upgradable
older_ruled bytes f h = by (has_header WRITTEN (lines_of bytes)) h
  where
    by : (t : Bool) → (if t then bad 1 1 else grammar_of bytes) ≡ file f → All HasRule f.lines
    by true k = cc
    by false k = let well = grammar_well bytes f k in all_ruled f.lines well.ruled

-- what comes of a file that is upgraded
pub upgrade_comes : (old new : Option (List ℕ)) (input : List ℕ) (f : CertFile) (all : Bool) → upgradable input ≡ file f
    → Renewed old new f.lines all
    → Becomes old new input (checked all)
upgrade_comes old new input f true h k = record { of = f; read = h; renewed = k }
upgrade_comes old new input f false h k = record { of = f; read = h; renewed = k }
