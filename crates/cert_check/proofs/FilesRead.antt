-- Files of the grammar may be checked.
use Rattle.std.proofs.Common.{◌≡◌, ℕ, List, [], ◌∷◌, length, ℤ}
use Rattle.book_model.specs.declared.fact.Fact.{Fact}
use Rattle.oracle_core.specs.Pairs.{AreFactValues}
use Rattle.cert_parser.specs.declared.lines.CertFile.{CertFile}
use Rattle.cert_parser.specs.Reading.{file, grammar_of}
use Rattle.cert_parser.proofs.ReadFiles.{HaveKnownValues, grammar_well, numbers_at, rule_at}
use Rattle.cert_check.specs.Verdicts.{values_of, IsCheckable}

values_known : (es : List (Fact × ℤ)) → HaveKnownValues es → AreFactValues (values_of es)
values_known [] all = tt
values_known (e ∷ es) all = (all.0.0, all.0.1, values_known es all.1)

-- a file of the grammar may be checked
pub read_checkable : (bytes : List ℕ) (f : CertFile) → grammar_of bytes ≡ file f → IsCheckable f
read_checkable bytes f h =
    let well = grammar_well bytes f h in
    record {
      distinct = well.distinct;
      known = values_known f.facts well.known;
      numbers = λ index. numbers_at (length f.facts) f.lines index well.lines;
      ruled = λ index within. rule_at f.lines index well.ruled within;
    }
