-- What is written where a certificate is checked.
use Rattle.std.specs.Prelude.{◌≡◌, ℕ, ◌+◌, ◌<◌, Bool, true, false, List, [], ◌∷◌, ◌++◌, length, map, filter, codes}
use Rattle.std.specs.Prelude.{decimal, slice_index_or}
use Rattle.std.specs.List.{concat, list_all}
use Rattle.std.specs.declared.option.Option.{Option}
use Rattle.std.specs.Io.KnownBytes.{Appends}
use Rattle.oracle_core.specs.declared.evaluator.Answer.{Answer}
use Rattle.cert_parser.specs.declared.lines.CertFile.{CertFile}
use Rattle.cert_parser.specs.Reading.{Reading, grammar_of, file, bad}
use Rattle.cert_parser.specs.declared.read.ReadFail.{ReadFail}
use Rattle.cert_parser.specs.declared.read.ReadFail.TheVariants.{Bad, Memory}
use Rattle.byte_streams.specs.Stream.{AppendsPrefix}
use Rattle.cert_check.specs.declared.verdict.Verdict.{Verdict}
use Rattle.cert_check.specs.declared.verdict.Verdict.TheVariants.{Yes, No, Skip}
use Rattle.cert_check.specs.Text.{counts_text}
pub use Rattle.cert_check.specs.Text.{verdict_text}
use Rattle.cert_check.specs.Verdicts.{AreRightAnswers, verdict_of, line_at, IsCertifiedLine}
use Rattle.run_core.specs.declared.check.Checked.{Checked}
use Rattle.run_core.specs.declared.check.Checked.TheVariants.{AllYes, NotAll, BadText}

abbrev pub is_yes : Verdict → Bool
is_yes Yes = true
is_yes (No reason) = false
is_yes Skip = false

abbrev pub is_no : Verdict → Bool
is_no Yes = false
is_no (No reason) = true
is_no Skip = false

abbrev pub is_skip : Verdict → Bool
is_skip Yes = false
is_skip (No reason) = false
is_skip Skip = true

-- a count, with one more where that is counted
abbrev pub with_one : Bool → ℕ → ℕ
with_one true n = n + 1
with_one false n = n

-- the verdicts of the lines of a file, by an answer for each of its facts
abbrev pub verdicts_of : CertFile → List Answer → List Verdict
verdicts_of f answers = map (verdict_of f.version f.facts answers) f.lines

-- verdicts are those of the lines of a file from one on
abbrev pub AreVerdictsFrom : CertFile → List Answer → ℕ → List Verdict → Type 0
AreVerdictsFrom f answers first verdicts = (k : ℕ) (d : Verdict) → k < length verdicts
    → slice_index_or verdicts k d ≡ verdict_of f.version f.facts answers (line_at f (first + k))

-- verdicts, of which the first has the number after this count
abbrev pub verdicts_after : ℕ → List Verdict → List ℕ
verdicts_after count [] = []
verdicts_after count (v ∷ vs) = verdict_text (count + 1) v ++ verdicts_after (count + 1) vs

-- end yes A no B skip C
abbrev pub counts_of : List Verdict → List ℕ
counts_of vs = counts_text (length (filter is_yes vs)) (length (filter is_no vs)) (length (filter is_skip vs))

-- a verdict for each line, numbered from 1, and how many there are of each kind
abbrev pub verdicts_text : List Verdict → List ℕ
verdicts_text vs = verdicts_after 0 vs ++ counts_of vs

-- bad LINE RULE
unfoldable pub bad_text : ℕ → ℕ → List ℕ
bad_text line rule = concat (codes "bad " ∷ decimal line ∷ codes " " ∷ decimal rule ∷ codes "\n" ∷ [])

-- The verdicts of the lines of a file stand behind what the sink held, by answers that are right for its facts. What a
-- line with a yes shows is certified.
pub record ChecksFile (old new : Option (List ℕ)) (f : CertFile) (all_yes : Bool) : Type 0 where
  pub answers : List Answer
  pub right : AreRightAnswers f.facts answers
  pub written : Appends old new (verdicts_text (verdicts_of f answers))
  pub yes : all_yes ≡ list_all is_yes (verdicts_of f answers)
  pub certified : (i : ℕ) → i < length f.lines → verdict_of f.version f.facts answers (line_at f i) ≡ Yes
      → IsCertifiedLine f.version f.facts (line_at f i)

-- a prefix of such a text stands there
pub record CutsFile (old new : Option (List ℕ)) (f : CertFile) : Type 0 where
  pub answers : List Answer
  pub right : AreRightAnswers f.facts answers
  pub prefix : AppendsPrefix old new (verdicts_text (verdicts_of f answers))

-- the bytes are a file of the grammar, and the verdicts of its lines stand there
pub record ChecksText (old new : Option (List ℕ)) (input : List ℕ) (all_yes : Bool) : Type 0 where
  pub of : CertFile
  pub read : grammar_of input ≡ file of
  pub checks : ChecksFile old new of all_yes

-- what comes of a certificate, all of whose verdicts are yes or not
abbrev pub checked : Bool → Checked
checked true = AllYes
checked false = NotAll

-- the line that says why bytes weren't read as a file stands there
abbrev pub TellsFail : ReadFail → Option (List ℕ) → Option (List ℕ) → Checked → Type 0
TellsFail (Bad line rule) old new AllYes = ⊥
TellsFail (Bad line rule) old new NotAll = ⊥
TellsFail (Bad line rule) old new BadText = Appends old new (bad_text line rule)
TellsFail Memory old new checked = ⊥

-- a prefix of it stands there
abbrev pub CutsFail : ReadFail → Option (List ℕ) → Option (List ℕ) → Type 0
CutsFail (Bad line rule) old new = AppendsPrefix old new (bad_text line rule)
CutsFail Memory old new = ⊥

-- bytes are read as none of a file, and the line that names the first bad line and its first broken rule stands there
pub record RefusesText (reading : Reading) (old new : Option (List ℕ)) : Type 0 where
  pub line : ℕ
  pub rule : ℕ
  pub read : reading ≡ bad line rule
  pub written : Appends old new (bad_text line rule)

-- what comes of checking bytes
abbrev pub Comes : Option (List ℕ) → Option (List ℕ) → List ℕ → Checked → Type 0
Comes old new input AllYes = ChecksText old new input true
Comes old new input NotAll = ChecksText old new input false
Comes old new input BadText = RefusesText (grammar_of input) old new

-- a prefix of what is written for the bytes stands there
pub data CheckCutShort (old new : Option (List ℕ)) (input : List ℕ) : Type 0 where
  cut_verdicts : (f : CertFile) → grammar_of input ≡ file f → CutsFile old new f → CheckCutShort old new input
  cut_bad : (line rule : ℕ) → grammar_of input ≡ bad line rule → AppendsPrefix old new (bad_text line rule)
      → CheckCutShort old new input
