-- What taking one more line does to a reading.
use Rattle.std.specs.Prelude.{◌≡◌, ℕ, Bool, Some, None, Option, Result, Ok, Err}
use Rattle.cert_parser.specs.declared.form.Form.{Form}
use Rattle.cert_parser.specs.declared.lines.CertFile.{CertFile}
use Rattle.cert_parser.specs.declared.reader.LineFault.{LineFault}
use Rattle.cert_parser.specs.declared.reader.LineFault.TheVariants.{Rule, Memory}
use Rattle.cert_parser.specs.Reading.{Reading, bad, after_form}

-- a form breaks no rule, or this one, unless memory ran out
abbrev pub Breaks : {X : Type 0} → Result X LineFault → Option ℕ → Type 0
Breaks (Ok x) broken = broken ≡ None
Breaks (Err (Rule rule)) broken = broken ≡ Some rule
Breaks (Err Memory) broken = Unit {0}

-- after a line of this form the reading goes on with this file
pub record Passes (before : CertFile) (ended : Bool) (form : Option Form) (after : CertFile) (end : Bool) : Type 0 where
  pub goes_on : (number : ℕ) (next : CertFile → Bool → Reading) → after_form number before ended form next ≡ next
      after end

-- a line of this form breaks a rule, or memory ran out
abbrev pub Fails : LineFault → CertFile → Bool → Option Form → Type 0
Fails (Rule rule) before ended form = (number : ℕ) (next : CertFile → Bool → Reading)
    → after_form number before ended form next ≡ bad number rule
Fails Memory before ended form = Unit {0}
