-- What comes of a line, and when that is right.
use Rattle.std.specs.Prelude.{◌≡◌, ℕ, ◌≤◌, Bool, true, false, List, [], ◌∷◌, ℤ, Result, Ok, Err}
use Rattle.book_model.specs.declared.site.Site.{Site}
use Rattle.book_model.specs.declared.fact.Fact.{Fact}
use Rattle.book_model.specs.declared.fail.Undecided.{Undecided}
use Rattle.book_model.specs.declared.request.Request.{Request}
use Rattle.book_model.specs.declared.request.Resolved.{Resolved}
use Rattle.book_model.specs.declared.request.Resolved.TheVariants.{Shown, TooFar, NoDate}
use Rattle.book_model.specs.declared.request.Rule.{Rule}
use Rattle.book_model.specs.declared.version.Version.{Version}
use Rattle.book_model.specs.sky.Facts.{IsNear, IsVoidAt}
use Rattle.book_model.specs.calendars.Inquiries.{finding, found, AsksAt}
use Rattle.book_model.specs.lines.LineRules.{rule_of}
use Rattle.book_model.specs.lines.Requests.{request_of}
use Rattle.book_model.specs.numbers.Depth.{DEPTH}

-- what comes of a line: it breaks a rule; it has a result, with the facts asked and their values; or a fact that
-- it asks is undecided or void
pub data LineOutcome : Type 0 where
  refused : Rule → LineOutcome
  resolved : Resolved → List (Fact × ℤ) → LineOutcome
  undecided : Fact → Undecided → LineOutcome
  void : Fact → Site → LineOutcome

-- at every depth from 40 on the result of a request is x, over these facts with these values
pub record HasResult (version : Version) (r : Request) (x : Resolved) (facts : List (Fact × ℤ)) : Type 0 where
  pub at_each_depth : (n : ℕ) → DEPTH ≤ n → finding n (rule_of version r) ≡ found x facts

-- at every depth from 40 on the rule of a request asks this fact
pub record AsksAlways (version : Version) (r : Request) (f : Fact) : Type 0 where
  pub at_each_depth : (n : ℕ) → DEPTH ≤ n → AsksAt n (rule_of version r) f

-- an outcome is right for a row: for what a line asks, or the first rule that it breaks
abbrev pub IsRightForRow : Version → Result Request Rule → LineOutcome → Type 0
IsRightForRow version (Err rule) o = o ≡ refused rule
IsRightForRow version (Ok r) (refused rule) = ⊥
IsRightForRow version (Ok r) (resolved x facts) = HasResult version r x facts
IsRightForRow version (Ok r) (undecided f u) = AsksAlways version r f × IsNear f u
IsRightForRow version (Ok r) (void f s) = AsksAlways version r f × IsVoidAt f s

-- an outcome is right for a line by what it asks
abbrev pub IsRightFor : Version → List ℕ → LineOutcome → Type 0
IsRightFor version line o = IsRightForRow version (request_of version line) o

-- as many outcomes as lines, each right for its line
abbrev pub AreRight : Version → List (List ℕ) → List LineOutcome → Type 0
AreRight version [] [] = Unit {0}
AreRight version [] (o ∷ os) = ⊥
AreRight version (line ∷ lines) [] = ⊥
AreRight version (line ∷ lines) (o ∷ os) = IsRightFor version line o × AreRight version lines os

-- the rule of a row always asks this fact; where a line breaks a rule, nothing is asked
abbrev pub RowAsks : Version → Result Request Rule → Fact → Type 0
RowAsks version (Err rule) f = ⊥
RowAsks version (Ok r) f = AsksAlways version r f

-- whether the outcome of a line is shown
abbrev pub is_shown : Resolved → Bool
is_shown (Shown to fields) = true
is_shown (TooFar day) = false
is_shown (NoDate back) = false

-- whether the outcome is a result
abbrev pub is_result : LineOutcome → Bool
is_result (refused rule) = false
is_result (resolved x facts) = is_shown x
is_result (undecided f u) = false
is_result (void f s) = false

-- whether the outcome is a result, or a refusal that was found by computing
abbrev pub is_resolved : LineOutcome → Bool
is_resolved (refused rule) = false
is_resolved (resolved x facts) = true
is_resolved (undecided f u) = false
is_resolved (void f s) = false
