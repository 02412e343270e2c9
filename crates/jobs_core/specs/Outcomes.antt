-- What the code's outcome of a row stands for, and when it is right.
use Rattle.std.specs.Prelude.{◌≡◌, ℕ, List, Result, IfOk, IsTrue}
use Rattle.std.specs.List.{AllZip}
use Rattle.book_model.specs.declared.request.Request.{Request}
use Rattle.book_model.specs.declared.request.Rule.{Rule}
use Rattle.book_model.specs.declared.version.TheConstants.{WRITTEN}
use Rattle.book_model.specs.lines.Requests.{is_possible, is_in_reach, request_of}
use Rattle.book_model.specs.lines.Outcomes.{LineOutcome, refused, resolved, undecided, void, IsRightForRow}
use Rattle.oracle_core.specs.declared.oracle.Stop.{Stop}
use Rattle.oracle_core.specs.declared.oracle.Stop.TheVariants.{Undecided as undecided_stop, Void as void_stop}
use Rattle.oracle_core.specs.declared.oracle.Stop.TheVariants.{Missing as missing_stop, Memory as memory_stop}
use Rattle.jobs_core.specs.declared.outcome.Outcome.{Outcome}
use Rattle.jobs_core.specs.declared.outcome.Outcome.TheVariants.{Refused, Shown, Found, Halted}
use Rattle.jobs_core.specs.declared.outcome.Halt.{Halt}
use Rattle.jobs_core.specs.LineFacts.{pairs_in}
use Rattle.jobs_core.specs.Shown.{shown_outcome}
use Rattle.jobs_core.specs.declared.outcome.Halt.TheVariants.{Undecided, Void}

-- the outcome, of those that the definitions speak of, of a line without a result
abbrev pub halt_outcome : Halt → LineOutcome
halt_outcome (Undecided fact at) = undecided fact at
halt_outcome (Void fact site) = void fact site

-- the outcome that the definitions speak of
abbrev pub line_outcome : Outcome → LineOutcome
line_outcome (Refused rule) = refused rule
line_outcome (Found finding) = resolved finding.value.resolved (pairs_in finding.value.facts)
line_outcome (Shown shown) = shown_outcome shown
line_outcome (Halted halt) = halt_outcome halt.value

-- the date of a request, where the row is one, is possible and in reach
abbrev pub CanResolve : Result Request Rule → Type 0
CanResolve row = IfOk row (λ r. IsTrue (is_possible r)) × IfOk row (λ r. IsTrue (is_in_reach WRITTEN r))

-- the row is what the line asks, and may be resolved
abbrev pub IsRowOf : List ℕ → Result Request Rule → Type 0
IsRowOf line row = (row ≡ request_of WRITTEN line) × CanResolve row

-- one outcome for each row, in the order of the rows, each right for its row
abbrev pub AreRightForRows : List (Result Request Rule) → List Outcome → Type 0
AreRightForRows rows outcomes = AllZip (λ row o. IsRightForRow WRITTEN row (line_outcome o)) rows outcomes

-- an early return that says nothing of a line
abbrev pub HasNoOutcome : Stop → Type 0
HasNoOutcome (undecided_stop f u) = ⊥
HasNoOutcome (void_stop f s) = ⊥
HasNoOutcome (missing_stop f) = Unit {0}
HasNoOutcome memory_stop = Unit {0}

-- an outcome is what comes of an early return, at an undecided test or a void
abbrev pub ComesOfStop : Stop → LineOutcome → Type 0
ComesOfStop (undecided_stop f u) o = o ≡ undecided f u
ComesOfStop (void_stop f s) o = o ≡ void f s
ComesOfStop (missing_stop f) o = ⊥
ComesOfStop memory_stop o = ⊥
