-- A line that is decided has a result or breaks a rule. By cases of what the line asks and of the outcome: of those
-- that are right for it an undecided or a void one names a fact that is near or void, and that no fact which a decided
-- line asks is either is the premise.
use Rattle.std.proofs.Common.{◌≡◌, ◌⊎◌, inl, inr, refl, ℕ, List, true}
use Rattle.std.specs.Prelude.{Result, Ok, Err}
use Rattle.book_model.specs.declared.fact.Fact.{Fact}
use Rattle.book_model.specs.declared.fail.Undecided.{Undecided}
use Rattle.book_model.specs.declared.request.Request.{Request}
use Rattle.book_model.specs.declared.request.Rule.{Rule}
use Rattle.book_model.specs.declared.site.Site.{Site}
use Rattle.book_model.specs.declared.version.TheConstants.{WRITTEN}
use Rattle.book_model.specs.lines.Outcomes.{LineOutcome, refused, resolved, undecided, void, IsRightForRow, RowAsks}
use Rattle.book_model.specs.lines.Outcomes.{is_resolved}
use Rattle.book_model.specs.lines.Requests.{request_of}
use Rattle.book_model.specs.sky.Facts.{IsNear, IsVoidAt}
use Rattle.run_core.specs.Laws.{HasResultOrRule, IsRefusal}

-- an outcome that is right for a decided line is a result or a refusal, by cases of what the line asks and of the
-- outcome
by_row : (line : List ℕ) (row : Result Request Rule) (o : LineOutcome) → request_of WRITTEN line ≡ row
    → ((f : Fact) (u : Undecided) → RowAsks WRITTEN row f → IsNear f u → ⊥)
    → ((f : Fact) (s : Site) → RowAsks WRITTEN row f → IsVoidAt f s → ⊥)
    → IsRightForRow WRITTEN row o → (is_resolved o ≡ true) ⊎ IsRefusal line o
by_row line (Err rule) o asked near nowhere h = inr (record { rule = rule; broken = asked; is = h })
by_row line (Ok r) (refused rule) asked near nowhere h = absurd h
by_row line (Ok r) (resolved x facts) asked near nowhere h = inl refl
by_row line (Ok r) (undecided f u) asked near nowhere h = absurd (near f u h.0 h.1)
by_row line (Ok r) (void f s) asked near nowhere h = absurd (nowhere f s h.0 h.1)

-- an outcome that is right for a decided line is a result or a refusal
pub decided_line : (line : List ℕ) → HasResultOrRule line
decided_line line = λ d o h. by_row line (request_of WRITTEN line) o refl d.not_near d.not_void h
