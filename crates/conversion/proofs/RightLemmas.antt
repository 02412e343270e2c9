-- Outcomes that are right for their lines.
use Rattle.std.proofs.Common.{◌≡◌, ℕ, Bool, true, false, ℤ, List, [], ◌∷◌, length, map, refl, ap, ◌&&◌, arith}
use Rattle.std.specs.Prelude.{Result, Ok, Err, if◌then◌else◌}
use Rattle.std.specs.List.{list_all}
use Rattle.book_model.specs.declared.fact.Fact.{Fact}
use Rattle.book_model.specs.declared.request.Request.{Request}
use Rattle.book_model.specs.declared.request.Resolved.{Resolved}
use Rattle.book_model.specs.declared.request.Rule.{Rule}
use Rattle.book_model.specs.declared.request.Rule.TheVariants.{Syntax}
use Rattle.book_model.specs.declared.version.TheConstants.{WRITTEN}
use Rattle.book_model.specs.lines.Lines.{words_of}
use Rattle.book_model.specs.lines.Requests.{asked_by, request_of}
use Rattle.book_model.specs.lines.Outcomes.{LineOutcome, resolved, IsRightFor, IsRightForRow, AreRight, is_result}
use Rattle.jobs_core.specs.declared.outcome.Outcome.{Outcome}
use Rattle.jobs_core.specs.Outcomes.{line_outcome, AreRightForRows}

-- there are as many outcomes as lines
pub right_length : (lines : List (List ℕ)) (os : List LineOutcome) → AreRight WRITTEN lines os
    → length lines ≡ length os
right_length [] [] all = refl
right_length [] (o ∷ os) all = absurd all
right_length (line ∷ lines) [] all = absurd all
right_length (line ∷ lines) (o ∷ os) all =
    let rest : length lines ≡ length os = right_length lines os all.1 in omega arith

-- outcomes that are right for the rows of lines are right for the lines
pub right_lines : (lines : List (List ℕ)) (os : List Outcome) → AreRightForRows (map (request_of WRITTEN) lines) os
    → AreRight WRITTEN lines (map line_outcome os)
right_lines [] [] h = tt
right_lines [] (o ∷ os) h = absurd h
right_lines (line ∷ lines) [] h = absurd h
right_lines (line ∷ lines) (o ∷ os) h = (h.0, right_lines lines os h.1)

-- only three words ask something
three_asked : (ws : List (List ℕ)) (r : Request) → asked_by WRITTEN ws ≡ Ok r → length ws ≡ 3
three_asked [] r h = cc
three_asked (a ∷ []) r h = cc
three_asked (a ∷ b ∷ []) r h = cc
three_asked (a ∷ b ∷ c ∷ []) r h = refl
three_asked (a ∷ b ∷ c ∷ d ∷ ws) r h = cc

-- only three words ask something, where the line is readable
three_where : (t : Bool) (ws : List (List ℕ)) (r : Request) → (if t then asked_by WRITTEN ws else Err Syntax) ≡ Ok r
    → length ws ≡ 3
three_where true ws r h = three_asked ws r h
three_where false ws r h = cc

-- a line that breaks no rule has three words
pub three_words_asked : (line : List ℕ) (r : Request) → request_of WRITTEN line ≡ Ok r → length (words_of line) ≡ 3
unfolding request_of
three_words_asked line r h = three_where _ (words_of line) r h

-- a line whose outcome is a result has three words
pub three_words_found : (line : List ℕ) (o : LineOutcome) (x : Resolved) (facts : List (Fact × ℤ))
    → o ≡ resolved x facts
    → IsRightFor WRITTEN line o → length (words_of line) ≡ 3
three_words_found line o x facts e h = by (request_of WRITTEN line) refl (rw e at h)
  where
    by : (row : Result Request Rule) → request_of WRITTEN line ≡ row → IsRightForRow WRITTEN row (resolved x facts)
        → length (words_of line) ≡ 3
    by (Err rule) asked right = absurd (cc)
    by (Ok r) asked right = three_words_asked line r asked

-- all are results, by either list of outcomes
pub all_results : (os : List Outcome) → list_all (λ o. is_result (line_outcome o)) os ≡ list_all is_result
    (map line_outcome os)
all_results [] = refl
all_results (o ∷ os) = ap (λ t. is_result (line_outcome o) && t) (all_results os)
