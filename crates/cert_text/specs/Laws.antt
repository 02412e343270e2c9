-- What lines settle of their text.
use Rattle.std.specs.Prelude.{◌≡◌, ℕ, Bool, true, false, List, length, filter}
use Rattle.book_model.specs.declared.version.TheConstants.{WRITTEN}
use Rattle.book_model.specs.lines.Outcomes.{LineOutcome, refused, resolved, undecided, void, AreRight}
use Rattle.book_model.specs.lines.Text.{text}

-- whether a fact of the line is undecided
abbrev pub is_undecided : LineOutcome → Bool
is_undecided (refused rule) = false
is_undecided (resolved x facts) = false
is_undecided (undecided f u) = true
is_undecided (void f s) = false

-- none of the lines is undecided
abbrev pub HasNoneUndecided : List LineOutcome → Type 0
HasNoneUndecided os = length (filter is_undecided os) ≡ 0

-- two texts whose outcomes are right for these lines, none of them undecided, are equal
abbrev pub HasOneText : List (List ℕ) → Type 0
HasOneText lines = (os ps : List LineOutcome) → AreRight WRITTEN lines os → AreRight WRITTEN lines ps
    → HasNoneUndecided os → HasNoneUndecided ps → text lines os ≡ text lines ps
