-- The result of a line that shows the value of a fact.
use Rattle.std.specs.Prelude.{ℤ, pos, [], ◌∷◌}
use Rattle.book_model.specs.declared.fact.Fact.{Fact}
use Rattle.book_model.specs.declared.request.Fields.{Fields}
use Rattle.book_model.specs.declared.request.Resolved.TheVariants.{Shown}
use Rattle.book_model.specs.declared.words.ToWord.{ToWord}
use Rattle.book_model.specs.lines.Outcomes.{LineOutcome, resolved}

-- a value as the only field of a result
abbrev pub value_fields : ℤ → Fields
value_fields value = record { count = 1; values = value ∷ pos 0 ∷ pos 0 ∷ pos 0 ∷ pos 0 ∷ [] }

-- the outcome of a line that shows the value of a fact by a word, and rests on this fact alone
abbrev pub shown_outcome : ToWord × (Fact × ℤ) → LineOutcome
shown_outcome shown = resolved (Shown shown.0 (value_fields shown.1.1)) (shown.1 ∷ [])
