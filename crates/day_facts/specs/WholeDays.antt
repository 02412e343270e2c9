-- What an undecided test of a fact is not.
use Rattle.std.specs.Prelude.{◌≡◌}
use Rattle.book_model.specs.declared.fact.Kind.{Kind}
use Rattle.book_model.specs.declared.fail.Fail.{Fail}
use Rattle.book_model.specs.declared.fail.Fail.TheVariants.{Undecided, Void}
use Rattle.book_model.specs.declared.site.Site.TheVariants.{Year}
use Rattle.book_model.specs.sky.Facts.{IsOfWholeDay}

-- a failure of a fact of this kind is none at the year of the whole day itself
abbrev pub IsNoWholeDay : Kind → Fail → Type 0
IsNoWholeDay kind (Undecided u) = u.site ≡ Year → IsOfWholeDay kind u.turn → ⊥
IsNoWholeDay kind (Void s) = Unit {0}
