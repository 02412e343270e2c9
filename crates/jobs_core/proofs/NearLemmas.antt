-- Facts whose days are near a first one.
use Rattle.std.proofs.Common.{◌≡◌, ℤ, ◌+ℤ◌}
use Rattle.book_model.specs.declared.fact.Fact.{Fact}
use Rattle.book_model.specs.declared.fact.Kind.{Kind}
use Rattle.book_model.specs.declared.fact.Place.{Place}
use Rattle.book_model.specs.sky.Facts.{IsFact}

-- facts with their values whose parts are the same are the same
pub same_pair : (a b : Fact × ℤ) → a.0.kind ≡ b.0.kind → a.0.place ≡ b.0.place → a.0.day ≡ b.0.day → a.1 ≡ b.1 → a ≡ b
same_pair a b k p d v = λ j. (record { kind = k j; place = p j; day = d j }, v j)

-- parts that are those of a fact make one
pub same_fact : (kind k : Kind) (place p : Place) (day d : ℤ) → k ≡ kind → p ≡ place → d ≡ day → IsFact kind place day
    → IsFact k p d
same_fact kind k place p day d ek ep ed h = rw (ek, ep, ed) h
