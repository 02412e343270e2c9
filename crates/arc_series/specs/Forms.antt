-- The pieces of the line as the code names them, what spans hold, and the form of an arcsine.
use Rattle.std.specs.Prelude.{◌-◌, ◌*◌, ◌^◌, ℤ, pos, negsuc, neg_ℤ, Option, Some, None, List, [], ◌∷◌, Bool, false}
use Rattle.std.specs.Prelude.{◌||◌}
use Rattle.book_model.specs.Interval.{Interval, everything, between, ◌⊆◌}
use lib.Signed.{lt_z}
use Rattle.book_model.specs.programs.Leading.{units_of_56}
use Rattle.book_model.specs.numbers.Arcs.{Piece as ArcPiece, far_below, below, near, above, far_above}
use Rattle.encl_core.specs.declared.span.Span.{Span}
use Rattle.arc_series.specs.declared.pieces.Piece.{Piece}
use Rattle.arc_series.specs.declared.pieces.Piece.TheVariants.{FarBelow, Below, Near, Above, FarAbove}
use Rattle.book_model.specs.numbers.Expressions.{Expression, integer, add, subtract, divide, power, clamp, root}

-- a piece of the line, as the code names it
abbrev pub piece_of : Piece → ArcPiece
piece_of FarBelow = far_below
piece_of Below = below
piece_of Near = near
piece_of Above = above
piece_of FarAbove = far_above

-- what lies between the endpoints of a span
abbrev pub of_span : Span → Interval
of_span s = between (units_of_56 s.lo) (units_of_56 s.hi)

-- what there is holds each of some intervals
abbrev pub AreHeld : {E : Type 0} → (E → Interval) → List Interval → Option E → Type 0
AreHeld shown [] y = Unit {0}
AreHeld shown (i ∷ is) None = ⊥
AreHeld shown (i ∷ is) (Some e) = (i ⊆ shown e) × AreHeld shown is (Some e)

-- the endpoints of a piece at scale 2^-56; where it doesn't begin or end, the least and the greatest number of 128 bits
abbrev pub begin_56 : Piece → ℤ
begin_56 FarBelow = negsuc (2 ^ 127 - 1)
begin_56 Below = neg_ℤ (pos (3 * 2 ^ 56))
begin_56 Near = neg_ℤ (pos (2 ^ 55))
begin_56 Above = pos (2 ^ 55)
begin_56 FarAbove = pos (3 * 2 ^ 56)

abbrev pub end_56 : Piece → ℤ
end_56 FarBelow = neg_ℤ (pos (3 * 2 ^ 56))
end_56 Below = neg_ℤ (pos (2 ^ 55))
end_56 Near = pos (2 ^ 55)
end_56 Above = pos (3 * 2 ^ 56)
end_56 FarAbove = pos (2 ^ 127 - 1)

-- the tangent of half the arcsine: x / (1 + root (1 - x^2)), of what is cut to -1..1
unfoldable pub half_tangent_of : Expression → Expression
half_tangent_of a = divide (clamp a) (add (integer (pos 1)) (root (subtract (integer (pos 1)) (power (clamp a) 2))))

-- all members are positive, or all negative
abbrev pub has_sign : Interval → Bool
has_sign everything = false
has_sign (between a b) = lt_z (pos 0) a.num || lt_z b.num (pos 0)
