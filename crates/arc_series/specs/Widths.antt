-- How wide the spans of arctangents are, and where they lie. All numbers and degrees are in units of 2^-56.
use Rattle.std.specs.Prelude.{◌*◌, ◌+◌, ◌-◌, ◌≤◌, ◌^◌, ℕ, ℤ, pos, neg_ℤ, ◌+ℤ◌, ◌-ℤ◌, ◌*ℤ◌, ◌≤ℤ◌, ◌<ℤ◌, ◌⊎◌, Option}
use Rattle.std.specs.Prelude.{Some, None}
use Rattle.std.specs.Int.{int_min, int_max}
use Rattle.book_model.specs.numbers.Bounds.{ceil_div}
use Rattle.encl_core.specs.declared.span.Span.{Span}
use Rattle.arc_series.specs.declared.pieces.Piece.{Piece}
use Rattle.arc_series.specs.declared.pieces.Piece.TheVariants.{FarBelow, Below, Near, Above, FarAbove}

-- two endpoints that are at most 4 apart
pub record IsThin (lo hi : ℤ) : Type 0 where
  pub thin : hi ≤ℤ (lo +ℤ pos 4)

-- an edge of a piece: its place, and a number within 2 of the arctangent there
pub record Edge : Type 0 where
  pub place : ℤ
  pub arc : ℤ

abbrev pub edge_below : Edge
edge_below = record { place = neg_ℤ (pos (3 * 2 ^ 56)); arc = neg_ℤ (pos 5156805405021422543) }

abbrev pub edge_near_below : Edge
edge_near_below = record { place = neg_ℤ (pos (2 ^ 55)); arc = neg_ℤ (pos 1914213673314665423) }

abbrev pub edge_near_above : Edge
edge_near_above = record { place = pos (2 ^ 55); arc = pos 1914213673314665423 }

abbrev pub edge_above : Edge
edge_above = record { place = pos (3 * 2 ^ 56); arc = pos 5156805405021422543 }

-- what no number of 128 bits reaches
abbrev pub no_begin : Edge
no_begin = record { place = neg_ℤ (pos (2 ^ 127 + 1)); arc = pos 0 }

abbrev pub no_end : Edge
no_end = record { place = pos (2 ^ 127); arc = pos 0 }

-- the edges of a piece
abbrev pub first_edge : Piece → Edge
first_edge FarBelow = no_begin
first_edge Below = edge_below
first_edge Near = edge_near_below
first_edge Above = edge_near_above
first_edge FarAbove = edge_above

abbrev pub last_edge : Piece → Edge
last_edge FarBelow = edge_below
last_edge Below = edge_near_below
last_edge Near = edge_near_above
last_edge Above = edge_above
last_edge FarAbove = no_end

-- z is at least what the arctangents of numbers from k on are, but for 10: -90 degrees, and what follows from those of
-- -1, 0 and 1
pub record IsFrom (k z : ℤ) : Type 0 where
  pub quarter : neg_ℤ (pos (90 * 2 ^ 56)) ≤ℤ (z +ℤ pos 10)
  pub minus_one : int_min (pos 0) ((k +ℤ pos (2 ^ 56)) *ℤ pos 573) ≤ℤ ((z +ℤ pos (45 * 2 ^ 56) +ℤ pos 10) *ℤ pos 10)
  pub none : int_min (pos 0) (k *ℤ pos 573) ≤ℤ ((z +ℤ pos 10) *ℤ pos 10)
  pub one : int_min (pos 0) ((k -ℤ pos (2 ^ 56)) *ℤ pos 573) ≤ℤ ((z -ℤ pos (45 * 2 ^ 56) +ℤ pos 10) *ℤ pos 10)

-- and the same of the arctangents of numbers up to k
abbrev pub IsUpTo : (k z : ℤ) → Type 0
IsUpTo k z = IsFrom (neg_ℤ k) (neg_ℤ z)

-- s, in 2^-60, is at least 9/4 over the square of 1 - k, where k is at most 0: the arctangents of numbers up to k, in
-- radians, rise by at most so much times what the numbers do
pub record IsRate (s : ℕ) (k : ℤ) : Type 0 where
  pub below : k ≤ℤ pos 0
  pub enough : pos (9 * 2 ^ 170) ≤ℤ (pos s *ℤ ((pos (2 ^ 56) -ℤ k) *ℤ (pos (2 ^ 56) -ℤ k)))

-- s, in 2^-60, is such a rate for the numbers up to -p, where p is in units of 2^-32
pub record IsRateFrom (s p : ℕ) : Type 0 where
  pub enough : 9 * 2 ^ 122 ≤ s * ((2 ^ 32 + p) * (2 ^ 32 + p))

-- how wide an arctangent of numbers of width w is at such a rate, in 2^-64: 57.3 s w, and 58 parts of 2^-56
abbrev pub slow_width : (s w : ℕ) → ℕ
slow_width s w = ceil_div (w * s * 573) (10 * 2 ^ 60 - 1) + 58 * 2 ^ 8

-- endpoints that hold the arctangent at an edge, but for 2
pub record IsAt (e : Edge) (r : Span) : Type 0 where
  pub low : r.lo ≤ℤ (e.arc +ℤ pos 2)
  pub high : e.arc ≤ℤ (r.hi +ℤ pos 2)

-- the span of the arctangents of what two endpoints have in common with the line between two edges: its width is at
-- most 57.3 times how far apart these are, and so many tenths more; and 57.3 times that at a rate of the numbers
pub record IsReach (first last : Edge) (tenths : ℕ) (lo hi : ℤ) (r : Span) : Type 0 where
  pub from : first.place ≤ℤ hi
  pub to : lo ≤ℤ last.place
  pub narrow : ((r.hi -ℤ r.lo) *ℤ pos 10) ≤ℤ ((int_min last.place hi -ℤ int_max first.place lo) *ℤ pos 573
      +ℤ pos tenths)
  pub slow : (s : ℕ) → IsRate s hi
      → ((r.hi -ℤ r.lo) *ℤ pos (10 * 2 ^ 60))
      ≤ℤ ((int_min last.place hi *ℤ pos s -ℤ int_max first.place lo *ℤ pos s) *ℤ pos 573 +ℤ pos (tenths * 2 ^ 60))
  pub at_first : lo ≤ℤ first.place → IsAt first r
  pub at_last : last.place ≤ℤ hi → IsAt last r
  pub above : IsFrom lo r.lo
  pub below : IsUpTo hi r.hi

-- the same, where they have something in common
abbrev pub Reaches : (first last : Edge) (tenths : ℕ) (lo hi : ℤ) → Option Span → Type 0
Reaches first last tenths lo hi None = (hi <ℤ first.place) ⊎ (last.place <ℤ lo)
Reaches first last tenths lo hi (Some r) = IsReach first last tenths lo hi r

-- the span of the arctangents over two endpoints
pub record IsOver (lo hi : ℤ) (r : Span) : Type 0 where
  pub narrow : ((r.hi -ℤ r.lo) *ℤ pos 10) ≤ℤ ((hi -ℤ lo) *ℤ pos 573 +ℤ pos 560)
  pub slow : (s : ℕ) → IsRate s hi
      → ((r.hi -ℤ r.lo) *ℤ pos (10 * 2 ^ 60)) ≤ℤ ((hi *ℤ pos s -ℤ lo *ℤ pos s) *ℤ pos 573 +ℤ pos (560 * 2 ^ 60))
  pub above : IsFrom lo r.lo
  pub below : IsUpTo hi r.hi

-- there is one
abbrev pub AreOver : (lo hi : ℤ) → Option Span → Type 0
AreOver lo hi None = ⊥
AreOver lo hi (Some r) = IsOver lo hi r
