-- The arctangents at the edges of the pieces, and at -1, 0 and 1, to 2 parts of 2^-56; and how far apart two others
-- are. At a known number the model's series is computed at depth 40, piece by piece of the code's rule; two arctangents
-- of a piece are no further apart than its slope allows (`ArcSlopes`), and intervals that hold the same value meet.
use Rattle.std.proofs.Common.{◌*◌, ◌^◌, refl, arith, ℤ, pos, negsuc, ◌+ℤ◌, ◌*ℤ◌, ◌≤ℤ◌}
use Rattle.std.proofs.lemmas.Int.{ints}
use lib.IntN.{neg_ℤ}
use Rattle.book_model.specs.Fraction.{Fraction, ◌≤F◌, whole, plus, opposite, times, reciprocal, is_at_most, smaller}
use Rattle.book_model.specs.Fraction.{larger, size, power}
use Rattle.book_model.specs.Interval.{Interval, everything, between, IsProper, ◌⊆◌, negative, product, one, minus_one}
use Rattle.book_model.specs.Interval.{least, greatest}
use Rattle.book_model.specs.Sums.{alternating, lower, upper}
use Rattle.book_model.proofs.Certificates.{zero_F}
use Rattle.book_model.proofs.Fractions.{le_refl, le_trans, plus_mono}
use Rattle.book_model.proofs.Intervals.{within_trans, product_within}
use Rattle.book_model.specs.programs.Leading.{units_of_56}
use Rattle.book_model.specs.numbers.Series.{arctan_term}
use Rattle.book_model.specs.numbers.Arcs.{half, minus_half, arctan_series, arc_near, arc_above, arc_beyond, mirrored}
use Rattle.book_model.proofs.SeriesNesting.{Precedes, preceding}
use Rattle.book_model.proofs.ArcSeries.{InHalf, series_proper, series_nests, degrees_proper, zero_in}
use Rattle.book_model.proofs.ArcPieces.{InPiece, InAbove, turned, turned_in, recip_in, quarters}
use Rattle.arc_series.specs.declared.pieces.Piece.{Piece}
use Rattle.arc_series.specs.Forms.{piece_of}
use Rattle.encl_core.specs.Units.{at_64}
use Rattle.arc_series.proofs.ArcValues.{radian, radian_near}
use Rattle.arc_series.proofs.PieceArcs.{more_held, less_held, opposite_held}
use Rattle.arc_series.proofs.ArcSlopes.{rate, Climbs, climbing, piece_climbs, piece_arc}

-- ---- by the series to the term of index 28
anchored : (x a b : Fraction) (lo hi : ℤ) → InHalf x → arctan_series 28 x ⊆ between a b
    → product (between a b) radian ⊆ between (units_of_56 lo) (units_of_56 hi)
    → arc_near 40 x ⊆ between (units_of_56 lo) (units_of_56 hi)
unfolding arc_near
anchored x a b lo hi w h k =
    within_trans (product_within (series_proper 40 x w) (degrees_proper 40)
    (within_trans ((series_nests x w.above w.below).within 28 40 (omega arith)) h)
    (radian_near 40 (omega arith))) k

half_series : arctan_series 28 half ⊆ between (at_64 (pos 8552788783625223583)) (at_64 (pos 8552788783625223590))
unfolding arctan_series is_at_most lower upper alternating size arctan_term power plus times opposite
half_series = record { endpoints = (record { cross = record { le = tt } }, record { cross = record { le = tt } }) }

two_quarters_series : arctan_series 28 (turned (whole (pos 3))) ⊆ between (at_64 (pos 8552788783625223583))
    (at_64 (pos 8552788783625223590))
unfolding arctan_series is_at_most lower upper alternating size arctan_term power plus times opposite reciprocal
two_quarters_series =
    record { endpoints = (record { cross = record { le = tt } }, record { cross = record { le = tt } }) }

minus_half_series : arctan_series 28 minus_half ⊆ between (at_64 (neg_ℤ (pos 8552788783625223590)))
    (at_64 (neg_ℤ (pos 8552788783625223583)))
unfolding arctan_series is_at_most negative lower upper alternating size arctan_term power plus times opposite
minus_half_series =
    record { endpoints = (record { cross = record { le = tt } }, record { cross = record { le = tt } }) }

third_series : arctan_series 28 (reciprocal (whole (pos 3))) ⊆ between (at_64 (pos 5935250132529022095))
    (at_64 (pos 5935250132529022102))
unfolding arctan_series is_at_most lower upper alternating size arctan_term power plus times opposite reciprocal
third_series = record { endpoints = (record { cross = record { le = tt } }, record { cross = record { le = tt } }) }

minus_third_series : arctan_series 28 (turned half) ⊆ between (at_64 (neg_ℤ (pos 5935250132529022102)))
    (at_64 (neg_ℤ (pos 5935250132529022095)))
unfolding arctan_series is_at_most negative lower upper alternating size arctan_term power plus times opposite
    reciprocal
minus_third_series =
    record { endpoints = (record { cross = record { le = tt } }, record { cross = record { le = tt } }) }

none_series : arctan_series 28 zero_F ⊆ between (at_64 (pos 0)) (at_64 (pos 0))
unfolding arctan_series is_at_most lower upper alternating size arctan_term power plus times opposite
none_series = record { endpoints = (record { cross = record { le = tt } }, record { cross = record { le = tt } }) }

turned_one_series : arctan_series 28 (turned one) ⊆ between (at_64 (pos 0)) (at_64 (pos 0))
unfolding arctan_series is_at_most lower upper alternating size arctan_term power plus times opposite reciprocal
turned_one_series =
    record { endpoints = (record { cross = record { le = tt } }, record { cross = record { le = tt } }) }

half_degrees : product (between (at_64 (pos 8552788783625223583)) (at_64 (pos 8552788783625223590))) radian ⊆ between
    (units_of_56 (pos 1914213673314665422))
    (units_of_56 (pos 1914213673314665425))
unfolding product least greatest smaller larger is_at_most times
half_degrees = record { endpoints = (record { cross = record { le = tt } }, record { cross = record { le = tt } }) }

minus_half_degrees : product (between (at_64 (neg_ℤ (pos 8552788783625223590)))
    (at_64 (neg_ℤ (pos 8552788783625223583)))) radian ⊆ between
    (units_of_56 (neg_ℤ (pos 1914213673314665425))) (units_of_56 (neg_ℤ (pos 1914213673314665422)))
unfolding product least greatest smaller larger is_at_most times
minus_half_degrees =
    record { endpoints = (record { cross = record { le = tt } }, record { cross = record { le = tt } }) }

third_degrees : product (between (at_64 (pos 5935250132529022095)) (at_64 (pos 5935250132529022102))) radian ⊆ between
    (units_of_56 (pos 1328378058392091695))
    (units_of_56 (pos 1328378058392091698))
unfolding product least greatest smaller larger is_at_most times
third_degrees = record { endpoints = (record { cross = record { le = tt } }, record { cross = record { le = tt } }) }

minus_third_degrees : product (between (at_64 (neg_ℤ (pos 5935250132529022102)))
    (at_64 (neg_ℤ (pos 5935250132529022095)))) radian ⊆ between
    (units_of_56 (neg_ℤ (pos 1328378058392091698))) (units_of_56 (neg_ℤ (pos 1328378058392091695)))
unfolding product least greatest smaller larger is_at_most times
minus_third_degrees =
    record { endpoints = (record { cross = record { le = tt } }, record { cross = record { le = tt } }) }

none_degrees : product (between (at_64 (pos 0)) (at_64 (pos 0))) radian ⊆ between (units_of_56 (pos 0))
    (units_of_56 (pos 0))
unfolding product least greatest smaller larger is_at_most times
none_degrees = record { endpoints = (record { cross = record { le = tt } }, record { cross = record { le = tt } }) }

-- ---- the positive pieces
half_in : InHalf half
half_in = record { above = record { cross = record { le = tt } }; below = le_refl half }

minus_half_in : InHalf minus_half
minus_half_in = record { above = le_refl minus_half; below = record { cross = record { le = tt } } }

half_from : InAbove half
half_from = record { from = le_refl half; to = record { cross = record { le = tt } } }

one_from : InAbove one
one_from = record { from = record { cross = record { le = tt } }; to = record { cross = record { le = tt } } }

three_from : InAbove (whole (pos 3))
three_from = record { from = record { cross = record { le = tt } }; to = le_refl (whole (pos 3)) }

pub near_half : arc_near 40 half ⊆ between (units_of_56 (pos 1914213673314665422))
    (units_of_56 (pos 1914213673314665425))
near_half = anchored half _ _ _ _ half_in half_series half_degrees

pub near_minus_half : arc_near 40 minus_half ⊆ between (units_of_56 (neg_ℤ (pos 1914213673314665425)))
    (units_of_56 (neg_ℤ (pos 1914213673314665422)))
near_minus_half = anchored minus_half _ _ _ _ minus_half_in minus_half_series minus_half_degrees

pub near_none : arc_near 40 zero_F ⊆ between (units_of_56 (pos 0)) (units_of_56 (pos 0))
near_none = anchored zero_F _ _ _ _ zero_in none_series none_degrees

pub above_half : arc_above 40 half ⊆ between (units_of_56 (pos 1914213673314665422))
    (units_of_56 (pos 1914213673314665425))
unfolding arc_above
above_half =
    more_held 45 (neg_ℤ (pos 1328378058392091698)) (neg_ℤ (pos 1328378058392091695)) _ _ _ refl refl
    (anchored (turned half) _ _ _ _ (turned_in half half_from) minus_third_series minus_third_degrees)

pub above_one : arc_above 40 one ⊆ between (units_of_56 (pos (45 * 2 ^ 56))) (units_of_56 (pos (45 * 2 ^ 56)))
unfolding arc_above
above_one = more_held 45 (pos 0) (pos 0) _ _ _ refl refl (anchored (turned one) _ _ _ _ (turned_in one one_from)
    turned_one_series none_degrees)

pub above_three : arc_above 40 (whole (pos 3)) ⊆ between (units_of_56 (pos 5156805405021422542))
    (units_of_56 (pos 5156805405021422545))
unfolding arc_above
above_three =
    more_held 45 (pos 1914213673314665422) (pos 1914213673314665425) _ _ _ refl refl
    (anchored (turned (whole (pos 3))) _ _ _ _ (turned_in (whole (pos 3)) three_from) two_quarters_series half_degrees)

pub beyond_three : arc_beyond 40 (whole (pos 3)) ⊆ between (units_of_56 (pos 5156805405021422542))
    (units_of_56 (pos 5156805405021422545))
unfolding arc_beyond
beyond_three =
    less_held 90 (pos 1328378058392091695) (pos 1328378058392091698) _ _ _ refl refl
    (anchored (reciprocal (whole (pos 3))) _ _ _ _ (recip_in (whole (pos 3)) (le_refl (whole (pos 3)))) third_series
    third_degrees)

-- ---- the negative ones
pub below_half : mirrored arc_above 40 minus_half ⊆ between (units_of_56 (neg_ℤ (pos 1914213673314665425)))
    (units_of_56 (neg_ℤ (pos 1914213673314665422)))
unfolding opposite
below_half = opposite_held _ _ _ _ _ refl refl above_half

pub below_one : mirrored arc_above 40 minus_one ⊆ between (units_of_56 (neg_ℤ (pos (45 * 2 ^ 56))))
    (units_of_56 (neg_ℤ (pos (45 * 2 ^ 56))))
unfolding opposite
below_one = opposite_held _ _ _ _ _ refl refl above_one

pub below_three : mirrored arc_above 40 (whole (negsuc 2)) ⊆ between (units_of_56 (neg_ℤ (pos 5156805405021422545)))
    (units_of_56 (neg_ℤ (pos 5156805405021422542)))
unfolding opposite
below_three = opposite_held _ _ _ _ _ refl refl above_three

pub far_below_three : mirrored arc_beyond 40 (whole (negsuc 2)) ⊆ between
    (units_of_56 (neg_ℤ (pos 5156805405021422545)))
    (units_of_56 (neg_ℤ (pos 5156805405021422542)))
unfolding opposite
far_below_three = opposite_held _ _ _ _ _ refl refl beyond_three

-- ---- two arctangents in a piece
-- endpoints that hold the arctangents of two numbers that are at most d apart
pub record AreApart (d lo hi low high : ℤ) : Type 0 where
  pub climb : (low *ℤ pos 10) ≤ℤ (hi *ℤ pos 10 +ℤ d *ℤ pos 573)
  pub rise : lo ≤ℤ high

climb_whole : (d hi low : ℤ) → units_of_56 low ≤F plus (units_of_56 hi) (times rate (units_of_56 d))
    → (low *ℤ pos 10) ≤ℤ (hi *ℤ pos 10 +ℤ d *ℤ pos 573)
unfolding plus times
climb_whole d hi low h = omega (arith, ints, h.cross)

climb_endpoints : (d lo hi low high : ℤ) {i j : Interval} → Climbs (units_of_56 d) i j
    → i ⊆ between (units_of_56 lo) (units_of_56 hi)
    → j ⊆ between (units_of_56 low) (units_of_56 high)
    → (low *ℤ pos 10) ≤ℤ (hi *ℤ pos 10 +ℤ d *ℤ pos 573)
climb_endpoints d lo hi low high (climbing {b = b} {c = c} h) i j =
    climb_whole d hi low
    (le_trans _ c _ j.endpoints.0
    (le_trans c _ _ h (plus_mono b (units_of_56 hi) (times rate (units_of_56 d)) _ i.endpoints.1 (le_refl _))))

pub at_whole : (a b : ℤ) → units_of_56 a ≤F units_of_56 b → a ≤ℤ b
at_whole a b h = omega (arith, ints, h.cross)

rise_endpoints : (lo hi low high : ℤ) {i j : Interval} → Precedes i j → IsProper j
    → i ⊆ between (units_of_56 lo) (units_of_56 hi)
    → j ⊆ between (units_of_56 low) (units_of_56 high)
    → lo ≤ℤ high
rise_endpoints lo hi low high (preceding {a = a} {c = c} {d = d} ac bd) p i j = at_whole lo high
    (le_trans _ a _ i.endpoints.0 (le_trans a c _ ac (le_trans c d _ p j.endpoints.1)))

pub apart : (p : Piece) (x y : Fraction) (d lo hi low high : ℤ) → InPiece (piece_of p) x → InPiece (piece_of p) y
    → x ≤F y → y ≤F plus x (units_of_56 d)
    → (piece_of p).arc 40 x ⊆ between (units_of_56 lo) (units_of_56 hi)
    → (piece_of p).arc 40 y ⊆ between (units_of_56 low) (units_of_56 high)
    → AreApart d lo hi low high
apart p x y d lo hi low high w v h k i j = record {
  climb = climb_endpoints d lo hi low high (piece_climbs p x y (units_of_56 d) w v h k) i j;
  rise = rise_endpoints lo hi low high ((piece_arc p).rises 40 x y w v h) ((piece_arc p).proper 40 y v) i j;
}

-- ---- two intervals that hold a third
pub record AreMeeting (lo hi low high : ℤ) : Type 0 where
  pub first : lo ≤ℤ high
  pub second : low ≤ℤ hi

pub meeting : (i : Interval) (lo hi low high : ℤ) → IsProper i → i ⊆ between (units_of_56 lo) (units_of_56 hi)
    → i ⊆ between (units_of_56 low) (units_of_56 high)
    → AreMeeting lo hi low high
meeting everything lo hi low high p h k = absurd h.endpoints
meeting (between a b) lo hi low high p h k = record {
  first = at_whole lo high (le_trans _ a _ h.endpoints.0 (le_trans a b _ p k.endpoints.1));
  second = at_whole low hi (le_trans _ a _ k.endpoints.0 (le_trans a b _ p h.endpoints.1));
}

quarters_at : quarters ⊆ between (units_of_56 (neg_ℤ (pos (90 * 2 ^ 56)))) (units_of_56 (pos (90 * 2 ^ 56)))
quarters_at = record { endpoints = (record { cross = record { le = tt } }, record { cross = record { le = tt } }) }

-- every arctangent meets -90..90
pub in_quarters : (p : Piece) (x : Fraction) (lo hi : ℤ) → InPiece (piece_of p) x
    → (piece_of p).arc 40 x ⊆ between (units_of_56 lo) (units_of_56 hi)
    → AreMeeting lo hi (neg_ℤ (pos (90 * 2 ^ 56))) (pos (90 * 2 ^ 56))
in_quarters p x lo hi w h = meeting _ lo hi _ _ ((piece_arc p).proper 40 x w) h
    (within_trans ((piece_arc p).inside 40 x w) quarters_at)
