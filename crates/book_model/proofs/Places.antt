-- What is promised of each place: of its location, if it has one, and of its zone, computed of its row.
use Rattle.std.specs.Prelude.{◌≡◌, Bool, true, ◌&&◌, [], None, refl}
use Rattle.std.specs.List.{list_all}
use Rattle.std.specs.Option.{option_map_or}
use Rattle.exact_math.specs.Fraction.{is_at_most}
use Rattle.book_model.specs.declared.fact.Place.{Place}
use Rattle.book_model.specs.declared.fact.TheConstants.{PLACES}
use Rattle.book_model.specs.numbers.Bounds.{bound_of, implies, integer_bound, constant_bound, sum_bound}
use Rattle.book_model.specs.numbers.Bounds.{difference_bound, scaled_bound, power_bound, product_bound, quotient_bound}
use Rattle.book_model.specs.numbers.Bounds.{clamp_bound, root_bound, spanned_bound, arc_spans, arctangent_bound}
use Rattle.book_model.specs.numbers.Bounds.{half_tangent_bound, arcsine_bound, arccosine_bound}
use Rattle.book_model.specs.numbers.Roots.{root_by_digits}
use Rattle.book_model.specs.sky.Correction.{no_fraction}
use Rattle.book_model.specs.sky.Horizon.{refraction_of}
use Rattle.book_model.specs.sky.Names.{place_number, location_of, zone_steps, last_hours}
use Rattle.book_model.specs.sky.Noon.{ahead_of}
use Rattle.book_model.specs.sky.Places.{is_kept_location, are_kept_hours, is_kept_step, is_kept_zone}
use Rattle.book_model.proofs.NameLemmas.{column_passes, place_row}

-- ---- of each row
locations_kept : list_all (λ row. option_map_or is_kept_location row.2.0 true) PLACES ≡ true
unfolding implies bound_of integer_bound constant_bound sum_bound difference_bound scaled_bound power_bound
    product_bound quotient_bound clamp_bound root_bound
    root_by_digits spanned_bound arc_spans arctangent_bound half_tangent_bound arcsine_bound arccosine_bound
    refraction_of ahead_of is_at_most
locations_kept = refl

steps_kept : list_all (λ row. list_all (is_kept_step 24) row.2.1.now) PLACES ≡ true
unfolding implies bound_of integer_bound constant_bound is_at_most
steps_kept = refl

hours_kept : list_all (λ row. are_kept_hours 24 row.2.2) PLACES ≡ true
unfolding implies bound_of constant_bound is_at_most
hours_kept = refl

-- ---- of each place
both : (p q : Bool) → p ≡ true → q ≡ true → (p && q) ≡ true
both p q e f = rw (e, f) refl

-- the location of a place keeps what is promised
pub location_kept : (place : Place) → option_map_or is_kept_location (location_of place) true ≡ true
unfolding location_of
location_kept place =
    column_passes (λ row. row.2.0) None (λ row. place_number row.0) (λ l. option_map_or is_kept_location l true) PLACES
    (place_number place)
    (place_number place) locations_kept (place_row place)

-- the time of a place is ahead by less than a day
pub zone_kept : (place : Place) → is_kept_zone 24 (zone_steps place) (last_hours place) ≡ true
unfolding zone_steps last_hours
zone_kept place =
    both _ _
    (column_passes (λ row. row.2.1.now) [] (λ row. place_number row.0) (list_all (is_kept_step 24)) PLACES
    (place_number place) (place_number place) steps_kept
    (place_row place))
    (column_passes (λ row. row.2.2) no_fraction (λ row. place_number row.0) (are_kept_hours 24) PLACES
    (place_number place) (place_number place) hours_kept
    (place_row place))
