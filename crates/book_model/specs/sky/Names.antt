-- The numbers, the printed names and the first versions of sites, kinds of facts and places, the places of a kind, and
-- the location and the zone of a place, by their tables.
use Rattle.std.specs.Prelude.{ℕ, ◌+◌, ◌==◌, ◌||◌, nat_eq, Bool, true, false, List, [], ◌∷◌, Option, Some, None}
use Rattle.std.specs.Prelude.{if◌then◌else◌, map, slice_get}
use Rattle.std.specs.List.{list_any}
use Rattle.std.specs.Option.{option_map_or}
use lib.Pointwise.{pointwise}
use denote.Enum.Declared.{tag_of}
use Rattle.book_model.specs.contracts.fact.Kind.{the_type as kind_type}
use Rattle.book_model.specs.contracts.fact.Place.{the_type as place_type}
use Rattle.book_model.specs.contracts.site.Site.{the_type as site_type}
use Rattle.book_model.specs.declared.fact.Kind.{Kind}
use Rattle.book_model.specs.declared.fact.Place.{Place}
use Rattle.book_model.specs.declared.fact.TheConstants.{KINDS, PLACES}
use Rattle.book_model.specs.declared.fact.WholeDays.{WholeDays}
use Rattle.book_model.specs.declared.fact.WholeDays.TheVariants.{Nowhere, AtFirst, Everywhere}
use Rattle.book_model.specs.declared.frac.Frac.{Frac}
use Rattle.book_model.specs.declared.horizon.Location.{Location}
use Rattle.book_model.specs.declared.site.Site.{Site}
use Rattle.book_model.specs.declared.site.TheConstants.{SITES}
use Rattle.book_model.specs.declared.version.Version.{Version}
use Rattle.book_model.specs.declared.version.Version.TheVariants.{One}
use Rattle.book_model.specs.declared.zone.ZoneStep.{ZoneStep}
use Rattle.book_model.specs.sky.Correction.{no_fraction}

-- the number of a kind of fact, from 0: its place among the kinds, and that of its row
abbrev pub kind_number : Kind → ℕ
kind_number kind = tag_of kind_type kind

-- the number of a place, from 0
abbrev pub place_number : Place → ℕ
place_number place = tag_of place_type place

-- the number of a site, from 1
abbrev pub site_number : Site → ℕ
site_number site = tag_of site_type site + 1

-- the word for a kind of fact
unfoldable pub kind_name : Kind → List ℕ
kind_name kind = option_map_or (λ row. row.1.now) (slice_get KINDS (kind_number kind)) []

-- the first version of certificates that has a kind of fact
unfoldable pub kind_since : Kind → Version
kind_since kind = option_map_or (λ row. row.2.2) (slice_get KINDS (kind_number kind)) One

-- the places of which a kind of fact is asked
abbrev pub places_of : Kind → List Place
places_of kind = option_map_or (λ row. row.2.0.now) (slice_get KINDS (kind_number kind)) []

-- which tests of a kind of fact, where they are of a year, are of that of the whole day itself
abbrev pub whole_days : Kind → WholeDays
whole_days kind = option_map_or (λ row. row.2.1) (slice_get KINDS (kind_number kind)) Nowhere

-- whether the test of a number, from 1, is one of them
abbrev pub is_of_whole_day : WholeDays → ℕ → Bool
is_of_whole_day Nowhere n = false
is_of_whole_day AtFirst n = (n == 1) || (n == 3)
is_of_whole_day Everywhere n = true

-- whether a place is one of a kind's places
abbrev pub has_place : Kind → Place → Bool
has_place kind place = list_any (λ p. place_number p == place_number place) (places_of kind)

-- the word for a place, a dash for none
unfoldable pub place_name : Place → List ℕ
place_name place = option_map_or (λ row. row.1.now) (slice_get PLACES (place_number place)) []

-- the first version of certificates that has a place
unfoldable pub place_since : Place → Version
place_since place = option_map_or (λ row. row.2.3) (slice_get PLACES (place_number place)) One

-- the location from which the horizon of a place is looked at, if it has one
unfoldable pub location_of : Place → Option Location
location_of place = option_map_or (λ row. row.2.0) (slice_get PLACES (place_number place)) None

-- the days on which the time of a place changes, in order, with the hours by which it is ahead of universal time before
-- each
unfoldable pub zone_steps : Place → List ZoneStep
zone_steps place = option_map_or (λ row. row.2.1.now) (slice_get PLACES (place_number place)) []

-- the hours from the last of them on
unfoldable pub last_hours : Place → Frac
last_hours place = option_map_or (λ row. row.2.2) (slice_get PLACES (place_number place)) no_fraction

-- the word for a site
unfoldable pub site_name : Site → List ℕ
site_name site = option_map_or (λ row. row.1.now) (slice_get SITES (tag_of site_type site)) []

-- the first version of certificates that has a site
unfoldable pub site_since : Site → Version
site_since site = option_map_or (λ row. row.2) (slice_get SITES (tag_of site_type site)) One

-- the first that has this name
abbrev pub first_named : {A : Type 0} → List (A × List ℕ) → List ℕ → Option A
first_named [] word = None
first_named (row ∷ rows) word = if pointwise nat_eq word row.1 then Some row.0 else first_named rows word

-- the kind that a word is the name of
unfoldable pub kind_named : List ℕ → Option Kind
kind_named word = first_named (map (λ row. (row.0, row.1.now)) KINDS) word

-- the place that a word is the name of
unfoldable pub place_named : List ℕ → Option Place
place_named word = first_named (map (λ row. (row.0, row.1.now)) PLACES) word

-- the site that a word is the name of
unfoldable pub site_named : List ℕ → Option Site
site_named word = first_named (map (λ row. (row.0, row.1.now)) SITES) word
