-- The versions of certificates, by their rows: which days a line may name, of which a fact had a value, and of which
-- years there is an almanac; the kinds, places and sites that it has; the first line of a file, and the version that a
-- first line gives.
use Rattle.std.specs.Prelude.{ℕ, ◌≤◌, nat_le, ◌||◌, if◌then◌else◌, Bool, false, List, [], ◌∷◌, Option, Some, None, map}
use Rattle.std.specs.Prelude.{ℤ, pos, slice_index_or}
use denote.Enum.Declared.{tag_of}
use Rattle.book_model.specs.contracts.version.Version.{the_type as version_type}
use Rattle.book_model.specs.declared.fact.Kind.{Kind}
use Rattle.book_model.specs.declared.fact.Place.{Place}
use Rattle.book_model.specs.declared.site.Site.{Site}
use Rattle.book_model.specs.declared.version.Version.{Version}
use Rattle.book_model.specs.declared.version.TheConstants.{VERSIONS, HEADERS, FIRST_ALMANAC_YEAR, LAST_ALMANAC_YEAR}
use Rattle.book_model.specs.sky.Correction.{is_between}
use Rattle.book_model.specs.sky.Names.{first_named, kind_named, kind_since, place_named, place_since, site_named}
use Rattle.book_model.specs.sky.Names.{site_since}

-- the number of a version, from 0: its place among the versions
abbrev pub version_number : Version → ℕ
version_number version = tag_of version_type version

-- the range of a version, of ranges in the order of the versions: the first and the last number
abbrev pub range_in : Version → List (ℤ × ℤ) → ℤ × ℤ
range_in version ranges = slice_index_or ranges (version_number version) (pos 1, pos 0)

-- a number lies in one of some ranges
abbrev pub is_in_some : List (ℤ × ℤ) → ℤ → Bool
is_in_some [] z = false
is_in_some (range ∷ []) z = is_between range.0 range.1 z
is_in_some (range ∷ other ∷ ranges) z = is_between range.0 range.1 z || is_in_some (other ∷ ranges) z

-- the days of each version, of which its lines may name those that their calendars tell the dates of
abbrev pub line_days : List (ℤ × ℤ)
line_days = map (λ row. row.days) VERSIONS

-- the first and the last day of a version
abbrev pub days_in : Version → ℤ × ℤ
days_in version = range_in version line_days

-- the first and the last day of which a fact had a value when a version was the last one
abbrev pub fact_days_in : Version → ℤ × ℤ
fact_days_in version = range_in version (map (λ row. row.fact_days) VERSIONS)

-- the days of which a fact had a value when a version was the last one
abbrev pub is_value_day : Version → ℤ → Bool
is_value_day version day = is_between (fact_days_in version).0 (fact_days_in version).1 day

-- a version had what there is since a version
abbrev pub has_since : Version → Version → Bool
has_since version since = nat_le (version_number since) (version_number version)

-- what there is of a name, where a version has it
abbrev pub had_in : {A : Type 0} → Version → (A → Version) → Option A → Option A
had_in version since None = None
had_in version since (Some a) = if has_since version (since a) then Some a else None

-- the kind, the place and the site that a word is the name of in a version
abbrev pub kind_in : Version → List ℕ → Option Kind
kind_in version word = had_in version kind_since (kind_named word)

abbrev pub place_in : Version → List ℕ → Option Place
place_in version word = had_in version place_since (place_named word)

abbrev pub site_in : Version → List ℕ → Option Site
site_in version word = had_in version site_since (site_named word)

-- a year of which there is an almanac
abbrev pub IsAlmanacYear : ℕ → Type 0
IsAlmanacYear year = (FIRST_ALMANAC_YEAR ≤ year) × (year ≤ LAST_ALMANAC_YEAR)

-- the first line of a version's files, without its line feed
abbrev pub header_line : Version → List ℕ
header_line version = slice_index_or (map (λ row. row.1.now) HEADERS) (version_number version) []

-- the version whose files begin with a line, without its line feed
unfoldable pub version_named : List ℕ → Option Version
version_named line = first_named (map (λ row. (row.0, row.1.now)) HEADERS) line
