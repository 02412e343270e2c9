-- What a version answers some version answers, and the version that is written answers it too. A version is found by
-- the first line of its files.
use Rattle.std.proofs.Common.{◌≡◌, Bool, true, false, ◌&&◌, ◌||◌, refl, arith, List, [], ◌∷◌, ℕ, suc, zero}
use Rattle.std.proofs.lemmas.Int.{ints}
use Rattle.std.specs.Prelude.{IsTrue, ℤ, pos, ◌≤ℤ◌, int_le, slice_index_or, Option, Some}
use Rattle.std.specs.List.{list_all}
use Rattle.book_model.specs.declared.calendar.Calendar.{Calendar}
use Rattle.book_model.specs.declared.calendar.Calendar.TheVariants.{Gregorian, Fixed}
use Rattle.book_model.specs.declared.fact.Kind.{Kind}
use Rattle.book_model.specs.declared.fact.Kind.TheVariants as kinds
use Rattle.book_model.specs.declared.fact.Place.{Place}
use Rattle.book_model.specs.declared.fact.Place.TheVariants as places
use Rattle.book_model.specs.declared.request.Fields.{Fields}
use Rattle.book_model.specs.declared.request.Request.{Request}
use Rattle.book_model.specs.declared.site.Site.{Site}
use Rattle.book_model.specs.declared.site.Site.TheVariants as sites
use Rattle.book_model.specs.declared.version.Version.{Version}
use Rattle.book_model.specs.declared.version.Version.TheVariants.{One}
use Rattle.book_model.specs.declared.version.TheConstants.{WRITTEN}
use Rattle.book_model.specs.declared.words.FromWord.{FromWord}
use Rattle.book_model.specs.declared.words.FromWord.TheVariants as from
use Rattle.book_model.specs.declared.words.ToWord.{ToWord}
use Rattle.book_model.specs.declared.words.ToWord.TheVariants as to
use Rattle.book_model.specs.calendars.Dates.{row_of, may_have, year_number, has_year, has_some_year, gregorian_day}
use Rattle.book_model.specs.calendars.Dates.{fixed_day, has_day_in_reach, is_answered, IsAskable}
use Rattle.book_model.specs.calendars.Versions.{version_number, range_in, is_in_some, line_days, days_in, has_since}
use Rattle.book_model.specs.calendars.Versions.{had_in, kind_in, place_in, site_in, header_line, version_named}
use Rattle.book_model.specs.lines.Reach.{later, first_day_of, reach_of, is_reached}
use Rattle.book_model.specs.lines.Requests.{has_words, is_in_reach}
use Rattle.book_model.specs.lines.Words.{from_since, to_since, named_by, shown_by, calendar_of}
use Rattle.book_model.specs.sky.Correction.{is_between}
use Rattle.book_model.specs.sky.Names.{kind_name, kind_named, kind_since, place_name, place_named, place_since}
use Rattle.book_model.specs.sky.Names.{site_name, site_named, site_since}
use Rattle.book_model.proofs.CorrectionRows.{lies}
use Rattle.book_model.proofs.NameLemmas.{kind_found, place_found, site_found}

both : (p q : Bool) → (p && q) ≡ true → (p ≡ true) × (q ≡ true)
both true true e = (refl, refl)
both true false e = absurd (cc)
both false q e = absurd (cc)

none_between : (z : ℤ) → is_between (pos 1) (pos 0) z ≡ false
none_between z = grind (arith, ints)

-- a number in the range at a place lies in one of the ranges
in_some : (ranges : List (ℤ × ℤ)) (i : ℕ) (z : ℤ) → is_between (slice_index_or ranges i (pos 1, pos 0)).0
    (slice_index_or ranges i (pos 1, pos 0)).1 z ≡ true
    → is_in_some ranges z ≡ true
in_some [] i z h = let none = none_between z in cc
in_some (range ∷ []) zero z h = h
in_some (range ∷ []) (suc i) z h = let none = none_between z in absurd (cc)
in_some (range ∷ other ∷ ranges) zero z h = rw h refl
in_some (range ∷ other ∷ ranges) (suc i) z h = by (is_between range.0 range.1 z) (in_some (other ∷ ranges) i z h)
  where
    by : (b : Bool) → is_in_some (other ∷ ranges) z ≡ true → (b || is_in_some (other ∷ ranges) z) ≡ true
    by true e = refl
    by false e = e

-- a date that a version answers is one that its calendar may be asked the day of
pub askable : (version : Version) (reach : ℤ × ℤ) (c : Calendar) (f : Fields) → IsTrue (may_have c f)
    → IsTrue (is_answered version reach c f) → IsAskable c f
unfolding is_answered has_some_year
askable version reach c f possible h =
    let year = (both (has_year version (row_of c) f) (has_day_in_reach reach c f) h).0 in
    (possible, in_some (row_of c).years (version_number version) (year_number (row_of c) f) year)

-- the day of a Gregorian date that a line answers is one that the line may name
pub answered_day : (version : Version) (reach : ℤ × ℤ) (f : Fields) → IsTrue (is_answered version reach Gregorian f)
    → IsTrue (is_between reach.0 reach.1 (gregorian_day f))
unfolding is_answered
answered_day version reach f h = (both (has_year version (row_of Gregorian) f) (has_day_in_reach reach Gregorian f) h).1

-- ---- the version that is written
-- a range has the endpoints of another
abbrev pub is_wider : (outer inner : ℤ × ℤ) → Bool
is_wider outer inner = int_le outer.0 inner.0 && int_le inner.1 outer.1

both_true : (p q : Bool) → p ≡ true → q ≡ true → (p && q) ≡ true
both_true p q e f = rw (e, f) refl

-- what lies in a range lies in a wider one
pub wider_has : (outer inner : ℤ × ℤ) (z : ℤ) → is_wider outer inner ≡ true → is_between inner.0 inner.1 z ≡ true
    → is_between outer.0 outer.1 z ≡ true
wider_has outer inner z w h =
    let b = both (int_le outer.0 inner.0) (int_le inner.1 outer.1) w in
    let l = lies inner.0 inner.1 z h in
    grind (arith, ints, b.0, b.1, l.0, l.1)

-- what lies in the range at a place lies in one that is wider than all
in_widest : (outer : ℤ × ℤ) (ranges : List (ℤ × ℤ)) (i : ℕ) (z : ℤ) → list_all (is_wider outer) ranges ≡ true
    → is_between (slice_index_or ranges i (pos 1, pos 0)).0 (slice_index_or ranges i (pos 1, pos 0)).1 z ≡ true
    → is_between outer.0 outer.1 z ≡ true
in_widest outer [] i z w h = let none = none_between z in absurd (cc)
in_widest outer (range ∷ ranges) zero z w h = wider_has outer range z
    (both (is_wider outer range) (list_all (is_wider outer) ranges) w).0 h
in_widest outer (range ∷ ranges) (suc i) z w h = in_widest outer ranges i z
    (both (is_wider outer range) (list_all (is_wider outer) ranges) w).1 h

-- of some ranges, the one of the version that is written is the widest
abbrev is_written_widest : List (ℤ × ℤ) → Bool
is_written_widest ranges = list_all (is_wider (range_in WRITTEN ranges)) ranges

days_widest : is_written_widest line_days ≡ true
days_widest = refl

years_widest : (c : Calendar) → is_written_widest (row_of c).years ≡ true
years_widest Gregorian = refl
years_widest _ = refl

-- what lies from the later of two days on lies from both on
later_low : (a b z : ℤ) → later a b ≤ℤ z → (a ≤ℤ z) × (b ≤ℤ z)
later_low a b z h = (grind (arith, ints, h), grind (arith, ints, h))

later_least : (a b z : ℤ) → a ≤ℤ z → b ≤ℤ z → later a b ≤ℤ z
later_least a b z h k = grind (arith, ints, h, k)

between_endpoints : (lo hi z : ℤ) → lo ≤ℤ z → z ≤ℤ hi → is_between lo hi z ≡ true
between_endpoints lo hi z h k = grind (arith, ints, h, k)

-- a day that a line of a version may name is one of the version's days
pub reached_day : (version : Version) (from : FromWord) (to : ToWord) (day : ℤ)
    → IsTrue (is_reached version from to day)
    → IsTrue (is_between (days_in version).0 (days_in version).1 day)
reached_day version from to day h =
    let l = lies (reach_of version from to).0 (reach_of version from to).1 day h in
    between_endpoints (days_in version).0 (days_in version).1 day (later_low (days_in version).0 _ day l.0).0 l.1

-- and one from the first day on of which there is what its words are about
pub told_from : (version : Version) (from : FromWord) (to : ToWord) (day : ℤ) → IsTrue (is_reached version from to day)
    → (first_day_of (named_by from) ≤ℤ day) × (first_day_of (shown_by to) ≤ℤ day)
told_from version from to day h =
    let l = lies (reach_of version from to).0 (reach_of version from to).1 day h in
    later_low (first_day_of (named_by from)) (first_day_of (shown_by to)) day
    (later_low (days_in version).0 _ day l.0).1

-- a day that a line of a version may name is one that the same line of the written version may name
pub later_days : (version : Version) (from : FromWord) (to : ToWord) (day : ℤ) → IsTrue (is_reached version from to day)
    → IsTrue (is_reached WRITTEN from to day)
later_days version from to day h =
    let words = later (first_day_of (named_by from)) (first_day_of (shown_by to)) in
    let l = lies (reach_of version from to).0 (reach_of version from to).1 day h in
    let from_first = later_low (days_in version).0 words day l.0 in
    let here = between_endpoints (days_in version).0 (days_in version).1 day from_first.0 l.1 in
    let wide = in_widest (range_in WRITTEN line_days) line_days (version_number version) day days_widest here in
    let k = lies (days_in WRITTEN).0 (days_in WRITTEN).1 day wide in
    between_endpoints (later (days_in WRITTEN).0 words) (days_in WRITTEN).1 day
    (later_least (days_in WRITTEN).0 words day k.0 from_first.1) k.1

day_later : (version : Version) (from : FromWord) (to : ToWord) (c : Calendar) (f : Fields)
    → has_day_in_reach (reach_of version from to) c f ≡ true
    → has_day_in_reach (reach_of WRITTEN from to) c f ≡ true
day_later version from to Gregorian f h = later_days version from to (gregorian_day f) h
day_later version from to Fixed f h = later_days version from to (fixed_day f) h
day_later version from to _ f h = refl

later_dates : (version : Version) (from : FromWord) (to : ToWord) (c : Calendar) (f : Fields)
    → IsTrue (is_answered version (reach_of version from to) c f)
    → IsTrue (is_answered WRITTEN (reach_of WRITTEN from to) c f)
unfolding is_answered
later_dates version from to c f h =
    let b = both (has_year version (row_of c) f) (has_day_in_reach (reach_of version from to) c f) h in
    let ranges = (row_of c).years in
    let year = in_widest (range_in WRITTEN ranges) ranges (version_number version) (year_number (row_of c) f)
    (years_widest c) b.0 in
    both_true (has_year WRITTEN (row_of c) f) (has_day_in_reach (reach_of WRITTEN from to) c f) year
    (day_later version from to c f b.1)

-- a request whose date a version answers is one whose date the written version answers
pub later_requests : (version : Version) (r : Request) → IsTrue (is_in_reach version r) → IsTrue (is_in_reach WRITTEN r)
later_requests version r h = later_dates version r.from r.to (calendar_of r.from) r.date h

-- ---- the words of the first version
-- what they are about there is from the first day of the table on: the last line is checked for each word by itself
from_early : (w : FromWord) → has_since One (from_since w) ≡ true → int_le (first_day_of (named_by w)) (pos 1) ≡ true
from_early from.French h = absurd (cc)
from_early from.HebrewObserved h = absurd (cc)
from_early _ h = refl

to_early : (w : ToWord) → has_since One (to_since w) ≡ true → int_le (first_day_of (shown_by w)) (pos 1) ≡ true
to_early to.French h = absurd (cc)
to_early to.HebrewObserved h = absurd (cc)
to_early _ h = refl

days_late : (version : Version) → int_le (pos 1) (days_in version).0 ≡ true
days_late One = refl
days_late _ = refl

later_stays : (a b c : ℤ) → int_le (pos 1) a ≡ true → int_le b (pos 1) ≡ true → int_le c (pos 1) ≡ true
    → later a (later b c) ≡ a
later_stays a b c h k l = grind (arith, ints, h, k, l)

-- a line with words that the first version has may name each day of its version
pub first_reach : (version : Version) (r : Request) → IsTrue (has_words One r)
    → reach_of version r.from r.to ≡ days_in version
first_reach version r h =
    let since = both (has_since One (from_since r.from)) (has_since One (to_since r.to)) h in
    let same = later_stays (days_in version).0 (first_day_of (named_by r.from)) (first_day_of (shown_by r.to))
    (days_late version) (from_early r.from since.0)
    (to_early r.to since.1) in
    rw same refl

-- ---- the first line of a version's files is that version's
pub header_found : (version : Version) → version_named (header_line version) ≡ Some version
unfolding version_named
header_found One = refl
header_found _ = refl

-- ---- the version that is written has each word, kind, place and site
all_from : (w : FromWord) → has_since WRITTEN (from_since w) ≡ true
all_from from.Gregorian = refl
all_from _ = refl

all_to : (w : ToWord) → has_since WRITTEN (to_since w) ≡ true
all_to to.Gregorian = refl
all_to _ = refl

pub all_words : (r : Request) → IsTrue (has_words WRITTEN r)
all_words r = both_true (has_since WRITTEN (from_since r.from)) (has_since WRITTEN (to_since r.to)) (all_from r.from)
    (all_to r.to)

-- what has a name, and a first version that the written one has, is what the name leads to in the written version
kept_name : {A : Type 0} (since : A → Version) (o : Option A) (a : A) → o ≡ Some a → has_since WRITTEN (since a) ≡ true
    → had_in WRITTEN since o ≡ Some a
kept_name since o a e h = rw e (rw h refl)

kinds_had : (k : Kind) → has_since WRITTEN (kind_since k) ≡ true
unfolding kind_since
kinds_had kinds.Dt = refl
kinds_had _ = refl

places_had : (p : Place) → has_since WRITTEN (place_since p) ≡ true
unfolding place_since
places_had places.Beijing = refl
places_had _ = refl

sites_had : (s : Site) → has_since WRITTEN (site_since s) ≡ true
unfolding site_since
sites_had sites.Year = refl
sites_had _ = refl

pub all_kinds : (k : Kind) → kind_in WRITTEN (kind_name k) ≡ Some k
all_kinds k = kept_name kind_since (kind_named (kind_name k)) k (kind_found k) (kinds_had k)

pub all_places : (p : Place) → place_in WRITTEN (place_name p) ≡ Some p
all_places p = kept_name place_since (place_named (place_name p)) p (place_found p) (places_had p)

pub all_sites : (s : Site) → site_in WRITTEN (site_name s) ≡ Some s
all_sites s = kept_name site_since (site_named (site_name s)) s (site_found s) (sites_had s)
