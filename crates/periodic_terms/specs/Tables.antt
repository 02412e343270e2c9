-- The rows of the moon's tables as they are summed.
use Rattle.std.specs.Prelude.{unsigned_abs, pos, List, length, slice_range}
use Rattle.book_model.specs.declared.moon_tables.TheConstants.{MOON_TERMS}
use Rattle.book_model.specs.declared.moon_terms.LatitudeTerm.{LatitudeTerm}
use Rattle.book_model.specs.declared.moon_terms.MoonTerm.{MoonTerm}
use Rattle.book_model.specs.declared.moon_terms.NewMoonTerm.{NewMoonTerm}
use Rattle.periodic_terms.specs.declared.term_rows.Multiples.{Multiples}
use Rattle.periodic_terms.specs.declared.tables.TheConstants.{GREATEST_TERMS}

-- a term of the longitude
abbrev pub longitude_row_of : MoonTerm → Multiples
longitude_row_of t =
    record {
      elongation = t.elongation;
      sun_anomaly = t.sun_anomaly;
      moon_anomaly = t.moon_anomaly;
      latitude_argument = t.latitude_argument;
      quarters = 0;
      power = unsigned_abs t.sun_anomaly;
      size = t.longitude;
    }

-- a term of the distance, which goes by a cosine
abbrev pub distance_row_of : MoonTerm → Multiples
distance_row_of t =
    record {
      elongation = t.elongation;
      sun_anomaly = t.sun_anomaly;
      moon_anomaly = t.moon_anomaly;
      latitude_argument = t.latitude_argument;
      quarters = 1;
      power = unsigned_abs t.sun_anomaly;
      size = t.distance;
    }

-- a term of the latitude
abbrev pub latitude_row_of : LatitudeTerm → Multiples
latitude_row_of t =
    record {
      elongation = t.elongation;
      sun_anomaly = t.sun_anomaly;
      moon_anomaly = t.moon_anomaly;
      latitude_argument = t.latitude_argument;
      quarters = 0;
      power = unsigned_abs t.sun_anomaly;
      size = t.latitude;
    }

-- a term of a new moon
abbrev pub new_moon_row_of : NewMoonTerm → Multiples
new_moon_row_of t =
    record {
      elongation = pos 0;
      sun_anomaly = t.sun_anomaly;
      moon_anomaly = t.moon_anomaly;
      latitude_argument = t.latitude_argument;
      quarters = 0;
      power = t.eccentricity;
      size = t.size;
    }

-- the greatest terms of the longitude, the first of the table, and the others
abbrev pub greatest_rows : List MoonTerm
greatest_rows = slice_range MOON_TERMS 0 GREATEST_TERMS

abbrev pub other_rows : List MoonTerm
other_rows = slice_range MOON_TERMS GREATEST_TERMS (length MOON_TERMS)
