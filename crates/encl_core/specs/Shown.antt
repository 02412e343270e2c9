-- The intervals that enclosures at scale 2^-36 show.
use Rattle.book_model.specs.Interval.{Interval, IsProper}
use Rattle.encl_core.specs.declared.coarse.Coarse.{Coarse}
use Rattle.interval_endpoints.specs.Shown.{shown_endpoints, endpoints_proper}

-- the interval that an enclosure shows
abbrev pub shown_coarse : Coarse → Interval
shown_coarse x = shown_endpoints x.endpoints

-- its endpoints are in order
pub coarse_proper : (x : Coarse) → IsProper (shown_coarse x)
coarse_proper x = endpoints_proper x.endpoints
