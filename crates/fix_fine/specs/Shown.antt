-- The intervals that enclosures at scale 2^-56 show.
use Rattle.book_model.specs.Interval.{Interval, IsProper}
use Rattle.fix_fine.specs.declared.fine.Fine.{Fine}
use Rattle.interval_endpoints.specs.Shown.{shown_endpoints, endpoints_proper}

-- the interval that an enclosure shows
abbrev pub shown_fine : Fine → Interval
shown_fine x = shown_endpoints x.endpoints

-- its endpoints are in order
pub fine_proper : (x : Fine) → IsProper (shown_fine x)
fine_proper x = endpoints_proper x.endpoints
