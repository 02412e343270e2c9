use Rattle.arc_series.proofs.ArcLemmas.{as_arcsine, narrow_arcsine}
use Rattle.arc_series.proofs.degrees.arcsin_deg.Goals as goal

pub returns : goal.returns
returns g c = record {
  encloses = record {
    holds =
        λ w a h. as_arcsine g.E.Enclosure.shown w a _ (c.times.ensures.encloses.holds w _
        (c.arctan_deg.ensures.encloses.holds w _ (c.half_tangent.ensures.encloses.holds w a h)));
    narrow =
        λ r a h. narrow_arcsine g.E.Enclosure.shown _ r a _ (c.times.ensures.encloses.narrow r _
        (c.arctan_deg.ensures.encloses.narrow r _ (c.half_tangent.ensures.encloses.narrow r a h)));
  };
}
