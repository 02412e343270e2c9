use Rattle.arc_series.proofs.ArcLemmas.{as_arccosine, narrow_arccosine}
use Rattle.arc_series.proofs.degrees.arccos_deg.Goals as goal

pub returns : goal.returns
returns g c = record {
  encloses = record {
    holds =
        λ w a h. as_arccosine g.E.Enclosure.shown w a _
        (c.sub.ensures.encloses.holds w _ _ (c.from_int.ensures.encloses.holds w h.deep)
        (c.arcsin_deg.ensures.encloses.holds w a h));
    narrow =
        λ r a h. narrow_arccosine g.E.Enclosure.shown _ r a _
        (c.sub.ensures.encloses.narrow r _ _ (c.from_int.ensures.encloses.narrow r)
        (c.arcsin_deg.ensures.encloses.narrow r a h));
  };
}
