use Rattle.trig_series.proofs.SineLemmas.{tangent_holds, tangent_keeps}
use Rattle.trig_series.proofs.degrees.tan_deg.Goals as goal

pub returns : goal.returns
returns g c = record {
  encloses = record {
    holds =
        λ w a h. tangent_holds g.E.Enclosure.shown w a _
        (c.div.ensures.encloses.holds w _ _ (c.sin_deg.ensures.encloses.holds w _ h)
        (c.cos_deg.ensures.encloses.holds w _ h));
    narrow =
        λ r a h. tangent_keeps g.E.Enclosure.shown _ r a _
        (c.div.ensures.encloses.narrow r _ _ (c.sin_deg.ensures.encloses.narrow r _ h)
        (c.cos_deg.ensures.encloses.narrow r _ h));
  };
}
