use Rattle.rise_set.proofs.Measured.{latitude_within, tangent_within, cosine_within, sine_within}
use Rattle.rise_set.proofs.skyline.horizon_at.Goals as goal

pub returns-clause-measured : goal.returns-clause-measured
returns-clause-measured g c = λ e p d.
    let shown = g.E.Enclosure.shown in
    let x = latitude_within shown _ c.args.location.now.latitude c.from_frac-latitude.result e p.latitude
    (λ r. c.from_frac-latitude.ensures.encloses.narrow r) in
    record {
      place = p.place;
      tangent = tangent_within shown _ c.from_frac-latitude.result c.tan_deg.result e x
          (λ r q. c.tan_deg.ensures.encloses.narrow r q);
      cosine = cosine_within shown _ c.from_frac-latitude.result c.cos_deg.result e x
          (λ r q. c.cos_deg.ensures.encloses.narrow r q);
      sine = sine_within shown _ c.args.depression c.sin_deg.result e d (λ r q. c.sin_deg.ensures.encloses.narrow r q);
    }

pub returns-clause-holds : goal.returns-clause-holds
returns-clause-holds g c = λ w a h.
    let x = c.from_frac-latitude.ensures.encloses.holds w h.deep in
    record {
      tangent = c.tan_deg.ensures.encloses.holds w _ x;
      cosine = c.cos_deg.ensures.encloses.holds w _ x;
      sine = c.sin_deg.ensures.encloses.holds w a h;
    }

pub returns-clause-whole : goal.returns-clause-whole
returns-clause-whole g c = λ a h n. record {
  holds = λ w d. returns-clause-holds g c w a (h w d);
  narrow = λ e p. returns-clause-measured g c e p (n e p);
}
