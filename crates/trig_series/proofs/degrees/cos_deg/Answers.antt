use Rattle.std.proofs.Common.{refl}
use Rattle.trig_series.proofs.SineLemmas.{cosine_holds, cosine_somewhere, cosine_keeps, cosine_keeps_all}
use Rattle.trig_series.proofs.Measured.{cosine_within}
use Rattle.trig_series.proofs.degrees.cos_deg.Goals as goal

pub returns-in-Some : goal.returns-in-Some
returns-in-Some g c =
    let shown = g.E.Enclosure.shown in
    record {
      encloses = record {
        holds = λ w a h. cosine_holds shown w a _ _ _ _ _ _ c.in-Some.ensures.holds c.cosine_over_span.ensures.holds
            c.from_span.ensures.holds h;
        narrow = λ r a h.
            cosine_keeps shown _ r a _ _ _ _ _ _ c.in-Some.degrees.ordered c.cosine_over_span.result.ordered
            c.in-Some.ensures.holds c.in-Some.ensures.tight
            c.cosine_over_span.ensures.narrow c.from_span.ensures.narrow h;
      };
      measured = λ v e k.
          cosine_within shown _ v c.args.x c.from_span.result e k
          (λ r a h.
          cosine_keeps shown _ r a _ _ _ _ _ _ c.in-Some.degrees.ordered c.cosine_over_span.result.ordered
          c.in-Some.ensures.holds c.in-Some.ensures.tight
          c.cosine_over_span.ensures.narrow c.from_span.ensures.narrow h);
    }

pub returns-in-None : goal.returns-in-None
returns-in-None g c =
    let shown = g.E.Enclosure.shown in
    record {
      encloses = record {
        holds = λ w a h. cosine_somewhere shown w a _ _ _ _ c.all_sines.ensures.low c.all_sines.ensures.high
            c.from_span-in-None.ensures.holds h;
        narrow = λ r a h. cosine_keeps_all shown _ r a _ _ (c.in-None.ensures.none refl) h;
      };
      measured =
          λ v e k. cosine_within shown _ v c.args.x c.from_span-in-None.result e k
          (λ r a h. cosine_keeps_all shown _ r a _ _ (c.in-None.ensures.none refl) h);
    }
