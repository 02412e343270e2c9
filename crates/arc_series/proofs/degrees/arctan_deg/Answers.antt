use Rattle.std.proofs.Common.{refl}
use Rattle.book_model.proofs.Intervals.{within_trans}
use Rattle.arc_series.proofs.ArcLemmas.{arctangent_held, arctangent_all}
use Rattle.arc_series.proofs.ArcWidths.{arctangent_keeps, arctangent_keeps_all}
use Rattle.arc_series.proofs.SlowArcs.{arctangent_slow, nothing_slow}
use Rattle.arc_series.proofs.degrees.arctan_deg.Goals as goal

pub returns-in-Some-arctan_over : goal.returns-in-Some-arctan_over
returns-in-Some-arctan_over g c = record {
  encloses = record {
    holds =
        λ w a h. arctangent_held g.E.Enclosure.shown w a _ _ _ c.in-Some.ensures.holds
        (λ n d. within_trans (c.in-Some-arctan_over.ensures.holds n d) c.from_span.ensures.holds) h;
    narrow = λ r a h.
        arctangent_keeps g.E.Enclosure.shown _ r a _ _ c.in-Some.span.lo c.in-Some.span.hi c.in-Some-arctan_over.arc
        c.in-Some.span.ordered
        c.in-Some.ensures.holds c.in-Some.ensures.tight c.in-Some-arctan_over.ensures.narrow c.from_span.ensures.narrow
        h;
  };
  slow =
      arctangent_slow g.E.Enclosure.shown _ _ _ c.in-Some.span.lo c.in-Some.span.hi c.in-Some-arctan_over.arc
      c.in-Some.span.ordered c.in-Some.ensures.holds
      c.in-Some.ensures.tight c.in-Some-arctan_over.ensures.narrow c.from_span.ensures.narrow;
}

pub returns-in-None-arctan_over : goal.returns-in-None-arctan_over
returns-in-None-arctan_over g c = record {
  encloses = record {
    holds = λ w a h. arctangent_all g.E.Enclosure.shown w a _ _ c.whole.ensures.all h;
    narrow = λ r a h. absurd c.in-None-arctan_over.ensures.narrow;
  };
  slow = λ low p s w e t k. absurd c.in-None-arctan_over.ensures.narrow;
}

pub returns-in-None : goal.returns-in-None
returns-in-None g c = record {
  encloses = record {
    holds = λ w a h. arctangent_all g.E.Enclosure.shown w a _ _ c.whole-in-None.ensures.all h;
    narrow = λ r a h. arctangent_keeps_all g.E.Enclosure.shown _ r a _ _ (c.in-None.ensures.none refl) h;
  };
  slow = λ low p s w e t k. nothing_slow g.E.Enclosure.shown _ _ (c.in-None.ensures.none refl) _ _ _ _ _ _ k;
}
