use Rattle.std.proofs.Common.{subst}
use Rattle.arc_series.specs.Forms.{AreHeld, of_span}
use Rattle.arc_series.specs.Widths.{Reaches}
use Rattle.arc_series.proofs.HeldArcs.{join_both, join_first, join_second, hull_first, hull_second}
use Rattle.arc_series.proofs.ArcParts.{both_reach, first_reaches, second_reach}
use Rattle.arc_series.proofs.pieces.hull_of_spans.Goals as goal

pub returns-in-Some-y : goal.returns-in-Some-y
returns-in-Some-y c = record {
  holds = λ i j h k.
      join_both of_span i j _ _ _ (subst (λ z. AreHeld of_span i z) c.in-Some.is h)
      (subst (λ z. AreHeld of_span j z) c.in-Some-y.is k)
      (hull_first _ _ _ _ _ _ c.hull.ensures.low c.hull.ensures.high)
      (hull_second _ _ _ _ _ _ c.hull.ensures.low c.hull.ensures.high);
  narrow = λ f e l j k lo hi o p q h g.
      both_reach f e l j k lo hi _ _ _ p q (subst (λ z. Reaches f e j lo hi z) c.in-Some.is h)
      (subst (λ z. Reaches e l k lo hi z) c.in-Some-y.is g)
      (record { low = c.hull.ensures.low; high = c.hull.ensures.high });
}

pub returns-in-None-y : goal.returns-in-None-y
returns-in-None-y c = record {
  holds = λ i j h k. join_first of_span i j _ (subst (λ z. AreHeld of_span i z) c.in-Some.is h)
      (subst (λ z. AreHeld of_span j z) c.in-None-y.is k);
  narrow =
      λ f e l j k lo hi o p q h g. first_reaches f e l j k lo hi _ o p q
      (subst (λ z. Reaches f e j lo hi z) c.in-Some.is h)
      (subst (λ z. Reaches e l k lo hi z) c.in-None-y.is g);
}

pub returns-in-None : goal.returns-in-None
returns-in-None c = record {
  holds = λ i j h k. join_second of_span i j _ (subst (λ z. AreHeld of_span i z) c.in-None.is h) k;
  narrow = λ f e l j k lo hi o p q h g. second_reach f e l j k lo hi _ o p q
      (subst (λ z. Reaches f e j lo hi z) c.in-None.is h) g;
}
