use Rattle.arc_series.proofs.ArcValues.{near_held, near_mirrored}
use Rattle.arc_series.proofs.kernel.arc_of_number_64.Goals as goal

pub returns-clause-holds : goal.returns-clause-holds
returns-clause-holds c = λ n x l g.
    near_held n c.args.number c.high_half.result c.terms-sum.result c.high_half-radians.result c.high_half-2.result _ _
    x l
    (record {
      small =
          c.requires.half;
      square =
          c.high_half.ensures.value;
      sum = c.terms-sum.ensures.near;
      below = c.terms-sum.ensures.below;
      radians = c.high_half-radians.ensures.value;
    })
    (record {
      degrees = c.high_half-2.ensures.value;
      low = c.span_around.ensures.low;
      high = c.span_around.ensures.high;
    })
    g

pub returns-clause-mirrored : goal.returns-clause-mirrored
returns-clause-mirrored c = λ n x l m g.
    near_mirrored n c.args.number c.high_half.result c.terms-sum.result c.high_half-radians.result c.high_half-2.result
    _ _ x l m
    (record {
      small =
          c.requires.half;
      square =
          c.high_half.ensures.value;
      sum = c.terms-sum.ensures.near;
      below = c.terms-sum.ensures.below;
      radians = c.high_half-radians.ensures.value;
    })
    (record {
      degrees = c.high_half-2.ensures.value;
      low = c.span_around.ensures.low;
      high = c.span_around.ensures.high;
    })
    g
