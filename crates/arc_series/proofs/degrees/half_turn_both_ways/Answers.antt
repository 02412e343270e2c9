use Rattle.arc_series.proofs.ArcLemmas.{around_held, around_inside}
use Rattle.arc_series.proofs.degrees.half_turn_both_ways.Goals as goal

pub returns-clause-holds : goal.returns-clause-holds
returns-clause-holds g c = around_held g.E.Enclosure.shown _ c.from_span.ensures.holds

pub returns-clause-inside : goal.returns-clause-inside
returns-clause-inside g c = around_inside g.E.Enclosure.shown _ _ c.from_span.ensures.narrow
