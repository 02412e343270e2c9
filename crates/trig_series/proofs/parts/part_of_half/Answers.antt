use Rattle.std.proofs.Common.{◌≡◌, arith, pos}
use Rattle.std.proofs.lemmas.Int.{ints}
use Rattle.trig_series.proofs.AngleLemmas.{into_0, into_1, into_2, into_3}
use Rattle.trig_series.proofs.PartLemmas.{part_0, part_1, part_2, part_3}
use Rattle.trig_series.proofs.TurnLemmas.{short_count}
use Rattle.trig_series.proofs.parts.part_of_half.Goals as goal

pub returns-then-octant-eq0-clause-holds : goal.returns-then-octant-eq0-clause-holds
returns-then-octant-eq0-clause-holds c =
    λ n d y h from to same. into_0 n c.args.octant y _ (omega (arith, ints, c.if-octant-eq0.true))
    (c.sine_endpoints_over_degrees.ensures.holds n d y h from to same)

pub returns-then-octant-eq0-clause-near : goal.returns-then-octant-eq0-clause-near
returns-then-octant-eq0-clause-near c =
    part_0 c.args.octant c.args.from c.args.to _ _ (omega (arith, ints, c.if-octant-eq0.true))
    c.sine_endpoints_over_degrees.ensures.near

pub returns-then-octant-eq1-clause-holds : goal.returns-then-octant-eq1-clause-holds
returns-then-octant-eq1-clause-holds c = λ n d y h from to same.
    into_1 n c.args.octant y _ (omega (arith, ints, c.if-octant-eq1.true))
    (c.cosine_endpoints_over_degrees.ensures.holds n _ _ h (omega (arith, to)) (omega (arith, from))
    (short_count d y (omega (arith, to, c.requires.high)) same))

pub returns-then-octant-eq1-clause-near : goal.returns-then-octant-eq1-clause-near
returns-then-octant-eq1-clause-near c =
    part_1 c.args.octant c.args.from c.args.to _ _ (omega (arith, ints, c.if-octant-eq1.true))
    c.cosine_endpoints_over_degrees.ensures.near

pub returns-then-octant-eq2-clause-holds : goal.returns-then-octant-eq2-clause-holds
returns-then-octant-eq2-clause-holds c =
    λ n d y h from to same. into_2 n c.args.octant y _ (omega (arith, ints, c.if-octant-eq2.true))
    (c.cosine_endpoints_over_degrees-then-octant-eq2.ensures.holds n d y h from to same)

pub returns-then-octant-eq2-clause-near : goal.returns-then-octant-eq2-clause-near
returns-then-octant-eq2-clause-near c =
    part_2 c.args.octant c.args.from c.args.to _ _ (omega (arith, ints, c.if-octant-eq2.true))
    c.cosine_endpoints_over_degrees-then-octant-eq2.ensures.near

pub returns-clause-holds : goal.returns-clause-holds
returns-clause-holds c = λ n d y h from to same.
    let o : c.args.octant ≡ pos 3 =
    omega (
      arith,
      ints,
      c.requires.first,
      c.requires.last,
      c.if-octant-eq0.false,
      c.if-octant-eq1.false,
      c.if-octant-eq2.false,
    ) in
    into_3 n c.args.octant y _ o (c.sine_endpoints_over_degrees-2.ensures.holds n _ _ h (omega (arith, to))
    (omega (arith, from))
    (short_count d y (omega (arith, to, c.requires.high)) same))

pub returns-clause-near : goal.returns-clause-near
returns-clause-near c =
    let o : c.args.octant ≡ pos 3 =
    omega (
      arith,
      ints,
      c.requires.first,
      c.requires.last,
      c.if-octant-eq0.false,
      c.if-octant-eq1.false,
      c.if-octant-eq2.false,
    ) in
    part_3 c.args.octant c.args.from c.args.to _ _ o c.sine_endpoints_over_degrees-2.ensures.near
