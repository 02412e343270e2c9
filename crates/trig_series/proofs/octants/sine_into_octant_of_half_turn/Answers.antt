use Rattle.std.proofs.Common.{◌≡◌, arith, pos}
use Rattle.std.proofs.lemmas.Int.{ints}
use Rattle.trig_series.proofs.AngleLemmas.{into_0, into_1, into_2, into_3}
use Rattle.trig_series.proofs.TurnLemmas.{short_count, point_0, point_1, point_2, point_3}
use Rattle.trig_series.proofs.octants.sine_into_octant_of_half_turn.Goals as goal

pub returns-then-octant-eq0-clause-holds : goal.returns-then-octant-eq0-clause-holds
returns-then-octant-eq0-clause-holds c =
    λ n y l e. into_0 n c.args.octant y _ (omega (arith, ints, c.if-octant-eq0.true))
    (c.sine_endpoints_at_degrees.ensures.holds n y l e)

pub returns-then-octant-eq0-clause-near : goal.returns-then-octant-eq0-clause-near
returns-then-octant-eq0-clause-near c = point_0 c.args.octant c.args.degrees _ _
    (omega (arith, ints, c.if-octant-eq0.true)) c.sine_endpoints_at_degrees.ensures.near

pub returns-then-octant-eq1-clause-holds : goal.returns-then-octant-eq1-clause-holds
returns-then-octant-eq1-clause-holds c =
    λ n y l e. into_1 n c.args.octant y _ (omega (arith, ints, c.if-octant-eq1.true))
    (c.cosine_endpoints_at_degrees.ensures.holds n _ l (short_count c.args.degrees y c.requires.high e))

pub returns-then-octant-eq1-clause-near : goal.returns-then-octant-eq1-clause-near
returns-then-octant-eq1-clause-near c =
    point_1 c.args.octant c.args.degrees _ _ (omega (arith, ints, c.if-octant-eq1.true))
    c.cosine_endpoints_at_degrees.ensures.near

pub returns-then-octant-eq2-clause-holds : goal.returns-then-octant-eq2-clause-holds
returns-then-octant-eq2-clause-holds c =
    λ n y l e. into_2 n c.args.octant y _ (omega (arith, ints, c.if-octant-eq2.true))
    (c.cosine_endpoints_at_degrees-then-octant-eq2.ensures.holds n y l e)

pub returns-then-octant-eq2-clause-near : goal.returns-then-octant-eq2-clause-near
returns-then-octant-eq2-clause-near c =
    point_2 c.args.octant c.args.degrees _ _ (omega (arith, ints, c.if-octant-eq2.true))
    c.cosine_endpoints_at_degrees-then-octant-eq2.ensures.near

pub returns-clause-holds : goal.returns-clause-holds
returns-clause-holds c =
    let o : c.args.octant ≡ pos 3 = omega (
      arith,
      ints,
      c.requires.from,
      c.requires.to,
      c.if-octant-eq0.false,
      c.if-octant-eq1.false,
      c.if-octant-eq2.false,
    ) in
    λ n y l e. into_3 n c.args.octant y _ o (c.sine_endpoints_at_degrees-2.ensures.holds n _ l
    (short_count c.args.degrees y c.requires.high e))

pub returns-clause-near : goal.returns-clause-near
returns-clause-near c =
    let o : c.args.octant ≡ pos 3 = omega (
      arith,
      ints,
      c.requires.from,
      c.requires.to,
      c.if-octant-eq0.false,
      c.if-octant-eq1.false,
      c.if-octant-eq2.false,
    ) in
    point_3 c.args.octant c.args.degrees _ _ o c.sine_endpoints_at_degrees-2.ensures.near

pub returns-clause-begins : goal.returns-clause-begins
returns-clause-begins c =
    let o : c.args.octant ≡ pos 3 = omega (
      arith,
      ints,
      c.requires.from,
      c.requires.to,
      c.if-octant-eq0.false,
      c.if-octant-eq1.false,
      c.if-octant-eq2.false,
    ) in
    λ e. rw o (c.sine_endpoints_at_degrees-2.ensures.endpoints (omega (arith, e)))

pub returns-clause-endpoints : goal.returns-clause-endpoints
returns-clause-endpoints c =
    let o : c.args.octant ≡ pos 3 = omega (
      arith,
      ints,
      c.requires.from,
      c.requires.to,
      c.if-octant-eq0.false,
      c.if-octant-eq1.false,
      c.if-octant-eq2.false,
    ) in
    λ e. rw o (c.sine_endpoints_at_degrees-2.ensures.begins (omega (arith, e)))
