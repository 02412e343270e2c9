use Rattle.std.proofs.Common.{refl, arith, rules, SFits, ◌+◌, ◌*◌, ◌^◌}
use Rattle.std.specs.Int.{w128}
use Rattle.std.proofs.lemmas.Int.{ints, to_z-of_z}
use Rattle.arc_series.proofs.ArcLemmas.{upper_held, lower_held, somewhere_held, narrow_two, sure_above, sure_below}
use Rattle.encl_core.proofs.Measuring.{looser}
use Rattle.arc_series.proofs.SlowArcs.{nothing_slow}
use Rattle.arc_series.proofs.Directions.{direction_within, start_positive}
use Rattle.arc_series.proofs.degrees.arctan2_deg.Goals as goal

pub returns-in_default-clause-encloses : goal.returns-in_default-clause-encloses
returns-in_default-clause-encloses g c = record {
  holds = λ w a b h k. somewhere_held g.E.Enclosure.shown w a b _ _ c.half_turn_both_ways.ensures.holds h;
  narrow = λ r a b h k. narrow_two g.E.Enclosure.shown _ r a b _;
}

pub returns-then-span-gt0-clause-encloses : goal.returns-then-span-gt0-clause-encloses
returns-then-span-gt0-clause-encloses g c = record {
  holds = let fl : SFits w128 c.in-Some.span.lo = search rules in
      let s = simp to_z-of_z at c.if-span-gt0.true in
      λ w a b h k.
      upper_held g.E.Enclosure.shown w a b _ c.sub.result _ c.in-Some.span.lo c.in-Some.span.hi (omega (arith, ints, s))
      c.in-Some.ensures.holds h
      (c.sub.ensures.encloses.holds w _ _ (c.from_int.ensures.encloses.holds w h.deep)
      (c.arctan_deg.ensures.encloses.holds w _ (c.div.ensures.encloses.holds w b a k h)))
      (record { holds = c.kept_around.ensures.holds; all = c.kept_around.ensures.all });
  narrow = λ r a b h k. narrow_two g.E.Enclosure.shown _ r a b _;
}

pub returns-then-span-gt0-clause-unsure : goal.returns-then-span-gt0-clause-unsure
returns-then-span-gt0-clause-unsure g c =
    let fl : SFits w128 c.in-Some.span.lo = search rules in
    let s = simp to_z-of_z at c.if-span-gt0.true in
    sure_above _ _ c.in-Some.span.lo c.in-Some.span.hi c.in-Some.ensures.holds (omega (arith, ints, s))

pub returns-then-span-lt0-clause-encloses : goal.returns-then-span-lt0-clause-encloses
returns-then-span-lt0-clause-encloses g c = record {
  holds = let fh : SFits w128 c.in-Some.span.hi = search rules in
      let s = simp to_z-of_z at c.if-span-lt0.true in
      λ w a b h k.
      lower_held g.E.Enclosure.shown w a b _ c.sub-then-span-lt0.result _ c.in-Some.span.lo c.in-Some.span.hi
      (omega (arith, ints, s)) c.in-Some.ensures.holds h
      (c.sub-then-span-lt0.ensures.encloses.holds w _ _ (c.from_int-then-span-lt0.ensures.encloses.holds w h.deep)
      (c.arctan_deg-then-span-lt0.ensures.encloses.holds w _ (c.div-then-span-lt0.ensures.encloses.holds w b a k h)))
      (record { holds = c.kept_around-then-span-lt0.ensures.holds; all = c.kept_around-then-span-lt0.ensures.all });
  narrow = λ r a b h k. narrow_two g.E.Enclosure.shown _ r a b _;
}

pub returns-then-span-lt0-clause-unsure : goal.returns-then-span-lt0-clause-unsure
returns-then-span-lt0-clause-unsure g c =
    let fh : SFits w128 c.in-Some.span.hi = search rules in
    let s = simp to_z-of_z at c.if-span-lt0.true in
    sure_below _ _ c.in-Some.span.lo c.in-Some.span.hi c.in-Some.ensures.holds (omega (arith, ints, s))

pub returns-clause-encloses : goal.returns-clause-encloses
returns-clause-encloses g c = record {
  holds = λ w a b h k. somewhere_held g.E.Enclosure.shown w a b _ _ c.half_turn_both_ways-2.ensures.holds h;
  narrow = λ r a b h k. narrow_two g.E.Enclosure.shown _ r a b _;
}

pub returns-in_default-clause-measured : goal.returns-in_default-clause-measured
returns-in_default-clause-measured g c = λ v e l hy hx. nothing_slow g.E.Enclosure.shown c.args.y _
    (c.in_default.ensures.none refl) _ _ _ _ _ _ hy

pub returns-then-span-gt0-clause-measured : goal.returns-then-span-gt0-clause-measured
returns-then-span-gt0-clause-measured g c = λ v e l hy hx.
    let shown = g.E.Enclosure.shown in
    let d =
    direction_within shown _ v c.args.y c.args.x e l hy hx c.div.result (λ r a b. c.div.ensures.encloses.narrow r a b)
    c.arctan_deg.result c.from_int.result
    c.sub.result c.arctan_deg.ensures.slow (λ r a. c.arctan_deg.ensures.encloses.narrow r a)
    (λ r. c.from_int.ensures.encloses.narrow r)
    (λ r a b. c.sub.ensures.encloses.narrow r a b) in
    looser _ _ _ _ _ (230 * v + 2 ^ 20) _ (omega (arith, ints)) (omega (arith, ints)) (omega arith)
    (c.kept_around.ensures.narrow _ _ e d)

pub returns-then-span-lt0-clause-measured : goal.returns-then-span-lt0-clause-measured
returns-then-span-lt0-clause-measured g c =
    let fh : SFits w128 c.in-Some.span.hi = search rules in
    let s = simp to_z-of_z at c.if-span-lt0.true in
    λ v e l hy hx. absurd
    (omega (
      arith,
      ints,
      s,
      c.in-Some.span.ordered,
      start_positive _ v _ c.in-Some.span.lo c.in-Some.span.hi hy
          c.in-Some.ensures.tight,
    ))

pub returns-clause-measured : goal.returns-clause-measured
returns-clause-measured g c =
    let fl : SFits w128 c.in-Some.span.lo = search rules in
    let s = simp to_z-of_z at c.if-span-gt0.false in
    λ v e l hy hx. absurd
    (omega (arith, ints, s, start_positive _ v _ c.in-Some.span.lo c.in-Some.span.hi hy c.in-Some.ensures.tight))
